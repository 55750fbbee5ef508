-- What the tests of a reading say of its reply and of the table after it. Assumes nothing.
use mathlib.Core.Bool.{true, false}
use mathlib.Core.List.{List}
use mathlib.Core.Path.{◌≡◌, ap, ◌∙◌}
use Prim.Native.Nat.{ℕ, ◌<◌, ◌≤◌}
use native.Mathlib.Omega.{arith}
use lib.Dec.{eqb}
use lib.ListN.{length}
use borrow.Author.Tests.{lt-ltb, le-ltb}
use Rattle.std.specs.Prelude.{Result, Ok, Err}
use Rattle.table.specs.Contents.{Contents, keys_in}
use Rattle.table.specs.Layout.{most_slots, table_words}
use Rattle.table.specs.Table.{fresh}
use Rattle.table_limits.specs.Lengths.{slots_for}
use Rattle.image.specs.Image.{read_image, is_image}
use Rattle.call_replies.specs.Replies.{done_of}
use Rattle.call_replies.specs.declared.Refusal.{Refusal}
use Rattle.call_replies.specs.declared.Refusal.TheVariants.{WrongLength, NotAnImage, TooManyKeys}
use Rattle.call_meaning.specs.Reasons.{wrong_length, not_an_image, too_many_keys}
use Rattle.call_meaning.specs.Calls.{rewritten, read_refusal, read_reply, read_after}
use Rattle.call_meaning.proofs.Judged.{slots_here, right_length}

module _ (words bytes : List ℕ) where
  -- What a reading that answers so and leaves these words meets.
  abbrev pub Meets : Result Unit Refusal → List ℕ → Type 0
  Meets answer after = record {
    reply_value : done_of answer ≡ read_reply words bytes;
    table_after : after ≡ read_after words bytes;
  }

  pub refused_length : slots_for (length words) ≡ 0 → Meets (Err WrongLength) words
  unfolding read_reply read_after read_refusal wrong_length
  refused_length e = record { reply_value = rw e; table_after = rw e }

  module _ (many : ℕ) (some : 0 < many) (most : many ≤ most_slots) (long : length words ≡ table_words many) where
    slots_right : eqb (slots_for (length words)) 0 ≡ false
    slots_right = right_length words many some most long

    pub refused_bytes : is_image bytes ≡ false → Meets (Err NotAnImage) words
    unfolding read_reply read_after read_refusal wrong_length not_an_image
    refused_bytes e = record { reply_value = rw (slots_right, e); table_after = rw (slots_right, e) }

    module _ (one : is_image bytes ≡ true) where
      pub refused_many : many < length (keys_in (read_image bytes)) → Meets (Err TooManyKeys) words
      unfolding read_reply read_after read_refusal wrong_length not_an_image too_many_keys
      refused_many h =
          let more = lt-ltb (slots_for (length words)) (length (keys_in (read_image bytes))) (omega (arith, slots_here words many some most long)) in
          record { reply_value = rw (slots_right, one, more); table_after = rw (slots_right, one, more) }

      pub accepted : length (keys_in (read_image bytes)) ≤ many → (made : Contents) → made ≡ read_image bytes → (after : List ℕ) → after ≡ fresh many made → Meets (Ok tt) after
      unfolding read_reply read_after read_refusal wrong_length not_an_image too_many_keys rewritten
      accepted h made e after q =
          let here = slots_here words many some most long in
          let fit = le-ltb (slots_for (length words)) (length (keys_in (read_image bytes))) (omega arith) in
          record { reply_value = rw (slots_right, one, fit); table_after = rw (slots_right, one, fit, here) (q ∙ ap (fresh many) e) }
