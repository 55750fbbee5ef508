-- The image of a table as it is written from the order word, the salt word, the keys and their tags, and what a writing of it meets. Assumes nothing.
use mathlib.Core.Bool.{true, cond}
use mathlib.Core.List.{List}
use mathlib.Core.Path.{◌≡◌, sym, ap, ◌∙◌}
use Prim.Native.Nat.{ℕ, ◌<◌, ◌≤◌}
use native.Mathlib.Omega.{arith}
use lib.ListN.{length, get_or}
use borrow.Author.Tests.{le-leb, lt-leb}
use Rattle.std.specs.Prelude.{Result, Ok, Err}
use Rattle.lists.specs.Lists.{overwrite}
use Rattle.table.specs.Contents.{Entry, keys_in}
use Rattle.table.specs.Tags.{tags_in, tagged}
use Rattle.table.specs.Layout.{most_slots, table_words, order_word, salt_word}
use Rattle.table.specs.Table.{contents_of}
use Rattle.table.specs.Sound.{sound_with}
use Rattle.table.proofs.Tagged.{tagged_is}
use Rattle.table.proofs.Soundness.{sound_measures}
use Rattle.image.specs.Image.{image_of}
use Rattle.image_parts.specs.Written.{written_to}
use Rattle.call_replies.specs.Replies.{sized_of}
use Rattle.call_replies.specs.declared.Refusal.{Refusal}
use Rattle.call_replies.specs.declared.Refusal.TheVariants.{OutputTooShort}
use Rattle.call_meaning.specs.Calls.{write_reply, write_output}
use Rattle.call_meaning.proofs.Texts

module _ (words output : List ℕ) (many : ℕ) (some : 0 < many) (most : many ≤ most_slots) (long : length words ≡ table_words many) (sound : sound_with many words ≡ true)
    (keys tags : List ℕ) (found : keys ≡ keys_in (contents_of many words)) (beside : tags ≡ tags_in (contents_of many words)) where
  -- What a writing that answers so and leaves this output meets.
  abbrev pub Meets : Result ℕ Refusal → List ℕ → Type 0
  Meets answer after = record {
    reply_value : sized_of answer ≡ write_reply words output;
    output_after : after ≡ write_output words output;
  }

  abbrev drawn : List ℕ
  drawn = image_of (tagged (get_or words order_word 0) (get_or words salt_word 0) keys tags)

  image_shown : image_of (contents_of many words) ≡ drawn
  unfolding contents_of
  image_shown =
      ap (λ (es : List Entry). image_of (record { order = get_or words order_word 0; salt = get_or words salt_word 0; entries = es }))
      (sym (tagged_is (contents_of many words).entries (sound_measures many words sound) found beside))

  module _ (n : ℕ) (size : n ≡ length drawn) (after : List ℕ) (wrote : after ≡ written_to output drawn) where
    pub refused_short : length output < n → Meets (Err OutputTooShort) after
    unfolding written_to
    refused_short h =
        Texts.refused_short image_of words output many some most long sound n (size ∙ ap length (sym image_shown)) h after
        (wrote ∙ ap (λ b. cond b (overwrite output 0 drawn) output) (lt-leb (length drawn) (length output) (omega arith)))

    pub accepted : n ≤ length output → Meets (Ok n) after
    unfolding written_to
    accepted h =
        Texts.accepted image_of words output many some most long sound n (size ∙ ap length (sym image_shown)) h after
        (wrote ∙ ap (λ b. cond b (overwrite output 0 drawn) output) (le-leb (length drawn) (length output) (omega arith)) ∙ ap (overwrite output 0) (sym image_shown))
