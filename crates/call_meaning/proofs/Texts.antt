-- What the tests of a call that writes a text of what the table shows say of its reply and of the output after it. Assumes nothing.
use mathlib.Core.Bool.{true, false}
use mathlib.Core.List.{List, [], ◌∷◌}
use mathlib.Core.Path.{◌≡◌, ap}
use Prim.Native.Nat.{ℕ, ◌<◌, ◌≤◌}
use native.Mathlib.Omega.{arith}
use lib.Dec.{eqb}
use lib.ListN.{length}
use borrow.Author.Tests.{lt-ltb, le-ltb}
use Rattle.lists.specs.Lists.{overwrite}
use Rattle.table.specs.Contents.{Contents}
use Rattle.table.specs.Layout.{most_slots, table_words}
use Rattle.table.specs.Table.{contents_of}
use Rattle.table.specs.Sound.{sound_with}
use Rattle.table_limits.specs.Lengths.{slots_for}
use Rattle.call_replies.specs.Replies.{Reply}
use Rattle.call_meaning.specs.Reasons.{wrong_length, not_sound, output_too_short, shown}
use Rattle.call_meaning.specs.Calls.{text_refusal, text_reply, text_output}
use Rattle.call_meaning.proofs.Judged.{right_length, judged, shown_is}

-- A refusal under a number, with its zero.
abbrev refused : ℕ → Reply
refused number = record { refusal = number; numbers = 0 ∷ [] }

module _ (text : Contents → List ℕ) (words output : List ℕ) where
  -- What a call that replies so and leaves this output meets.
  abbrev pub Meets : Reply → List ℕ → Type 0
  Meets reply after = record {
    reply_value : reply ≡ text_reply text words output;
    output_after : after ≡ text_output text words output;
  }

  pub refused_length : slots_for (length words) ≡ 0 → Meets (refused 1) output
  unfolding text_reply text_output text_refusal wrong_length
  refused_length e = record { reply_value = rw e; output_after = rw e }

  module _ (many : ℕ) (some : 0 < many) (most : many ≤ most_slots) (long : length words ≡ table_words many) where
    slots_right : eqb (slots_for (length words)) 0 ≡ false
    slots_right = right_length words many some most long

    pub refused_table : sound_with many words ≡ false → Meets (refused 7) output
    unfolding text_reply text_output text_refusal wrong_length not_sound
    refused_table e =
        let unsound = judged words many some most long false e in
        record { reply_value = rw (slots_right, unsound); output_after = rw (slots_right, unsound) }

    module _ (sound : sound_with many words ≡ true) (n : ℕ) (size : n ≡ length (text (contents_of many words))) where
      text_here : text (shown words) ≡ text (contents_of many words)
      text_here = ap text (shown_is words many some most long)

      pub refused_short : length output < n → (after : List ℕ) → after ≡ output → Meets (refused 11) after
      unfolding text_reply text_output text_refusal wrong_length not_sound output_too_short
      refused_short h after e =
          let right = judged words many some most long true sound in
          let short = lt-ltb (length output) (length (text (contents_of many words))) (omega (arith, size)) in
          record { reply_value = rw (text_here, slots_right, right, short); output_after = rw (text_here, slots_right, right, short) e }

      pub accepted : n ≤ length output → (after : List ℕ) → after ≡ overwrite output 0 (text (contents_of many words)) → Meets (record { refusal = 0; numbers = n ∷ [] }) after
      unfolding text_reply text_output text_refusal wrong_length not_sound output_too_short
      accepted h after e =
          let right = judged words many some most long true sound in
          let fits = le-ltb (length output) (length (text (contents_of many words))) (omega (arith, size)) in
          record { reply_value = rw (text_here, slots_right, right, fits, size); output_after = rw (text_here, slots_right, right, fits) e }
