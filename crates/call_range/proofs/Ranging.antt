-- What the tests of a range say of its reply and of the output after it. Assumes nothing.
use mathlib.Core.Bool.{true, false}
use mathlib.Core.List.{List}
use mathlib.Core.Logic.{◌≢◌}
use mathlib.Core.Path.{◌≡◌, sym, ap, ◌∙◌}
use Prim.Native.Nat.{ℕ, ◌<◌, ◌≤◌}
use lib.Dec.{eqb, ltb}
use lib.ListN.{length}
use borrow.Author.Tests.{ne_eqb, lt-ltb, le-ltb}
use Rattle.std.specs.Prelude.{Result, Ok, Err}
use Rattle.lists.specs.Lists.{overwrite}
use Rattle.table.specs.Contents.{Contents, keys_in}
use Rattle.table.specs.Layout.{most_slots, table_words}
use Rattle.table.specs.Table.{contents_of}
use Rattle.table.specs.Sound.{sound_with}
use Rattle.table_limits.specs.Lengths.{slots_for}
use Rattle.intervals.specs.Intervals.{within}
use Rattle.call_replies.specs.Replies.{sized_of}
use Rattle.call_replies.specs.declared.Refusal.{Refusal}
use Rattle.call_replies.specs.declared.Refusal.TheVariants.{WrongLength, LowAboveHigh, NotSound, OutputTooShort}
use Rattle.call_meaning.specs.Reasons.{wrong_length, low_above_high, not_sound, output_too_short, shown}
use Rattle.call_meaning.proofs.Judged.{right_length, judged, shown_is}
use Rattle.call_meaning.specs.Calls.{range_refusal, range_reply, range_output}

module _ (words : List ℕ) (low high : ℕ) (output : List ℕ) where
  -- What a range that answers so and leaves this output meets.
  abbrev pub Meets : Result ℕ Refusal → List ℕ → Type 0
  Meets answer after = record {
    reply_value : sized_of answer ≡ range_reply words low high output;
    output_after : after ≡ range_output words low high output;
  }

  pub refused_length : slots_for (length words) ≡ 0 → Meets (Err WrongLength) output
  unfolding range_reply range_output range_refusal wrong_length
  refused_length e = record { reply_value = rw e; output_after = rw e }

  pub refused_order : slots_for (length words) ≢ 0 → high < low → Meets (Err LowAboveHigh) output
  unfolding range_reply range_output range_refusal wrong_length low_above_high
  refused_order d h =
      let r = ne_eqb (slots_for (length words)) 0 d in
      let above = lt-ltb high low h in
      record { reply_value = rw (r, above); output_after = rw (r, above) }

  module _ (many : ℕ) (some : 0 < many) (most : many ≤ most_slots) (long : length words ≡ table_words many) (ordered : low ≤ high) where
    slots_right : eqb (slots_for (length words)) 0 ≡ false
    slots_right = right_length words many some most long

    in_order : ltb high low ≡ false
    in_order = le-ltb high low ordered

    pub refused_table : sound_with many words ≡ false → Meets (Err NotSound) output
    unfolding range_reply range_output range_refusal wrong_length low_above_high not_sound
    refused_table e =
        let unsound = judged words many some most long false e in
        record { reply_value = rw (slots_right, in_order, unsound); output_after = rw (slots_right, in_order, unsound) }

    -- the keys of the range, and how many they are
    module _ (sound : sound_with many words ≡ true) (chosen : List ℕ) (found : chosen ≡ within low high (keys_in (contents_of many words))) where
      chosen_shown : within low high (keys_in (shown words)) ≡ chosen
      chosen_shown = ap (λ (c : Contents). within low high (keys_in c)) (shown_is words many some most long) ∙ sym found

      pub refused_short : length output < length chosen → Meets (Err OutputTooShort) output
      unfolding range_reply range_output range_refusal wrong_length low_above_high not_sound output_too_short
      refused_short h =
          let right = judged words many some most long true sound in
          let short = lt-ltb (length output) (length chosen) h in
          record { reply_value = rw (chosen_shown, slots_right, in_order, right, short); output_after = rw (chosen_shown, slots_right, in_order, right, short) }

      pub accepted : length chosen ≤ length output → (n : ℕ) → n ≡ length chosen → (after : List ℕ) → after ≡ overwrite output 0 chosen
          → Meets (Ok n) after
      unfolding range_reply range_output range_refusal wrong_length low_above_high not_sound output_too_short
      accepted h n e after q =
          let right = judged words many some most long true sound in
          let fits = le-ltb (length output) (length chosen) h in
          record { reply_value = rw (chosen_shown, slots_right, in_order, right, fits, e); output_after = rw (chosen_shown, slots_right, in_order, right, fits) q }
