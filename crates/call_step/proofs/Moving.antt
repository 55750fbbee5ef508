-- What the tests of a step say of its answer and of the place after it. Assumes nothing.
use mathlib.Core.Bool.{Bool, true, false}
use mathlib.Core.List.{List}
use mathlib.Core.Logic.{◌≢◌}
use mathlib.Core.Path.{◌≡◌, sym}
use Prim.Native.Nat.{ℕ}
use native.Mathlib.Omega.{arith}
use lib.Dec.{eqb}
use lib.ListN.{length}
use borrow.Author.Tests.{ne_eqb}
use Rattle.std.specs.Prelude.{Option, Some, None, Result, Ok, Err}
use Rattle.table.specs.Table.{contents_of}
use Rattle.table_limits.specs.Lengths.{slots_for}
use Rattle.table_judge.specs.Judge.{is_sound}
use Rattle.table.specs.Contents.{keys_in}
use Rattle.table_least.specs.LeastKey.{least_within, IsOrZero}
use Rattle.call_replies.specs.Replies.{stepped_of}
use Rattle.call_replies.specs.declared.Refusal.{Refusal}
use Rattle.call_replies.specs.declared.Refusal.TheVariants.{WrongLength, NotSound}
use Rattle.call_meaning.specs.Reasons.{wrong_length, not_sound, shown}
use Rattle.call_step.specs.declared.Place.{Place}
use Rattle.call_step.specs.Steps.{place_of, place_from, step_refusal, sought, yielded, moved, place_after, step_reply, step_place}

-- ---- a step that is not turned down
module _ (words : List ℕ) (some : slots_for (length words) ≢ 0) (sound : is_sound words ≡ true) where
  pub accepted : step_refusal words ≡ 0
  unfolding step_refusal wrong_length not_sound
  accepted = rw (ne_eqb (slots_for (length words)) 0 some, sound)

-- ---- a step
module _ (words : List ℕ) (next high : ℕ) (done : Bool) where
  abbrev pub place : Place
  place = place_of next high done

  -- What a step that answers so meets.
  abbrev pub Meets : Result (Option ℕ) Refusal → Type 0
  Meets answer = record {
    answer_value : stepped_of answer ≡ step_reply words place;
    place_value : place_after answer place ≡ step_place words place;
  }

  pub refused_length : slots_for (length words) ≡ 0 → Meets (Err WrongLength)
  unfolding step_reply step_place step_refusal wrong_length
  refused_length e = record { answer_value = rw e; place_value = rw e }

  module _ (some : slots_for (length words) ≢ 0) where
    pub refused_table : is_sound words ≡ false → Meets (Err NotSound)
    unfolding step_reply step_place step_refusal wrong_length not_sound
    refused_table unsound =
        let right = ne_eqb (slots_for (length words)) 0 some in
        record { answer_value = rw (right, unsound); place_value = rw (right, unsound) }

    module _ (sound : is_sound words ≡ true) where
      taken_up : step_refusal words ≡ 0
      taken_up = accepted words some sound

      pub was_done : done ≡ true → Meets (Ok None)
      unfolding step_reply step_place
      was_done e = record { answer_value = rw (taken_up, e); place_value = rw (taken_up, e) }

      module _ (left : done ≡ false) where
        key_sought : (key : ℕ) → key ≡ least_within next high (keys_in (contents_of (slots_for (length words)) words)) → sought words (place_from next high) ≡ key
        unfolding sought shown
        key_sought key found = sym found

        -- the least key of the place, or the end
        pub answered : (least : Option ℕ) → IsOrZero least (least_within next high (keys_in (contents_of (slots_for (length words)) words))) → Meets (Ok least)
        unfolding step_reply step_place yielded moved
        answered None none =
            let sought_none = key_sought 0 (sym none) in
            record { answer_value = rw (taken_up, left, sought_none); place_value = rw (taken_up, left, sought_none) }
        answered (Some key) (found, some) =
            let key_is = key_sought key found in
            let one : eqb key 0 ≡ false = ne_eqb key 0 (λ e. omega arith) in
            record { answer_value = rw (taken_up, left, key_is, one); place_value = rw (taken_up, left, key_is, one) }
