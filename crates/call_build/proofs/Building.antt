-- What the tests of a build say of its reply and of the words after it. Assumes nothing.
use mathlib.Core.Bool.{true, false}
use mathlib.Core.List.{List}
use mathlib.Core.Path.{◌≡◌, ap, ◌∙◌}
use Prim.Native.Nat.{ℕ, ◌<◌, ◌≤◌}
use native.Mathlib.Omega.{arith}
use lib.Dec.{eqb, ltb}
use lib.IntN.{ℤ}
use lib.ListN.{length}
use borrow.Author.Tests.{ne_eqb, lt-ltb, le-ltb}
use Rattle.std.specs.Prelude.{Result, Ok, Err, Some, None}
use Rattle.measure.specs.Measure.{measures_beside, are_measured}
use Rattle.table.specs.Layout.{most_slots}
use Rattle.table.specs.Contents.{Contents, table_order, new_order, rising_keys, entries_with}
use Rattle.table.specs.Table.{fresh}
use Rattle.table_limits.specs.Lengths.{slots_for, slots_if}
use Rattle.table_limits.proofs.Lengths.{SlotsOf, slots_none, slots_some, slots_sized}
use Rattle.table_prepare.specs.Prepared.{Keys}
use Rattle.table_prepare.proofs.Writable.{writable}
use Rattle.call_replies.specs.Replies.{done_of}
use Rattle.call_replies.specs.declared.Refusal.{Refusal}
use Rattle.call_replies.specs.declared.Refusal.TheVariants.{WrongLength, WrongOrder, NotRising, WrongMeasure, TooManyKeys}
use Rattle.call_meaning.specs.Reasons.{wrong_length, wrong_order, not_rising, wrong_measures, too_many_keys}
use Rattle.call_meaning.specs.Calls.{rewritten, build_refusal, build_reply, build_after}
use Rattle.table_decode.proofs.RisingKeys.{rising_says}

-- What a build is handed.
pub record Handed : Type 0 where
  pub words : List ℕ
  pub order : ℕ
  pub salt : ℕ
  pub list : List ℕ
  pub lengths : List ℕ
  pub corrections : List ℤ

module _ (h : Handed) where
  -- What a build that answers so and leaves these words meets.
  abbrev pub Meets : Result Unit Refusal → List ℕ → Type 0
  Meets answer after =
      (done_of answer ≡ build_reply h.words h.order h.list h.lengths h.corrections) × (after ≡ build_after h.words h.order h.salt h.list h.lengths h.corrections)

  pub refused_length : slots_if (slots_for (length h.words)) ≡ None → Meets (Err WrongLength) h.words
  unfolding build_reply build_after build_refusal wrong_length
  refused_length e = let none = slots_none (slots_for (length h.words)) e in (rw none, rw none)

  module _ (many : ℕ) (here : slots_if (slots_for (length h.words)) ≡ Some many) where
    same_slots : slots_for (length h.words) ≡ many
    same_slots = (slots_some (slots_for (length h.words)) many here).0

    pub sized : SlotsOf most_slots (length h.words) many
    sized = slots_sized (length h.words) many here

    right_length : eqb (slots_for (length h.words)) 0 ≡ false
    right_length = ne_eqb (slots_for (length h.words)) 0 (λ e. omega (arith, same_slots, sized.some))

    pub refused_order : new_order h.order ≡ false → Meets (Err WrongOrder) h.words
    unfolding build_reply build_after build_refusal wrong_length wrong_order
    refused_order e = (rw (right_length, e), rw (right_length, e))

    module _ (right : new_order h.order ≡ true) where
      pub refused_list : rising_keys h.list ≡ false → Meets (Err NotRising) h.words
      unfolding build_reply build_after build_refusal wrong_length wrong_order not_rising
      refused_list e = (rw (right_length, right, e), rw (right_length, right, e))

      module _ (rise : rising_keys h.list ≡ true) where
        pub refused_measures : are_measured (length h.list) h.lengths h.corrections ≡ false → Meets (Err WrongMeasure) h.words
        unfolding build_reply build_after build_refusal wrong_length wrong_order not_rising wrong_measures
        refused_measures e = (rw (right_length, right, rise, e), rw (right_length, right, rise, e))

        pub can_be_written : length h.list ≤ many → Keys h.order h.list
        unfolding new_order table_order
        can_be_written fit =
            let keys = rising_says h.list rise in
            writable h.order h.list right keys.0 keys.1 (omega (arith, sized.within))

        module _ (measured : are_measured (length h.list) h.lengths h.corrections ≡ true) where
          pub refused_many : many < length h.list → Meets (Err TooManyKeys) h.words
          unfolding build_reply build_after build_refusal wrong_length wrong_order not_rising wrong_measures too_many_keys
          refused_many few =
              let more : ltb (slots_for (length h.words)) (length h.list) ≡ true = lt-ltb (slots_for (length h.words)) (length h.list) (omega (arith, same_slots)) in
              (rw (right_length, right, rise, measured, more), rw (right_length, right, rise, measured, more))

          pub accepted : length h.list ≤ many → (after : List ℕ)
              → after ≡ fresh many (record { order = h.order; salt = h.salt; entries = entries_with h.list (measures_beside h.lengths h.corrections) }) → Meets (Ok tt) after
          unfolding build_reply build_after build_refusal wrong_length wrong_order not_rising wrong_measures too_many_keys rewritten
          accepted room after e =
              let fit : ltb (slots_for (length h.words)) (length h.list) ≡ false = le-ltb (slots_for (length h.words)) (length h.list) (omega (arith, same_slots)) in
              let contents : Contents = record { order = h.order; salt = h.salt; entries = entries_with h.list (measures_beside h.lengths h.corrections) } in (
                rw (right_length, right, rise, measured, fit),
                rw (right_length, right, rise, measured, fit) (e ∙ ap (λ (n : ℕ). fresh n contents) (omega (arith, same_slots))),
              )
