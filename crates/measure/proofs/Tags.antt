-- A measure's tag shows the measure again, and a tag is that of the measure that it shows. Assumes measures within the rules, where it says so.
use mathlib.Core.Bool.{true}
use mathlib.Core.Path.{◌≡◌, sym, ap, ap₂, ◌∙◌, subst₂}
use Prim.Native.Nat.{ℕ}
use native.Mathlib.Omega.{arith}
use Rattle.measure.specs.Measure.{Measure, unmeasured, is_measure, stored_correction, measure_from}
use Rattle.measure.specs.Tag.{is_stored, tag_from, length_in, stored_in, tag_of, measure_at, is_tag}
use Rattle.measure.proofs.Stored.{read_back, from_length, stored_back, stored_measures, measure_stored, stored_bounds, unmeasured_stored, from_nothing}

-- ---- a tag and the two numbers in it
module _ (l s : ℕ) (h : is_stored l s ≡ true) where
  pub length_of_tag : length_in (tag_from l s) ≡ l
  unfolding length_in tag_from
  length_of_tag = let few = stored_bounds l s h in omega arith

  pub stored_of_tag : stored_in (tag_from l s) ≡ s
  unfolding stored_in tag_from
  stored_of_tag = let few = stored_bounds l s h in omega arith

  pub stored_tag : is_tag (tag_from l s) ≡ true
  unfolding is_tag
  stored_tag = subst₂ (λ (a b : ℕ). is_stored a b ≡ true) (sym length_of_tag) (sym stored_of_tag) h

  pub tag_from_stored : tag_from l s ≡ tag_of (measure_from l s)
  unfolding tag_of
  tag_from_stored = ap₂ tag_from (sym (from_length l s)) (sym (stored_back l s h))

pub tag_parts : (t : ℕ) → tag_from (length_in t) (stored_in t) ≡ t
unfolding tag_from length_in stored_in
tag_parts t = omega arith

-- ---- a measure and its tag
module _ (m : Measure) (h : is_measure m ≡ true) where
  pub measure_of_tag : measure_at (tag_of m) ≡ m
  unfolding measure_at tag_of
  measure_of_tag =
      let s = measure_stored m h in
      ap₂ measure_from (length_of_tag m.length (stored_correction m) s) (stored_of_tag m.length (stored_correction m) s) ∙ read_back m h

  pub measure_tags : is_tag (tag_of m) ≡ true
  unfolding tag_of
  measure_tags = stored_tag m.length (stored_correction m) (measure_stored m h)

pub length_at : (t : ℕ) → (measure_at t).length ≡ length_in t
unfolding measure_at
length_at t = from_length (length_in t) (stored_in t)

module _ (t : ℕ) (h : is_tag t ≡ true) where
  pub stored_at : stored_correction (measure_at t) ≡ stored_in t
  unfolding measure_at is_tag
  stored_at = stored_back (length_in t) (stored_in t) h

  pub tag_of_measure : tag_of (measure_at t) ≡ t
  unfolding tag_of
  tag_of_measure = ap₂ tag_from (length_at t) stored_at ∙ tag_parts t

  pub tag_measures : is_measure (measure_at t) ≡ true
  unfolding measure_at is_tag
  tag_measures = stored_measures (length_in t) (stored_in t) h

-- ---- not measured
pub no_tag : measure_at 0 ≡ unmeasured
unfolding measure_at length_in stored_in
no_tag = from_nothing 0

pub unmeasured_tag : tag_of unmeasured ≡ 0
unfolding tag_of tag_from
unmeasured_tag = ap (tag_from 0) unmeasured_stored
