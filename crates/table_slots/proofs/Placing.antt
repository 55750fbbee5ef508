-- Placing keys one by one: while fewer keys than slots are placed some slot is empty, and the search finds one.
-- Assumes nothing.
use mathlib.Core.Bool.{Bool, true}
use mathlib.Core.List.{List, [], ◌∷◌, ◌++◌}
use mathlib.Core.Logic.{◌≢◌}
use mathlib.Core.Path.{◌≡◌, refl, sym, ap, ◌∙◌, subst}
use Prim.Native.Nat.{ℕ, zero, suc, ◌+◌, ◌-◌, ◌<◌, ◌≤◌}
use native.Mathlib.Omega.{arith}
use lib.Dec.{eqb, ltb}
use lib.ListN.{length, get_or, set, replicate, length-set}
use borrow.Author.Tests.{eq-eqb, ne_eqb, eqb-true, ltb-true, ltb-false}
use Rattle.lists.specs.Lists.{keep, member, first, up_from, All}
use Rattle.lists.proofs.Tests.{by_test, or_true_left, or_true_right}
use Rattle.lists.proofs.Keep.{all_map, all_append}
use Rattle.lists.proofs.Membership.{all_member, member-append, first_passes}
use Rattle.lists.proofs.UpFrom.{up_from-member, up_from_within}
use Rattle.treap.specs.Slots.{probes, first_empty, place_all}

-- How many slots are empty.
abbrev pub empties : List ℕ → ℕ
empties slots = length (keep (λ x. eqb x 0) slots)

-- ---- an empty slot is found where there is one
pub some_empty : (slots : List ℕ) → 0 < empties slots → (i : ℕ) × (i < length slots) × (get_or slots i 0 ≡ 0)
some_empty [] h = absurd (omega arith)
some_empty (x ∷ xs) h =
    by_test (eqb x 0)
    (λ e. (0, omega arith, eqb-true x 0 e))
    (λ e. let (i, b, z) = some_empty xs (rw e at h) in (suc i, omega arith, z))

probes_all : (many home i : ℕ) → home < many → i < many → member i (probes many home) ≡ true
unfolding probes
probes_all many home i h k =
    member-append i (up_from home (many - home)) (up_from 0 home)
    ∙ by_test (ltb i home)
    (λ e. or_true_right (member i (up_from home (many - home))) (member i (up_from 0 home)) (up_from-member 0 home i (omega arith) (let l = ltb-true i home e in omega arith)))
    (λ e.
    let l = ltb-false i home e in
    or_true_left (member i (up_from home (many - home))) (member i (up_from 0 home)) (up_from-member home (many - home) i l (omega arith)))

probes_within : (many home : ℕ) → home < many → All (λ i. i < many) (probes many home)
unfolding probes
probes_within many home h =
    all_append (λ i. i < many) (up_from home (many - home)) (up_from 0 home)
    (all_map (λ i. (home ≤ i) × (i < home + (many - home))) (λ i. i < many) (λ i q. omega arith) (up_from home (many - home)) (up_from_within home (many - home)))
    (all_map (λ i. (0 ≤ i) × (i < 0 + home)) (λ i. i < many) (λ i q. omega arith) (up_from 0 home) (up_from_within 0 home))

pub first_empty_is : (slots : List ℕ) (home : ℕ) → home < length slots → 0 < empties slots
    → (first_empty slots home < length slots) × (get_or slots (first_empty slots home) 0 ≡ 0)
unfolding first_empty
first_empty_is slots home h k =
    let (i, b, z) = some_empty slots k in
    let f : ℕ → Bool = λ j. eqb (get_or slots j 0) 0 in
    let found = first_passes (length slots) f (probes (length slots) home) i (probes_all (length slots) home i h b) (eq-eqb (get_or slots i 0) 0 z) in
    let at = first (length slots) f (probes (length slots) home) in
    (all_member (λ j. j < length slots) (probes (length slots) home) at (probes_within (length slots) home h) found.1, eqb-true (get_or slots at 0) 0 found.0)

-- ---- each key placed takes one
pub empties_set : (slots : List ℕ) (i v : ℕ) → i < length slots → get_or slots i 0 ≡ 0 → v ≢ 0 → suc (empties (set slots i v)) ≡ empties slots
empties_set [] i v h z d = absurd (omega arith)
empties_set (x ∷ xs) zero v h z d = rw (ne_eqb v 0 d, eq-eqb x 0 z)
empties_set (x ∷ xs) (suc i) v h z d =
    let ih = empties_set xs i v (omega arith) z d in
    by_test (eqb x 0) (λ e. rw e (ap suc ih)) (λ e. rw e ih)

pub empties_replicate : (many : ℕ) → empties (replicate many 0) ≡ many
empties_replicate zero = refl
empties_replicate (suc many) = ap suc (empties_replicate many)

module _ (home : ℕ → ℕ) where
  pub place_all-append : (slots xs ys : List ℕ) → place_all home slots (xs ++ ys) ≡ place_all home (place_all home slots xs) ys
  place_all-append slots [] ys = refl
  place_all-append slots (x ∷ xs) ys = place_all-append (set slots (first_empty slots (home x)) x) xs ys

  pub place_all-length : (slots xs : List ℕ) → length (place_all home slots xs) ≡ length slots
  place_all-length slots [] = refl
  place_all-length slots (x ∷ xs) = place_all-length (set slots (first_empty slots (home x)) x) xs ∙ length-set slots (first_empty slots (home x)) x

  -- with room for all of them, as many slots fewer are empty as keys are placed
  pub place_all_empties : (slots xs : List ℕ) → length xs ≤ empties slots → All (λ x. x ≢ 0) xs → All (λ x. home x < length slots) xs
      → empties (place_all home slots xs) + length xs ≡ empties slots
  place_all_empties slots [] h d w = omega arith
  place_all_empties slots (x ∷ xs) h d w =
      let found = first_empty_is slots (home x) w.0 (omega arith) in
      let one = empties_set slots (first_empty slots (home x)) x found.0 found.1 d.0 in
      let next = set slots (first_empty slots (home x)) x in
      let rest =
      place_all_empties next xs (omega arith) d.1
      (subst (λ (n : ℕ). All (λ y. home y < n) xs) (sym (length-set slots (first_empty slots (home x)) x)) w.1)
      in
      omega arith
