-- Probing step by step: slots in turn from home on, slot 0 following the last. Assumes nothing.
use mathlib.Core.Bool.{Bool, true}
use mathlib.Core.List.{List, [], ◌∷◌, ◌++◌}
use mathlib.Core.Logic.{◌≢◌}
use mathlib.Core.Path.{◌≡◌, refl, sym, ap, ◌∙◌}
use Prim.Native.Nat.{ℕ, zero, suc, ◌+◌, ◌-◌, ◌<◌, ◌≤◌}
use native.Mathlib.Nat.{suc-add}
use native.Mathlib.Omega.{arith}
use lib.Dec.{eqb}
use lib.ListN.{length, get_or}
use borrow.Author.Tests.{eq-eqb, ne_eqb, eqb-true, eqb-false}
use Rattle.lists.specs.Lists.{first, up_from}
use Rattle.lists.proofs.Tests.{by_test}
use Rattle.treap.specs.Slots.{probes, first_empty}
pub use Rattle.table_slots.specs.Skips.{after}

-- So many slots in turn.
abbrev pub in_turn : ℕ → ℕ → ℕ → List ℕ
in_turn many at zero = []
in_turn many at (suc left) = at ∷ in_turn many (after many at) left

-- up to the last slot they are numbers in a row; what is left starts anew at slot 0
in_turn_up : (many at up : ℕ) (left : ℕ) → at + up ≡ many → 0 < up → in_turn many at (up + left) ≡ up_from at up ++ in_turn many 0 left
in_turn_up many at zero left e h = absurd (omega arith)
in_turn_up many at (suc up) left e h =
    ap (in_turn many at) (suc-add up left)
    ∙ ap (λ (xs : List ℕ). at ∷ xs)
    (by_test (eqb (suc at) many)
    (λ t.
    let last : up ≡ 0 = let q = eqb-true (suc at) many t in omega arith in
    let rest : up + left ≡ left = omega arith in
    rw t (ap (in_turn many 0) rest ∙ ap (λ (n : ℕ). up_from (suc at) n ++ in_turn many 0 left) (sym last)))
    (λ t.
    let d : suc at ≢ many = eqb-false (suc at) many t in
    rw t (in_turn_up many (suc at) up left (omega arith) (omega arith))))

in_turn_low : (many at left : ℕ) → at + left ≤ many → in_turn many at left ≡ up_from at left
in_turn_low many at zero h = refl
in_turn_low many at (suc left) h =
    ap (λ (xs : List ℕ). at ∷ xs)
    (by_test (eqb (suc at) many)
    (λ t.
    let none : left ≡ 0 = let q = eqb-true (suc at) many t in omega arith in
    rw (t, none))
    (λ t. rw t (in_turn_low many (suc at) left (omega arith))))

pub probes_in_turn : (many home : ℕ) → home < many → probes many home ≡ in_turn many home many
unfolding probes
probes_in_turn many home h =
    let parts : many ≡ (many - home) + home = omega arith in
    sym (ap (in_turn many home) parts ∙ in_turn_up many home (many - home) home (omega arith) (omega arith)
    ∙ ap (λ (xs : List ℕ). up_from home (many - home) ++ xs) (in_turn_low many 0 home (omega arith)))

-- ---- the slot after a slot
pub after_last : (many at : ℕ) → at + 1 ≡ many → after many at ≡ 0
after_last many at e = rw (eq-eqb (suc at) many (omega arith))

pub after_other : (many at : ℕ) → (at + 1 ≡ many → ⊥) → after many at ≡ at + 1
after_other many at d = rw (ne_eqb (suc at) many (λ e. d (omega arith))) (omega arith)

pub after_within : (many at : ℕ) → at < many → after many at < many
after_within many at h =
    by_test (eqb (suc at) many)
    (λ t. rw t (omega arith))
    (λ t. rw t (let d : suc at ≢ many = eqb-false (suc at) many t in omega arith))

-- ---- a search slot by slot, for any test
module _ (many : ℕ) (f : ℕ → Bool) where
  pub search_finds : (at left : ℕ) → 0 < left → f at ≡ true → first many f (in_turn many at left) ≡ at
  search_finds at zero l e = absurd (omega arith)
  search_finds at (suc left) l e = rw e

-- ---- the search for the first empty slot
abbrev pub empty : List ℕ → ℕ → Bool
empty slots i = eqb (get_or slots i 0) 0

pub search_starts : (slots : List ℕ) (home : ℕ) → home < length slots → first_empty slots home ≡ first (length slots) (empty slots) (in_turn (length slots) home (length slots))
unfolding first_empty
search_starts slots home h = ap (first (length slots) (empty slots)) (probes_in_turn (length slots) home h)
