-- The rule of the constants, for a whole table: one computed test, and the lemma that carries it to each entry.
-- Assumes nothing.
use mathlib.Core.Path.{◌≡◌, ◌∙◌, sym, ap}
use mathlib.Core.Bool.{Bool, true, ◌&&◌, and-eq-true_iff}
use mathlib.Core.List.{List, [], ◌∷◌}
use Prim.Native.Nat.{ℕ, zero, suc, ◌+◌, ◌<◌}
use native.Mathlib.Nat.{add-zero, zero-add, add-suc, suc-add, le_of_suc-le-suc, not-suc-le-zero}
use lib.Dec.{eqb}
use lib.ListN.{length, get_or}
use borrow.Author.Tests.{eqb-true}
use Rattle.generator.specs.Generator.{increment, next}
use Rattle.priority.specs.Priority.{constant_count, constant_at, HoldsConstants}

-- The test: the first entry is `first`, and each next is the generator's after the one before.
abbrev pub recurs : ℕ → List ℕ → Bool
recurs first [] = true
recurs first (entry ∷ entries) = eqb entry first && recurs (next entry) entries

-- What the test says of the first entry, and of those after it.
recurs_parts : (first entry : ℕ) (entries : List ℕ) → recurs first (entry ∷ entries) ≡ true
    → (entry ≡ first) × (recurs (next first) entries ≡ true)
recurs_parts first entry entries passed =
    let both = (and-eq-true_iff (eqb entry first) (recurs (next entry) entries)).0 passed in
    let same = eqb-true entry first both.0 in
    (same, rw same at both.1)

-- A table that passes with E[start] as its first entry has E[start + k] at k.
entry_from : (start : ℕ) (table : List ℕ) → recurs (constant_at start) table ≡ true
    → (k : ℕ) → k < length table → get_or table k 0 ≡ constant_at (start + k)
unfolding constant_at
entry_from start [] passed k below = absurd (not-suc-le-zero below)
entry_from start (entry ∷ entries) passed zero below =
    (recurs_parts (constant_at start) entry entries passed).0 ∙ ap constant_at (sym (add-zero start))
entry_from start (entry ∷ entries) passed (suc k) below =
    entry_from (suc start) entries (recurs_parts (constant_at start) entry entries passed).1 k (le_of_suc-le-suc below)
    ∙ ap constant_at (suc-add start k ∙ sym (add-suc start k))

-- A table of the right length that passes with E[0] as its first entry holds the constants.
pub holds_constants : (table : List ℕ) → length table ≡ constant_count → recurs increment table ≡ true → HoldsConstants table
unfolding constant_at HoldsConstants
holds_constants table whole passed index below =
    entry_from 0 table passed index (rw whole below) ∙ ap constant_at (zero-add index)
