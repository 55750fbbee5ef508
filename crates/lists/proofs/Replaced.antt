-- A list whose first entries are replaced, one by one, by a function of another list's entries.
-- Assumes nothing.
use mathlib.Core.Path.{◌≡◌, refl, ap, ap₂, ◌∙◌}
use mathlib.Core.List.{List, [], ◌∷◌, ◌++◌, map, append-nil}
use Prim.Native.Nat.{ℕ, zero, suc, ◌+◌, ◌<◌, ◌≤◌}
use native.Mathlib.Nat.{not-suc-le-zero, le_of_suc-le-suc}
use native.Mathlib.Numerals.{add-one}
use lib.ListN.{length, set, get_or, take, drop, replicate, drop_of_length-le}
use lib.Seq.{take-length}

module _ (f : ℕ → ℕ) where
  -- `before` with its first `count` entries replaced by `f` of those of `source`.
  abbrev pub replaced : List ℕ → List ℕ → ℕ → List ℕ
  replaced source before count = map f (take count source) ++ drop count before

  replaced_suc : (source before : List ℕ) (i : ℕ) → i < length source → i < length before
      → set (replaced source before i) i (f (get_or source i 0)) ≡ replaced source before (suc i)
  replaced_suc [] before i here there = absurd (not-suc-le-zero here)
  replaced_suc (x ∷ source) [] i here there = absurd (not-suc-le-zero there)
  replaced_suc (x ∷ source) (y ∷ before) zero here there = refl
  replaced_suc (x ∷ source) (y ∷ before) (suc i) here there =
      ap (λ (entries : List ℕ). f x ∷ entries)
      (replaced_suc source before i (le_of_suc-le-suc here) (le_of_suc-le-suc there))

  pub replaced_next : (source before : List ℕ) (i : ℕ) → i < length source → i < length before
      → set (replaced source before i) i (f (get_or source i 0)) ≡ replaced source before (i + 1)
  replaced_next source before i here there = rw add-one (replaced_suc source before i here there)

  -- all of them
  pub replaced_all : (source before : List ℕ) → length before ≤ length source → replaced source before (length source) ≡ map f source
  replaced_all source before h =
      ap₂ (λ (xs ys : List ℕ). map f xs ++ ys) (take-length source) (drop_of_length-le before h) ∙ append-nil (map f source)

-- a constant for each element
pub map_constant : (z : ℕ) (xs : List ℕ) → map (λ _. z) xs ≡ replicate (length xs) z
map_constant z [] = refl
map_constant z (x ∷ xs) = ap (λ (ys : List ℕ). z ∷ ys) (map_constant z xs)
