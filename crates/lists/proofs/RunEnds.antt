-- The first run of the rest of a list of numbers, by indices: from one up to the first whose number is not like the first's. Assumes
-- of `alike` that what is alike is alike to the same.
use mathlib.Core.Bool.{Bool, true, false}
use mathlib.Core.List.{List, ◌∷◌, ◌++◌}
use mathlib.Core.Path.{◌≡◌, sym, ap, ◌∙◌, subst}
use Prim.Native.Nat.{ℕ, suc, ◌+◌, ◌<◌, ◌≤◌}
use native.Mathlib.Omega.{arith}
use lib.Dec.{ltb}
use lib.ListN.{length, get_or, take, drop, drop_of_length-le}
use lib.Seq.{slice, slice-cons, length-slice, drop-cons, get_or-take, get_or-drop}
use borrow.Author.Tests.{ltb-true, ltb-false}
use Rattle.lists.specs.Lists.{All, runs}
use Rattle.lists.proofs.Tests.{by_test}
use Rattle.lists.proofs.Keep.{all_of_indices}
use Rattle.lists.proofs.Parts.{drop-slice}
use Rattle.lists.proofs.Runs.{Alike, NotFirst, runs_next}

pub slice_at : (low high i : ℕ) (xs : List ℕ) → low + i < high → get_or (slice low high xs) i 0 ≡ get_or xs (low + i) 0
slice_at low high i xs l = get_or-drop low (take high xs) i 0 ∙ get_or-take high xs (low + i) 0 l

pub all_slice_when : (P : ℕ → Type 0) (low high : ℕ) (xs : List ℕ) → high ≤ length xs → ((i : ℕ) → low ≤ i → i < high → P (get_or xs i 0)) → All P (slice low high xs)
all_slice_when P low high xs fits h =
    all_of_indices P (slice low high xs) 0
    (λ i l.
    let inside : low + i < high = let size = length-slice low high xs fits in omega arith in
    subst P (sym (slice_at low high i xs inside)) (h (low + i) (omega arith) inside))

module _ (alike : ℕ → ℕ → Bool) (similar : (x y z : ℕ) → Alike alike x y → alike x z ≡ alike y z) where
  pub runs_at : (xs : List ℕ) (i j : ℕ) → i < j → j ≤ length xs → ((k : ℕ) → i < k → k < j → alike (get_or xs i 0) (get_or xs k 0) ≡ true)
      → (j < length xs → alike (get_or xs i 0) (get_or xs j 0) ≡ false) → runs alike (drop i xs) ≡ slice i j xs ∷ runs alike (drop j xs)
  runs_at xs i j l fits like ends =
      let parts : slice i j xs ≡ get_or xs i 0 ∷ slice (suc i) j xs = slice-cons i j xs 0 l fits in
      ap (runs alike) (drop-slice i j xs (omega arith) fits ∙ ap (λ (ys : List ℕ). ys ++ drop j xs) parts)
      ∙ runs_next alike similar (get_or xs i 0) (slice (suc i) j xs) (drop j xs)
      (all_slice_when (Alike alike (get_or xs i 0)) (suc i) j xs fits (λ k m n. like k m n)) not_first
      ∙ ap (λ (ys : List ℕ). ys ∷ runs alike (drop j xs)) (sym parts)
    where
      not_first : NotFirst alike (get_or xs i 0) (drop j xs)
      not_first =
          by_test (ltb j (length xs))
          (λ t. let inside = ltb-true j (length xs) t in subst (NotFirst alike (get_or xs i 0)) (sym (drop-cons xs j 0 inside)) (ends inside))
          (λ t. subst (NotFirst alike (get_or xs i 0)) (sym (drop_of_length-le xs (ltb-false j (length xs) t))) tt)
