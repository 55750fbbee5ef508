-- Lists whose elements stand pairwise in a relation that goes one way: what comes before and after a place.
-- Assumes nothing.
use mathlib.Core.Bool.{true}
use mathlib.Core.List.{List, [], ◌∷◌, ◌++◌}
use mathlib.Core.Logic.{⊎_elim}
use mathlib.Core.Path.{◌≡◌, sym, ap, ◌∙◌, subst}
use Prim.Native.Nat.{ℕ, zero, suc, ◌<◌}
use native.Mathlib.Omega.{arith}
use lib.Dec.{eqb}
use lib.ListN.{length, get_or, take, drop}
use lib.Seq.{split_at}
use borrow.Author.Tests.{eqb-true}
use Rattle.lists.specs.Lists.{Pairwise, member}
use Rattle.lists.proofs.Tests.{or_true_cases}
use Rattle.lists.proofs.Keep.{all_at}
use Rattle.lists.proofs.Membership.{all_member, member-append}
use Rattle.lists.proofs.Pairwise.{pairwise_append_right, pairwise_before}

module _ (R : ℕ → ℕ → Type 0) where
  pub pairwise_at : (xs : List ℕ) (i j : ℕ) → Pairwise R xs → i < j → j < length xs → R (get_or xs i 0) (get_or xs j 0)
  pairwise_at [] i j h less low = absurd (omega arith)
  pairwise_at (x ∷ xs) i zero h less low = absurd (omega arith)
  pairwise_at (x ∷ xs) zero (suc j) h less low = all_at (R x) xs j 0 h.0 (omega arith)
  pairwise_at (x ∷ xs) (suc i) (suc j) h less low = pairwise_at xs i j h.1 (omega arith) (omega arith)

  module _ (one_way : (x y : ℕ) → R x y → R y x → ⊥) where
    -- ---- the list cut at an element y
    module _ (xs : List ℕ) (y : ℕ) (ys : List ℕ) (i : ℕ) (h : Pairwise R (xs ++ y ∷ ys)) (m : member i (xs ++ y ∷ ys) ≡ true) where
      -- an element is before y, or y, or after it
      sides : {C : Type 0} → (member i xs ≡ true → C) → (i ≡ y → C) → (member i ys ≡ true → C) → C
      sides before here after =
          ⊎_elim before (λ q. ⊎_elim (λ e. here (eqb-true i y e)) after (or_true_cases (eqb i y) (member i ys) q))
          (or_true_cases (member i xs) (member i (y ∷ ys)) (sym (member-append i xs (y ∷ ys)) ∙ m))

      comes_after : R y i → member i ys ≡ true
      comes_after r =
          sides (λ q. absurd (one_way i y (all_member (λ x. R x y) xs i (pairwise_before R xs y ys h) q) r))
          (λ e. let self = subst (R y) e r in absurd (one_way y y self self))
          (λ q. q)

      comes_before : R i y → member i xs ≡ true
      comes_before r =
          sides (λ q. q)
          (λ e. let self = subst (λ (x : ℕ). R x y) e r in absurd (one_way y y self self))
          (λ q. absurd (one_way i y r (all_member (R y) ys i (pairwise_append_right R xs (y ∷ ys) h).0 q)))

    -- ---- the list cut at the place j
    module _ (xs : List ℕ) (h : Pairwise R xs) (j i : ℕ) (low : j < length xs) (m : member i xs ≡ true) where
      cut : xs ≡ take j xs ++ get_or xs j 0 ∷ drop (suc j) xs
      cut = split_at xs j 0 low

      pub after_place : R (get_or xs j 0) i → member i (drop (suc j) xs) ≡ true
      after_place = comes_after (take j xs) (get_or xs j 0) (drop (suc j) xs) i (subst (Pairwise R) cut h) (ap (member i) (sym cut) ∙ m)

      pub before_place : R i (get_or xs j 0) → member i (take j xs) ≡ true
      before_place = comes_before (take j xs) (get_or xs j 0) (drop (suc j) xs) i (subst (Pairwise R) cut h) (ap (member i) (sym cut) ∙ m)
