-- A list whose first i elements are changed by f, and the rest as they were: what a loop that goes over a slice has made of it. Assumes nothing.
use mathlib.Core.Path.{◌≡◌, refl, ap}
use Prim.Native.Nat.{ℕ, zero, suc, ◌≤◌, ◌<◌}
use native.Mathlib.Nat.{not-suc-le-zero, le_of_suc-le-suc}
use mathlib.Core.List.{List, [], ◌∷◌, map}
use lib.ListN.{length, get_or, set}

module _ {A : Type 0} (f : A → A) where
  abbrev pub upto : ℕ → List A → List A
  upto zero ys = ys
  upto (suc i) [] = []
  upto (suc i) (y ∷ ys) = f y ∷ upto i ys

  pub upto_length : (i : ℕ) (ys : List A) → length (upto i ys) ≡ length ys
  upto_length zero ys = refl
  upto_length (suc i) [] = refl
  upto_length (suc i) (y ∷ ys) = ap suc (upto_length i ys)

  pub upto_at : (i : ℕ) (ys : List A) (d : A) → get_or (upto i ys) i d ≡ get_or ys i d
  upto_at zero ys d = refl
  upto_at (suc i) [] d = refl
  upto_at (suc i) (y ∷ ys) d = upto_at i ys d

  pub upto_next : (i : ℕ) (ys : List A) (d : A) → i < length ys → set (upto i ys) i (f (get_or (upto i ys) i d)) ≡ upto (suc i) ys
  upto_next i [] d h = absurd (not-suc-le-zero h)
  upto_next zero (y ∷ ys) d h = refl
  upto_next (suc i) (y ∷ ys) d h = ap (λ (l : List A). f y ∷ l) (upto_next i ys d (le_of_suc-le-suc h))

  pub upto_all : (i : ℕ) (ys : List A) → length ys ≤ i → upto i ys ≡ map f ys
  upto_all zero [] h = refl
  upto_all zero (y ∷ ys) h = absurd (not-suc-le-zero h)
  upto_all (suc i) [] h = refl
  upto_all (suc i) (y ∷ ys) h = ap (λ (l : List A). f y ∷ l) (upto_all i ys (le_of_suc-le-suc h))
