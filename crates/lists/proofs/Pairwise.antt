-- Lists whose elements stand pairwise in a relation: their parts, and that such a list of numbers is determined by its
-- members where the relation goes one way only. Assumes nothing.
use mathlib.Core.Bool.{Bool, true, false}
use mathlib.Core.List.{List, [], ◌∷◌, ◌++◌, map}
use mathlib.Core.Logic.{⊎_elim}
use mathlib.Core.Path.{◌≡◌, refl, sym, ap₂, subst}
use Prim.Native.Nat.{ℕ}
use lib.Dec.{eqb}
use borrow.Author.Tests.{eqb-true}
use Rattle.lists.specs.Lists.{cons_if, keep, All, Pairwise, member}
use Rattle.lists.proofs.Tests.{true_or_false, or_true_cases}
use Rattle.lists.proofs.Keep.{all_map, all_mapped, all_both, all_append, all_append_left, all_append_right, all_keep}
use Rattle.lists.proofs.Membership.{all_member, all_of_members}

module _ {A : Type 0} (R : A → A → Type 0) where
  pub pairwise_append_left : (xs ys : List A) → Pairwise R (xs ++ ys) → Pairwise R xs
  pairwise_append_left [] ys h = tt
  pairwise_append_left (x ∷ xs) ys h = (all_append_left (R x) xs ys h.0, pairwise_append_left xs ys h.1)

  pub pairwise_append_right : (xs ys : List A) → Pairwise R (xs ++ ys) → Pairwise R ys
  pairwise_append_right [] ys h = h
  pairwise_append_right (x ∷ xs) ys h = pairwise_append_right xs ys h.1

  -- in `xs ++ y ∷ ys` every element of xs is related to y
  pub pairwise_before : (xs : List A) (y : A) (ys : List A) → Pairwise R (xs ++ y ∷ ys) → All (λ x. R x y) xs
  pairwise_before [] y ys h = tt
  pairwise_before (x ∷ xs) y ys h = ((all_append_right (R x) xs (y ∷ ys) h.0).0, pairwise_before xs y ys h.1)

  pub pairwise_join : ((x y z : A) → R x y → R y z → R x z) → (xs : List A) (y : A) (ys : List A)
      → Pairwise R xs → Pairwise R ys → All (λ x. R x y) xs → All (R y) ys → Pairwise R (xs ++ y ∷ ys)
  pairwise_join trans [] y ys h k l m = (m, k)
  pairwise_join trans (x ∷ xs) y ys h k l m = (
    all_append (R x) xs (y ∷ ys) h.0 (l.0, all_map (R y) (R x) (λ z q. trans x y z l.0 q) ys m),
    pairwise_join trans xs y ys h.1 k l.1 m,
  )

  pairwise_cons_if : (b : Bool) (x : A) (xs : List A) → All (R x) xs → Pairwise R xs → Pairwise R (cons_if b x xs)
  pairwise_cons_if true x xs h k = (h, k)
  pairwise_cons_if false x xs h k = k

  pub pairwise_keep : (f : A → Bool) (xs : List A) → Pairwise R xs → Pairwise R (keep f xs)
  pairwise_keep f [] h = tt
  pairwise_keep f (x ∷ xs) h = pairwise_cons_if (f x) x (keep f xs) (all_keep (R x) f xs h.0) (pairwise_keep f xs h.1)

-- a relation that follows from another between elements with a property
pub pairwise_map : {A : Type 0} (P : A → Type 0) (R S : A → A → Type 0) → ((x y : A) → P x → P y → R x y → S x y)
    → (xs : List A) → All P xs → Pairwise R xs → Pairwise S xs
pairwise_map P R S f [] a h = tt
pairwise_map P R S f (x ∷ xs) a h =
    (all_map (λ y. P y × R x y) (S x) (λ y q. f x y a.0 q.0 q.1) xs (all_both P (R x) xs a.1 h.0), pairwise_map P R S f xs a.1 h.1)

-- a relation between what the elements are mapped to
pub pairwise_mapped : {A B : Type 0} (R : B → B → Type 0) (g : A → B) (xs : List A) → Pairwise (λ x y. R (g x) (g y)) xs → Pairwise R (map g xs)
pairwise_mapped R g [] h = tt
pairwise_mapped R g (x ∷ xs) h = (all_mapped (R (g x)) g xs h.0, pairwise_mapped R g xs h.1)

module _ (R : ℕ → ℕ → Type 0) (one_way : (x y : ℕ) → R x y → R y x → ⊥) where
  -- two heads, each in the other's list, are equal
  heads : (x y : ℕ) (xs ys : List ℕ) → All (R x) xs → All (R y) ys → member x (y ∷ ys) ≡ true → member y (x ∷ xs) ≡ true → x ≡ y
  heads x y xs ys h k m n =
      ⊎_elim (λ e. eqb-true x y e)
      (λ (i : member x ys ≡ true).
      ⊎_elim (λ e. sym (eqb-true y x e)) (λ (j : member y xs ≡ true). absurd (one_way x y (all_member (R x) xs y h j) (all_member (R y) ys x k i)))
      (or_true_cases (eqb y x) (member y xs) n))
      (or_true_cases (eqb x y) (member x ys) m)

  -- what comes after a head is no head again
  later : (x z : ℕ) (zs : List ℕ) → R x z → member z (x ∷ zs) ≡ true → member z zs ≡ true
  later x z zs r m =
      ⊎_elim (λ (e : eqb z x ≡ true). let q : R x x = subst (R x) (eqb-true z x e) r in absurd (one_way x x q q)) (λ i. i)
      (or_true_cases (eqb z x) (member z zs) m)

  -- the members of one tail are members of the other
  tails : (x y : ℕ) (xs ys : List ℕ) → x ≡ y → All (R x) xs → All (λ z. member z (y ∷ ys) ≡ true) xs → All (λ z. member z ys ≡ true) xs
  tails x y xs ys e h m =
      all_of_members (λ z. member z ys ≡ true) xs
      (λ z i. later y z ys (subst (λ (w : ℕ). R w z) e (all_member (R x) xs z h i)) (all_member (λ z. member z (y ∷ ys) ≡ true) xs z m i))

  pub pairwise_unique : (xs ys : List ℕ) → Pairwise R xs → Pairwise R ys → All (λ x. member x ys ≡ true) xs → All (λ y. member y xs ≡ true) ys → xs ≡ ys
  pairwise_unique [] [] h k m n = refl
  pairwise_unique [] (y ∷ ys) h k m n = absurd (true_or_false false n.0 refl)
  pairwise_unique (x ∷ xs) [] h k m n = absurd (true_or_false false m.0 refl)
  pairwise_unique (x ∷ xs) (y ∷ ys) h k m n =
      let e = heads x y xs ys h.0 k.0 m.0 n.0 in
      ap₂ (λ (z : ℕ) (zs : List ℕ). z ∷ zs) e
      (pairwise_unique xs ys h.1 k.1 (tails x y xs ys e h.0 m.1) (tails y x ys xs (sym e) k.0 n.1))
