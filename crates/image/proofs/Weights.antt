-- The order by falling `f`, then rising `g`, as an order by one falling number, the weight `size · f + (size − 1 − q)`, where `q`,
-- below `size`, stands in the order of `g`. Assumes that of `q`, of the two numbers compared.
use mathlib.Core.Bool.{Bool, false, ◌||◌, ◌&&◌}
use mathlib.Core.Logic.{◌⊎◌, inl, inr, ⊎_elim}
use mathlib.Core.Path.{◌≡◌, sym, ap, ap₂, ◌∙◌}
use Prim.Native.Nat.{ℕ, suc, ◌+◌, ◌*◌, ◌-◌, ◌<◌}
use native.Mathlib.Nat.{mul-le-mul_left}
use native.Mathlib.Omega.{arith}
use lib.Dec.{eqb, ltb}
use borrow.Author.Tests.{ltb-true, lt-ltb, le-ltb, eq-eqb, ne_eqb}
use Rattle.lists.proofs.Tests.{by_test, same_test, or_true_cases, or_true_left, or_true_right, or_both_false, and_right, and_both, Compared, compared}
use Rattle.lists.proofs.Tests.Compared.{less, same, more}
use Rattle.lists.proofs.Precedence.{precedes, agree, Earlier, precedes_when, precedes_says, agree_when, agree_differs}
use Rattle.lists.proofs.Precedence.Earlier.{by_first, by_second, by_itself}

-- One number for a level and a place: the higher level weighs more, and of one level the earlier place.
unfoldable pub weigh : ℕ → ℕ → ℕ → ℕ
weigh size level place = size * level + (size - 1 - place)

-- Two places stand as two numbers do.
pub record AsOrdered (m n a b : ℕ) : Type 0 where
  pub below : m < n → a < b
  pub equal : m ≡ n → a ≡ b
  pub above : n < m → b < a

module _ (size : ℕ) where
  -- the higher level weighs more, and of one level the earlier place
  pub weigh_level : (i j a b : ℕ) → a < size → b < size → j < i → weigh size j b < weigh size i a
  unfolding weigh
  weigh_level i j a b h k l = omega (arith, mul-le-mul_left {m = suc j} {n = i} size l)

  pub weigh_place : (i a b : ℕ) → b < size → a < b → weigh size i b < weigh size i a
  unfolding weigh
  weigh_place i a b h l = omega arith

module _ (f g q : ℕ → ℕ) (size x y : ℕ) where
  -- Which of the two weighs more, with what that says of their two numbers.
  data Weighed : Type 0 where
    heavy : weigh size (f y) (q y) < weigh size (f x) (q x) → ((f y < f x) ⊎ ((f x ≡ f y) × (g x < g y))) → Weighed
    alike : weigh size (f x) (q x) ≡ weigh size (f y) (q y) → f x ≡ f y → g x ≡ g y → Weighed
    light : weigh size (f x) (q x) < weigh size (f y) (q y) → ((f x < f y) ⊎ ((f x ≡ f y) × (g y < g x))) → Weighed

  module _ (low_x : q x < size) (low-y : q y < size) (placed : AsOrdered (g x) (g y) (q x) (q y)) where
    weighed : Weighed
    weighed = by_levels (compared (f x) (f y)) (compared (g x) (g y))
      where
        by_levels : Compared (f x) (f y) → Compared (g x) (g y) → Weighed
        by_levels (less _ _ _ l) d = light (weigh_level size (f y) (f x) (q y) (q x) low-y low_x l) (inl l)
        by_levels (more _ _ _ l) d = heavy (weigh_level size (f x) (f y) (q x) (q y) low_x low-y l) (inl l)
        by_levels (same _ _ _ e) (less _ _ _ l) = heavy (rw e (weigh_place size (f y) (q x) (q y) low-y (placed.below l))) (inr (e, l))
        by_levels (same _ _ _ e) (more _ _ _ l) = light (rw e (weigh_place size (f y) (q y) (q x) low_x (placed.above l))) (inr (e, l))
        by_levels (same _ _ _ e) (same _ _ _ d) = alike (ap₂ (weigh size) e (placed.equal d)) e d

    -- the order is that of the weights, falling, ties by the number itself
    pub precedes_by_weight : precedes f g x y
        ≡ (ltb (weigh size (f y) (q y)) (weigh size (f x) (q x)) || (eqb (weigh size (f x) (q x)) (weigh size (f y) (q y)) && ltb x y))
    precedes_by_weight = by weighed
      where
        a : ℕ
        a = weigh size (f x) (q x)

        b : ℕ
        b = weigh size (f y) (q y)

        by : Weighed → precedes f g x y ≡ (ltb b a || (eqb a b && ltb x y))
        by (heavy l r) =
            precedes_when f g x y (⊎_elim (λ u. by_first u) (λ u. by_second u.0 u.1) r) ∙ sym (or_true_left (ltb b a) (eqb a b && ltb x y) (lt-ltb b a l))
        by (alike w e i) =
            same_test (precedes f g x y) (ltb b a || (eqb a b && ltb x y))
            (λ h. or_true_right (ltb b a) (eqb a b && ltb x y) (and_both (eqb a b) (ltb x y) (eq-eqb a b w) (lt-ltb x y (itself e i (precedes_says f g x y h)))))
            (λ h.
            ⊎_elim (λ u. let l = ltb-true b a u in absurd (omega arith))
            (λ u. precedes_when f g x y (by_itself e i (ltb-true x y (and_right (eqb a b) (ltb x y) u)))) (or_true_cases (ltb b a) (eqb a b && ltb x y) h))
          where
            itself : f x ≡ f y → g x ≡ g y → Earlier f g x y → x < y
            itself d j (by_first l) = absurd (omega arith)
            itself d j (by_second k l) = absurd (omega arith)
            itself d j (by_itself k m l) = l
        by (light w r) =
            not_earlier r ∙ sym (or_both_false (ltb b a) (eqb a b && ltb x y) (le-ltb b a (omega arith)) (ap (λ (t : Bool). t && ltb x y) (ne_eqb a b (λ e. omega arith))))
          where
            refuted : ((f x < f y) ⊎ ((f x ≡ f y) × (g y < g x))) → Earlier f g x y → ⊥
            refuted (inl u) (by_first l) = omega arith
            refuted (inl u) (by_second k l) = omega arith
            refuted (inl u) (by_itself k m l) = omega arith
            refuted (inr u) (by_first l) = omega arith
            refuted (inr u) (by_second k l) = omega arith
            refuted (inr u) (by_itself k m l) = omega arith

            not_earlier : ((f x < f y) ⊎ ((f x ≡ f y) × (g y < g x))) → precedes f g x y ≡ false
            not_earlier u = by_test (precedes f g x y) (λ h. absurd (refuted u (precedes_says f g x y h))) (λ h. h)

    -- and the numbers agree where the weights are equal
    pub agree_by_weight : agree f g x y ≡ eqb (weigh size (f x) (q x)) (weigh size (f y) (q y))
    agree_by_weight = by weighed
      where
        by : Weighed → agree f g x y ≡ eqb (weigh size (f x) (q x)) (weigh size (f y) (q y))
        by (heavy l r) = agree_differs f g x y (λ e d. ⊎_elim (λ u. omega arith) (λ u. omega arith) r) ∙ sym (ne_eqb (weigh size (f x) (q x)) (weigh size (f y) (q y)) (λ e. omega arith))
        by (alike w e d) = agree_when f g x y e d ∙ sym (eq-eqb (weigh size (f x) (q x)) (weigh size (f y) (q y)) w)
        by (light l r) = agree_differs f g x y (λ e d. ⊎_elim (λ u. omega arith) (λ u. omega arith) r) ∙ sym (ne_eqb (weigh size (f x) (q x)) (weigh size (f y) (q y)) (λ e. omega arith))
