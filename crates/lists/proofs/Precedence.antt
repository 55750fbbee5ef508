-- The order of numbers by a number `f` that falls, then a number `g` that rises, then themselves, rising: it is total, transitive
-- and goes one way only. Assumes nothing.
use mathlib.Core.Bool.{Bool, true, false, ◌||◌, ◌&&◌}
use mathlib.Core.Logic.{⊎_elim}
use mathlib.Core.Path.{◌≡◌, sym, ap, ◌∙◌}
use Prim.Native.Nat.{ℕ, ◌<◌}
use native.Mathlib.Omega.{arith}
use lib.Dec.{eqb, ltb}
use borrow.Author.Tests.{ltb-true, lt-ltb, eqb-true, eq-eqb}
use Rattle.lists.proofs.Tests.{by_test, true_or_false, or_true_cases, or_true_left, or_true_right, and_left, and_right, and_both, Compared, compared}
use Rattle.lists.proofs.Tests.Compared.{less, same, more}

-- `x` comes before `y`: `f` falls, then `g` rises, then the number rises.
unfoldable pub precedes : (ℕ → ℕ) → (ℕ → ℕ) → ℕ → ℕ → Bool
precedes f g x y = ltb (f y) (f x) || (eqb (f x) (f y) && (ltb (g x) (g y) || (eqb (g x) (g y) && ltb x y)))

-- `x` and `y` have the same two numbers.
unfoldable pub agree : (ℕ → ℕ) → (ℕ → ℕ) → ℕ → ℕ → Bool
agree f g x y = eqb (f x) (f y) && eqb (g x) (g y)

module _ (f g : ℕ → ℕ) where
  -- By which of the three `x` comes before `y`.
  pub data Earlier (x y : ℕ) : Type 0 where
    by_first : f y < f x → Earlier x y
    by_second : f x ≡ f y → g x < g y → Earlier x y
    by_itself : f x ≡ f y → g x ≡ g y → x < y → Earlier x y

  pub precedes_when : (x y : ℕ) → Earlier x y → precedes f g x y ≡ true
  unfolding precedes
  precedes_when x y (by_first l) = or_true_left (ltb (f y) (f x)) _ (lt-ltb (f y) (f x) l)
  precedes_when x y (by_second e l) =
      or_true_right (ltb (f y) (f x)) _ (and_both (eqb (f x) (f y)) _ (eq-eqb (f x) (f y) e) (or_true_left (ltb (g x) (g y)) _ (lt-ltb (g x) (g y) l)))
  precedes_when x y (by_itself e i l) =
      or_true_right (ltb (f y) (f x)) _
      (and_both (eqb (f x) (f y)) _ (eq-eqb (f x) (f y) e)
      (or_true_right (ltb (g x) (g y)) _ (and_both (eqb (g x) (g y)) (ltb x y) (eq-eqb (g x) (g y) i) (lt-ltb x y l))))

  pub precedes_says : (x y : ℕ) → precedes f g x y ≡ true → Earlier x y
  unfolding precedes
  precedes_says x y h =
      ⊎_elim (λ t. by_first (ltb-true (f y) (f x) t))
      (λ t.
      let e = eqb-true (f x) (f y) (and_left (eqb (f x) (f y)) _ t) in
      ⊎_elim (λ i. by_second e (ltb-true (g x) (g y) i))
      (λ i. by_itself e (eqb-true (g x) (g y) (and_left (eqb (g x) (g y)) (ltb x y) i)) (ltb-true x y (and_right (eqb (g x) (g y)) (ltb x y) i)))
      (or_true_cases (ltb (g x) (g y)) _ (and_right (eqb (f x) (f y)) _ t)))
      (or_true_cases (ltb (f y) (f x)) _ h)

  earlier_trans : (x y z : ℕ) → Earlier x y → Earlier y z → Earlier x z
  earlier_trans x y z (by_first l) (by_first k) = by_first (omega arith)
  earlier_trans x y z (by_first l) (by_second d k) = by_first (omega arith)
  earlier_trans x y z (by_first l) (by_itself d j k) = by_first (omega arith)
  earlier_trans x y z (by_second e l) (by_first k) = by_first (omega arith)
  earlier_trans x y z (by_second e l) (by_second d k) = by_second (omega arith) (omega arith)
  earlier_trans x y z (by_second e l) (by_itself d j k) = by_second (omega arith) (omega arith)
  earlier_trans x y z (by_itself e i l) (by_first k) = by_first (omega arith)
  earlier_trans x y z (by_itself e i l) (by_second d k) = by_second (omega arith) (omega arith)
  earlier_trans x y z (by_itself e i l) (by_itself d j k) = by_itself (omega arith) (omega arith) (omega arith)

  pub precedes_trans : (x y z : ℕ) → precedes f g x y ≡ true → precedes f g y z ≡ true → precedes f g x z ≡ true
  precedes_trans x y z h k = precedes_when x z (earlier_trans x y z (precedes_says x y h) (precedes_says y z k))

  not_both : (x y : ℕ) → Earlier x y → Earlier y x → ⊥
  not_both x y (by_first l) (by_first k) = omega arith
  not_both x y (by_first l) (by_second d k) = omega arith
  not_both x y (by_first l) (by_itself d j k) = omega arith
  not_both x y (by_second e l) (by_first k) = omega arith
  not_both x y (by_second e l) (by_second d k) = omega arith
  not_both x y (by_second e l) (by_itself d j k) = omega arith
  not_both x y (by_itself e i l) (by_first k) = omega arith
  not_both x y (by_itself e i l) (by_second d k) = omega arith
  not_both x y (by_itself e i l) (by_itself d j k) = omega arith

  pub precedes_one_way : (x y : ℕ) → precedes f g x y ≡ true → precedes f g y x ≡ true → ⊥
  precedes_one_way x y h k = not_both x y (precedes_says x y h) (precedes_says y x k)

  pub precedes_total : (x y : ℕ) → x < y → precedes f g x y ≡ false → precedes f g y x ≡ true
  precedes_total x y l n = first (compared (f x) (f y)) (compared (g x) (g y))
    where
      refused : Earlier x y → precedes f g y x ≡ true
      refused h = absurd (true_or_false (precedes f g x y) (precedes_when x y h) n)

      first : Compared (f x) (f y) → Compared (g x) (g y) → precedes f g y x ≡ true
      first (less _ _ _ a) b = precedes_when y x (by_first a)
      first (more _ _ _ a) b = refused (by_first a)
      first (same _ _ _ a) (less _ _ _ b) = refused (by_second a b)
      first (same _ _ _ a) (more _ _ _ b) = precedes_when y x (by_second (sym a) b)
      first (same _ _ _ a) (same _ _ _ b) = refused (by_itself a b l)

  -- ---- agree
  pub agree_when : (x y : ℕ) → f x ≡ f y → g x ≡ g y → agree f g x y ≡ true
  unfolding agree
  agree_when x y e i = and_both (eqb (f x) (f y)) (eqb (g x) (g y)) (eq-eqb (f x) (f y) e) (eq-eqb (g x) (g y) i)

  -- what agrees, agrees with the same
  pub agree_similar : (x y z : ℕ) → agree f g x y ≡ true → agree f g x z ≡ agree f g y z
  unfolding agree
  agree_similar x y z h =
      ap (λ (n : ℕ). eqb n (f z) && eqb (g x) (g z)) (eqb-true (f x) (f y) (and_left (eqb (f x) (f y)) (eqb (g x) (g y)) h))
      ∙ ap (λ (n : ℕ). eqb (f y) (f z) && eqb n (g z)) (eqb-true (g x) (g y) (and_right (eqb (f x) (f y)) (eqb (g x) (g y)) h))

  pub agree_says : (x y : ℕ) → agree f g x y ≡ true → (f x ≡ f y) × (g x ≡ g y)
  unfolding agree
  agree_says x y h =
      (eqb-true (f x) (f y) (and_left (eqb (f x) (f y)) (eqb (g x) (g y)) h), eqb-true (g x) (g y) (and_right (eqb (f x) (f y)) (eqb (g x) (g y)) h))

  pub agree_differs : (x y : ℕ) → ((f x ≡ f y) → (g x ≡ g y) → ⊥) → agree f g x y ≡ false
  agree_differs x y d = by_test (agree f g x y) (λ h. absurd (d (agree_says x y h).0 (agree_says x y h).1)) (λ h. h)
