-- Integers that are a bound above or below natural numbers, their tests, and what the machine reads back. Assumes nothing.
use mathlib.Core.Bool.{Bool, true, false, not, cond}
use mathlib.Core.Path.{◌≡◌, refl, sym, ap, ◌∙◌, subst}
use Prim.Native.Nat.{ℕ, zero, suc, ◌+◌, ◌-◌, ◌≤◌, ◌<◌}
use native.Mathlib.Nat.{add-zero, sub-zero}
use native.Mathlib.Omega.{arith}
use lib.Dec.{T, eqb, ltb, leb, ltb→lt, nltb→le}
use lib.IntN.{ℤ, pos, negsuc, nat_abs, sub_ℕ, ◌+ℤ◌, ◌-ℤ◌, +ℤ_comm, -ℤ-+ℤ_cancel}
use lib.Signed.{mag, lt_z, le_z}
use mir.Syntax.{Width, w32}
use mir.Val.{SFits, to_z, of_z}
use mir.ValLaws.{to_z-of_z}
use borrow.Author.Tests.{eqb-true, leb-true, le-leb, le-ltb}
use borrow.Author.Differences.{lt-true, lt-false, true_is_le, false_is_le}
use Rattle.std.specs.Ordering.{is_le, int_cmp}
use Rattle.lists.proofs.Tests.{by_test as by_either, same_test, true_or_false, and_both, and_left, and_right}
use Rattle.measure.specs.Measure.{lies_z}

-- ---- differences
-- a difference is negative, or it is not
module _ (P : ℤ → Type 0) (a b : ℕ) where
  by_test : (t : Bool) → (T t → P (negsuc (b - suc a))) → (T (not t) → P (pos (a - b))) → P (cond t (negsuc (b - suc a)) (pos (a - b)))
  by_test true f g = f tt
  by_test false f g = g tt

  pub by_sign : (a < b → P (negsuc (b - suc a))) → (b ≤ a → P (pos (a - b))) → P (sub_ℕ a b)
  by_sign f g = by_test (ltb a b) (λ t. f (ltb→lt a b t)) (λ t. g (nltb→le a b t))

pub difference : (a b : ℕ) → pos a -ℤ pos b ≡ sub_ℕ a b
difference a zero =
    ap pos (add-zero a ∙ sym (sub-zero a)) ∙ ap (λ (t : Bool). cond t (negsuc (0 - suc a)) (pos (a - 0))) (sym (le-ltb a 0 (omega arith)))
difference a (suc b) = refl

-- from −(k + 1) to l
pub difference_lies : (a b k l : ℕ) → b ≤ a + suc k → a ≤ b + l → lies_z (negsuc k) (pos l) (sub_ℕ a b) ≡ true
unfolding lies_z
difference_lies a b k l low high =
    by_sign (λ z. lies_z (negsuc k) (pos l) z ≡ true) a b
    (λ h. and_both (leb (b - suc a) k) true (le-leb (b - suc a) k (omega arith)) refl)
    (λ h. le-leb (a - b) l (omega arith))

pub mag_below : (a b m : ℕ) → a < m → b < m → mag (sub_ℕ a b) < m
mag_below a b m h k = by_sign (λ z. mag z < m) a b (λ l. omega arith) (λ l. omega arith)

-- ---- tests
-- what the library's order says of two integers
pub is_le_le_z : (a b : ℤ) → is_le (int_cmp a b) ≡ le_z a b
is_le_le_z a b =
    by_either (lt_z a b) (λ e. rw e (true_is_le a b (omega (arith, lt-true a b e))))
    (λ e.
    by_either (lt_z b a) (λ f. rw (e, f) (false_is_le a b (lt-true b a f)))
    (λ f. rw (e, f) (true_is_le a b (omega (arith, lt-false b a f)))))

-- only zero lies from zero to zero
pub lies_zero : (z : ℤ) → lies_z (pos 0) (pos 0) z ≡ true → z ≡ pos 0
unfolding lies_z
lies_zero (pos n) h = let few = leb-true n 0 (and_right (leb 0 n) (leb n 0) h) in ap pos (omega arith)
lies_zero (negsuc n) h = absurd (true_or_false false h refl)

-- so the test for zero is that it lies there
pub equals_zero : (z : ℤ) → SFits w32 z → eqb (of_z w32 z) 0 ≡ lies_z (pos 0) (pos 0) z
unfolding lies_z
equals_zero z fits =
    same_test (eqb (of_z w32 z) 0) (lies_z (pos 0) (pos 0) z)
    (λ e. let none : z ≡ pos 0 = sym (to_z-of_z w32 z fits) ∙ ap (to_z w32) (eqb-true (of_z w32 z) 0 e) in ap (lies_z (pos 0) (pos 0)) none)
    (λ h. ap (λ (y : ℤ). eqb (of_z w32 y) 0) (lies_zero z h))

-- An integer without a sign, within bounds.
pub record Unsigned (low high : ℕ) (z : ℤ) : Type 0 where
  pub value : ℕ
  pub is : z ≡ pos value
  pub least : low ≤ value
  pub most : value ≤ high

-- ---- between −(k + 1) and k + 1
module _ (k : ℕ) where
  abbrev pub Near : ℤ → Type 0
  Near z = lies_z (negsuc k) (pos (suc k)) z ≡ true

  few_below : (n : ℕ) → Near (negsuc n) → n ≤ k
  unfolding lies_z
  few_below n h = leb-true n k (and_left (leb n k) true h)

  few_above : (n : ℕ) → Near (pos n) → n ≤ suc k
  unfolding lies_z
  few_above n h = leb-true n (suc k) h

  -- with a number from k + 1 on it has no sign
  pub together : (l : ℕ) (z : ℤ) → suc k ≤ l → Near z → Unsigned (l - suc k) (l + suc k) (pos l +ℤ z)
  together l (pos n) h near =
      let few = few_above n near in record { value = l + n; is = refl; least = omega arith; most = omega arith }
  together l (negsuc n) h near =
      let few = few_below n near in
      by_sign (Unsigned (l - suc k) (l + suc k)) l (suc n) (λ g. absurd (omega arith))
      (λ g. record { value = l - suc n; is = refl; least = omega arith; most = omega arith })

  -- raised by k + 1 it is not negative
  raised : (z : ℤ) → Near z → Unsigned 0 (suc k + suc k) (z +ℤ pos (suc k))
  raised z h =
      let t = together (suc k) z (omega arith) h in record {
        value = t.value;
        is = +ℤ_comm z (pos (suc k)) ∙ t.is;
        least = omega arith;
        most = t.most;
      }

  pub raised_positive : (z : ℤ) → Near z → pos (nat_abs (z +ℤ pos (suc k))) ≡ z +ℤ pos (suc k)
  raised_positive z h = let t = raised z h in ap (λ (y : ℤ). pos (nat_abs y)) t.is ∙ sym t.is

  pub raised_upto : (z : ℤ) → Near z → nat_abs (z +ℤ pos (suc k)) ≤ suc k + suc k
  raised_upto z h = let t = raised z h in subst (λ (y : ℤ). nat_abs y ≤ suc k + suc k) (sym t.is) t.most

  -- lowered by k + 1 a number up to 2·(k + 1) lies between
  pub lowered_lies : (n : ℕ) → n ≤ suc k + suc k → Near (sub_ℕ n (suc k))
  lowered_lies n h = difference_lies n (suc k) k (suc k) (omega arith) h

  pub lowered_raised : (n : ℕ) → nat_abs (sub_ℕ n (suc k) +ℤ pos (suc k)) ≡ n
  lowered_raised n = ap nat_abs (-ℤ-+ℤ_cancel (pos n) (pos (suc k)))

-- ---- a signed result, read back
pub reads_back : (w : Width) (z y : ℤ) → z ≡ y → SFits w y → to_z w (of_z w z) ≡ y
reads_back w z y e f = ap (λ (x : ℤ). to_z w (of_z w x)) e ∙ to_z-of_z w y f
