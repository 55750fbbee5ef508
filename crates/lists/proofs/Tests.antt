-- Laws on Bool tests. Assumes nothing.
use mathlib.Core.Bool.{Bool, true, false, ◌||◌, ◌&&◌, not}
use mathlib.Core.Logic.{◌⊎◌, ◌≢◌, inl, inr}
use mathlib.Core.Path.{◌≡◌, refl, sym, ap, ◌∙◌}
use Prim.Native.Nat.{ℕ, zero, suc, ◌<◌, ◌≤◌}
use native.Mathlib.Omega.{arith}
use lib.Dec.{eqb, ltb, leb}
use borrow.Author.Tests.{ltb-true, ltb-false, leb-true, eqb-true, eqb-false, lt-ltb, le-ltb, lt-leb, le-leb, eq-eqb, ne_eqb}
use Rattle.lists.specs.Lists.{nonzero, lies}

-- Both cases of a test, each with what it says.
pub by_test : {C : Type 0} (b : Bool) → (b ≡ true → C) → (b ≡ false → C) → C
by_test true yes-case no-case = yes-case refl
by_test false yes-case no-case = no-case refl

pub true_or_false : (b : Bool) → b ≡ true → b ≡ false → ⊥
true_or_false b p q = let z : ◌≡◌ {A = ℕ} 0 1 = cc in omega arith

pub or_true_cases : (a b : Bool) → (a || b) ≡ true → (a ≡ true) ⊎ (b ≡ true)
or_true_cases true b h = inl refl
or_true_cases false b h = inr h

pub or_true_left : (a b : Bool) → a ≡ true → (a || b) ≡ true
or_true_left a b h = rw h

pub or_true_right : (a b : Bool) → b ≡ true → (a || b) ≡ true
or_true_right true b h = refl
or_true_right false b h = h

pub or_both_false : (a b : Bool) → a ≡ false → b ≡ false → (a || b) ≡ false
or_both_false a b p q = rw (p, q)

pub or_false_left : (a b : Bool) → (a || b) ≡ false → a ≡ false
or_false_left true b h = h
or_false_left false b h = refl

pub or_false_right : (a b : Bool) → (a || b) ≡ false → b ≡ false
or_false_right true b h = absurd (true_or_false true refl h)
or_false_right false b h = h

pub and_both : (a b : Bool) → a ≡ true → b ≡ true → (a && b) ≡ true
and_both a b p q = rw (p, q)

pub and_left : (a b : Bool) → (a && b) ≡ true → a ≡ true
and_left true b h = refl
and_left false b h = h

pub and_right : (a b : Bool) → (a && b) ≡ true → b ≡ true
and_right true b h = h
and_right false b h = absurd (true_or_false false h refl)

pub and_false_right : (a b : Bool) → b ≡ false → (a && b) ≡ false
and_false_right true b h = h
and_false_right false b h = refl

-- Two tests that pass at the same time are equal.
pub same_test : (a b : Bool) → (a ≡ true → b ≡ true) → (b ≡ true → a ≡ true) → a ≡ b
same_test true b f g = sym (f refl)
same_test false true f g = g refl
same_test false false f g = refl

-- Which of two numbers is less, or that they are equal, by the tests that a search makes.
pub data Compared (a b : ℕ) : Type 0 where
  less : eqb a b ≡ false → ltb a b ≡ true → ltb b a ≡ false → a < b → Compared a b
  same : eqb a b ≡ true → ltb a b ≡ false → ltb b a ≡ false → a ≡ b → Compared a b
  more : eqb a b ≡ false → ltb a b ≡ false → ltb b a ≡ true → b < a → Compared a b

pub compared : (a b : ℕ) → Compared a b
compared a b =
    by_test (ltb a b)
    (λ h. let l = ltb-true a b h in less (ne_eqb a b (λ e. omega arith)) h (le-ltb b a (omega arith)) l)
    (λ h.
    let l = ltb-false a b h in
    by_test (eqb a b)
    (λ e. let i = eqb-true a b e in same e h (le-ltb b a (omega arith)) i)
    (λ e. let i : a ≢ b = eqb-false a b e in more e h (lt-ltb b a (omega arith)) (omega arith)))

-- ---- numbers that are not zero
pub nonzero_when : (n : ℕ) → 1 ≤ n → nonzero n ≡ true
nonzero_when n h = ap not (ne_eqb n 0 (λ e. omega arith))

pub nonzero_says : (n : ℕ) → nonzero n ≡ true → 1 ≤ n
nonzero_says zero h = absurd (true_or_false false h refl)
nonzero_says (suc n) h = omega arith

pub zero_fails : (n : ℕ) → n ≡ 0 → nonzero n ≡ false
zero_fails n e = ap not (eq-eqb n 0 e)

-- ---- numbers from one to another
module _ (low high n : ℕ) where
  pub lies_below : n < low → lies low high n ≡ false
  unfolding lies
  lies_below h = rw (lt-leb low n h)

  pub lies_above : high < n → lies low high n ≡ false
  unfolding lies
  lies_above h = and_false_right (leb low n) (leb n high) (lt-leb n high h)

  pub lies_upto : low ≤ n → lies low high n ≡ leb n high
  unfolding lies
  lies_upto h = rw (le-leb low n h)

  pub lies_when : low ≤ n → n ≤ high → lies low high n ≡ true
  lies_when h k = lies_upto h ∙ le-leb n high k

  pub lies_says : lies low high n ≡ true → (low ≤ n) × (n ≤ high)
  unfolding lies
  lies_says t = (leb-true low n (and_left (leb low n) (leb n high) t), leb-true n high (and_right (leb low n) (leb n high) t))
