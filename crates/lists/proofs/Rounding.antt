-- Laws of a quotient rounded up. Assumes that the divisor is not zero.
use mathlib.Core.Path.{◌≡◌}
use Prim.Native.Nat.{ℕ, suc, ◌+◌, ◌*◌, ◌-◌, ◌<◌, ◌≤◌}
use native.Mathlib.Nat.{suc-mul, mul-le-mul_right, lt-div-mul-add, div-lt_iff_lt-mul}
use native.Mathlib.Omega.{arith}
use lib.Dec.{ltb}
use borrow.Author.Tests.{ltb-true, ltb-false}
use Rattle.lists.specs.Lists.{rounded_up}
use Rattle.lists.proofs.Tests.{by_test}

module _ (a b : ℕ) (some : 1 ≤ b) where
  -- it is enough
  pub rounded_enough : a ≤ rounded_up a b * b
  unfolding rounded_up
  rounded_enough = omega (arith, lt-div-mul-add {a = a + (b - 1)} some)

  -- and the least that is
  pub rounded_least : (c : ℕ) → a ≤ c * b → rounded_up a b ≤ c
  unfolding rounded_up
  rounded_least c h = omega (arith, (div-lt_iff_lt-mul {k = b} {x = a + (b - 1)} {y = suc c} some).1 (omega (arith, suc-mul c b)))

  -- a number that is not enough is below it
  pub rounded_above : (c : ℕ) → c * b < a → c < rounded_up a b
  rounded_above c h =
      by_test (ltb c (rounded_up a b))
      (λ e. ltb-true c (rounded_up a b) e)
      (λ e. absurd (omega (arith, rounded_enough, mul-le-mul_right b (ltb-false c (rounded_up a b) e))))

  pub rounded_is : (c : ℕ) → c * b < a → a ≤ suc c * b → rounded_up a b ≡ suc c
  rounded_is c h k = omega (arith, rounded_above c h, rounded_least (suc c) k)

pub rounded_none : (b : ℕ) → 1 ≤ b → rounded_up 0 b ≡ 0
rounded_none b some = omega (arith, rounded_least 0 b some 0 (omega arith))
