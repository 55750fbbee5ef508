-- The fill of blocks, as it is computed. Assumes nothing.
use mathlib.Core.Path.{◌≡◌}
use Prim.Native.Nat.{ℕ, ◌+◌, ◌*◌, ◌-◌, ◌/◌, ◌≤◌, ◌<◌, ◌^◌}
use native.Mathlib.Nat.{mul-le-mul}
use native.Mathlib.Omega.{arith}
use borrow.Author.Tests.{eq-eqb, ne_eqb}
use Rattle.treap.specs.Blocks.{room, fill}

pub fill_no_keys : (order keys blocks : ℕ) → keys ≡ 0 → 0 ≡ fill order keys blocks
unfolding fill
fill_no_keys order keys blocks h = rw (eq-eqb keys 0 h)

pub fill_some : (order keys blocks : ℕ) → (keys ≡ 0 → ⊥) → 100 * keys / (2 * order - 1 + (blocks - 1) * (2 * order - 2)) ≡ fill order keys blocks
unfolding fill room
fill_some order keys blocks h = rw (ne_eqb keys 0 h)

-- a number below 2^16 times one below 2^9, and one below 2^9 more, fit a word
few : (a b : ℕ) → a < 65536 → b < 512 → a * b ≤ 65536 * 512
few a b h k = mul-le-mul {n₁ = a} {m₁ = b} {n₂ = 65536} {m₂ = 512} (omega arith) (omega arith)

pub product_fits : (a b : ℕ) → a < 65536 → b < 512 → a * b < 2 ^ 64
product_fits a b h k = omega (arith, few a b h k)

pub sum_fits : (x a b : ℕ) → x < 512 → a < 65536 → b < 512 → x + a * b < 2 ^ 64
sum_fits x a b l h k = omega (arith, few a b h k)
