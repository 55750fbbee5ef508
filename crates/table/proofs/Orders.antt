-- The orders that a table may have, as numbers. Assumes nothing.
use mathlib.Core.Bool.{true}
use mathlib.Core.Path.{◌≡◌}
use Prim.Native.Nat.{ℕ, ◌<◌, ◌≤◌}
use native.Mathlib.Omega.{arith}
use Rattle.lists.proofs.Tests.{lies_says}
use Rattle.table.specs.Layout.{least_order, greatest_order}
use Rattle.table.specs.Contents.{table_order}

-- "The order α is 3 to 255."
pub order_within : (order : ℕ) → table_order order ≡ true → (3 ≤ order) × (order < 256)
unfolding table_order
order_within order right = let within = lies_says least_order greatest_order order right in omega arith

pub order_wide : (order : ℕ) → table_order order ≡ true → 2 ≤ order
order_wide order right = omega (arith, order_within order right)
