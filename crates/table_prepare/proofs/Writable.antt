-- Keys that a table can be made of. Assumes nothing.
use mathlib.Core.Bool.{true}
use mathlib.Core.List.{List}
use mathlib.Core.Path.{◌≡◌}
use Prim.Native.Nat.{ℕ, ◌≤◌}
use native.Mathlib.Omega.{arith}
use lib.ListN.{length}
use Rattle.lists.specs.Lists.{lies, All, Rising}
use Rattle.lists.proofs.Tests.{lies_says}
use Rattle.lists.proofs.Keep.{all_map}
use Rattle.table.specs.Layout.{most_slots, least_order, greatest_order}
use Rattle.table.specs.Contents.{Contents, table_order, IsKey, Valid, keys_in}
use Rattle.table_prepare.specs.Prepared.{Keys}

-- what was tested can be written
pub writable : (order : ℕ) (keys : List ℕ) → lies least_order greatest_order order ≡ true → Rising keys → All (λ k. 1 ≤ k) keys → length keys ≤ most_slots → Keys order keys
writable order keys right rising some few =
    let within = lies_says least_order greatest_order order right in
    record { wide = omega (arith, within.0); narrow = within.1; rising = rising; some = some; few = few }

-- and so can what a table may hold
pub valid_keys : (many : ℕ) (c : Contents) → many ≤ most_slots → Valid many c → Keys c.order (keys_in c)
unfolding table_order
valid_keys many c most valid =
    writable c.order (keys_in c) valid.order_right valid.keys_rise (all_map IsKey (λ k. 1 ≤ k) (λ k h. h.0) (keys_in c) valid.keys_right)
    (omega (arith, valid.keys_fit))
