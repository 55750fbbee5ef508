-- How the keys stand, told by columns. Assumes nothing.
use mathlib.Core.List.{List}
use mathlib.Core.Path.{◌≡◌}
use Prim.Native.Nat.{ℕ, ◌<◌, ◌≤◌}
use lib.ListN.{length, get_or}
use Rattle.priority.specs.Priority.{priority_with}
use Rattle.treap.specs.Levels.{rank, count, leader}
use Rattle.treap_columns.specs.declared.Columns.{Columns}
use Rattle.table_encode.specs.Encode.{key_at}

-- Columns that have, at the index of each key, its rank, its count and its leader by an order and a salt; a leader is a position, or zero for none.
pub record StandingsOf (order salt : ℕ) (keys : List ℕ) (columns : Columns) : Type 0 where
  pub rank_long : length keys ≤ length columns.rank
  pub count_long : length keys ≤ length columns.count
  pub leader_long : length keys ≤ length columns.leader
  pub rank_is : (i : ℕ) → i < length keys → get_or columns.rank i 0 ≡ rank order (priority_with salt) keys (get_or keys i 0)
  pub count_is : (i : ℕ) → i < length keys → get_or columns.count i 0 ≡ count order (priority_with salt) keys (get_or keys i 0)
  pub leader_within : (i : ℕ) → i < length keys → get_or columns.leader i 0 ≤ length keys
  pub leader_is : (i : ℕ) → i < length keys → key_at keys (get_or columns.leader i 0) ≡ leader order (priority_with salt) keys (get_or keys i 0)
