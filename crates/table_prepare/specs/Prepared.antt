-- What the keys of a table are, and what is made of them before its words are written. Assumes nothing.
use Rattle.std.specs.Prelude.{List, map, ◌≡◌, ℕ, ◌≤◌, length, take}
use Rattle.lists.specs.Lists.{All, Rising}
use Rattle.priority.specs.Priority.{priority_with, home_of}
use Rattle.treap.specs.Treap.{top}
use Rattle.treap.specs.Slots.{slots_of}
use Rattle.treap_columns.specs.Positions.{positions, weight_at}
use Rattle.table.specs.Layout.{most_slots, greatest_order}
use Rattle.treap_columns.specs.Columns.{left_column, right_column, rank_column, count_column, leader_column}
use Rattle.treap_columns.specs.declared.Columns.{Columns}

-- Columns that begin with those of the positions of `weights`.
pub record Filled (order : ℕ) (weights : List ℕ) (columns : Columns) : Type 0 where
  pub lefts : take (length weights) columns.left ≡ left_column weights (length weights)
  pub rights : take (length weights) columns.right ≡ right_column weights (length weights)
  pub ranks : take (length weights) columns.rank ≡ rank_column order weights (length weights)
  pub counts : take (length weights) columns.count ≡ count_column order weights (length weights)
  pub leaders : take (length weights) columns.leader ≡ leader_column order weights (length weights)

-- Keys that a table can be made of: an order of at least 2 that is not too large, and few enough rising keys, none of them zero.
pub record Keys (order : ℕ) (keys : List ℕ) : Type 0 where
  pub wide : 2 ≤ order
  pub narrow : order ≤ greatest_order
  pub rising : Rising keys
  pub some : All (λ k. 1 ≤ k) keys
  pub few : length keys ≤ most_slots

-- What a table is written from: the columns of the keys, their slots and their root, by position, under a salt.
pub record Prepared (order salt : ℕ) (keys : List ℕ) (columns : Columns) (slots : List ℕ) (root : ℕ) : Type 0 where
  pub root_is : root ≡ top (weight_at (map (priority_with salt) keys)) (positions (length keys))
  pub filled : Filled order (map (priority_with salt) keys) columns
  pub placed : slots ≡ slots_of (weight_at (map (priority_with salt) keys)) (λ i. home_of (weight_at (map (priority_with salt) keys) i) (length slots)) (length slots) (positions (length keys))
  pub left_room : length keys ≤ length columns.left
  pub right_room : length keys ≤ length columns.right
  pub rank_room : length keys ≤ length columns.rank
  pub count_room : length keys ≤ length columns.count
  pub leader_room : length keys ≤ length columns.leader
