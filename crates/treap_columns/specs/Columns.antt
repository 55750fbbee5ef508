-- The columns of the positions 1 to n under given weights, in the order of the positions, and what the columns of ranks,
-- counts and leaders are made from. Assumes nothing.
use Rattle.std.specs.Prelude.{List, map, ◌≡◌, ℕ, ◌≤◌, length, take}
use Rattle.treap.specs.Treap.{left_link, right_link}
use Rattle.treap.specs.Levels.{rank, count, leader}
use Rattle.treap_columns.specs.Positions.{positions, weight_at, InOrder}

-- Links: for each position the roots of the subtrees left and right of it.
abbrev pub left_column : List ℕ → ℕ → List ℕ
left_column weights n = map (left_link (weight_at weights) (positions n)) (positions n)

abbrev pub right_column : List ℕ → ℕ → List ℕ
right_column weights n = map (right_link (weight_at weights) (positions n)) (positions n)

-- Ranks, counts and leaders, in a tree of order α.
abbrev pub rank_column : ℕ → List ℕ → ℕ → List ℕ
rank_column α weights n = map (rank α (weight_at weights) (positions n)) (positions n)

abbrev pub count_column : ℕ → List ℕ → ℕ → List ℕ
count_column α weights n = map (count α (weight_at weights) (positions n)) (positions n)

abbrev pub leader_column : ℕ → List ℕ → ℕ → List ℕ
leader_column α weights n = map (leader α (weight_at weights) (positions n)) (positions n)

-- The most positions that a column has, and the largest order of a tree.
abbrev pub most_positions : ℕ
most_positions = 4096

abbrev pub largest_order : ℕ
largest_order = 255

-- An order α in range, and columns of n positions, of which only the first n entries count: the order of outranking and
-- the links.
pub record Ready (weights : List ℕ) (α n : ℕ) (order left right : List ℕ) : Type 0 where
  pub wide : 2 ≤ α
  pub narrow : α ≤ largest_order
  pub whole : n ≡ length weights
  pub few : n ≤ most_positions
  pub order_room : n ≤ length order
  pub left_room : n ≤ length left
  pub right_room : n ≤ length right
  pub in_order : InOrder weights (take n order)
  pub lefts : take n left ≡ left_column weights n
  pub rights : take n right ≡ right_column weights n
