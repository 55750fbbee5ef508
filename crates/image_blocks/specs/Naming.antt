-- The names of blocks from columns by index: the level and the leader of the block that holds the key at an index, and a weight by
-- which blocks come in the image's order. A key's position is one more than its index; leaders and the root are positions.
-- Assumes nothing.
use Rattle.std.specs.Prelude.{Bool, cond, List, map, ℕ, suc, ◌+◌, ◌*◌, ◌-◌, ◌<◌, ◌≤◌, eqb, length, get_or}
use Rattle.lists.specs.Lists.{up_from}
use Rattle.table.specs.Layout.{most_slots}

-- The level of the block that holds the key at an index: the root's rank for the root, one above the rank for any other key.
unfoldable pub level_at : ℕ → List ℕ → ℕ → ℕ
level_at root rank i = cond (eqb (suc i) root) (get_or rank i 0) (suc (get_or rank i 0))

-- The position of the leader in that block's name: the root's for the root.
unfoldable pub leader_at : ℕ → List ℕ → ℕ → ℕ
leader_at root leader i = cond (eqb (suc i) root) root (get_or leader i 0)

-- The weight of a block's name: greater where the level is higher, then where the leader is less.
abbrev pub name_weight : ℕ → ℕ → ℕ
name_weight level leader = suc most_slots * level + (most_slots - leader)

-- The weights of the blocks that hold the first n keys, one for each key.
unfoldable pub block_weight : ℕ → List ℕ → List ℕ → ℕ → ℕ
block_weight root rank leader i = name_weight (level_at root rank i) (leader_at root leader i)

unfoldable pub block_weights : ℕ → List ℕ → List ℕ → ℕ → List ℕ
block_weights root rank leader n = map (block_weight root rank leader) (up_from 0 n)

-- Two indices have the same weight.
unfoldable pub same_weight : List ℕ → ℕ → ℕ → Bool
same_weight weights i j = eqb (get_or weights i 0) (get_or weights j 0)

-- Columns from which the blocks of n keys can be named: no rank and no leader is too large.
pub record Ranked (n root : ℕ) (rank leader : List ℕ) : Type 0 where
  pub few : n ≤ most_slots
  pub root_within : root ≤ n
  pub rank_long : n ≤ length rank
  pub leader_long : n ≤ length leader
  pub rank_low : (i : ℕ) → i < n → get_or rank i 0 ≤ n
  pub leader_low : (i : ℕ) → i < n → get_or leader i 0 ≤ n
