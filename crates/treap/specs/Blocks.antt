-- Blocks (document 01, "Blocks"), over any order `α`, priority function `p` and rising keys `ks`. Assumes nothing.
use Rattle.std.specs.Prelude.{Bool, cond, ◌||◌, ◌&&◌, ℕ, suc, pred, ◌+◌, ◌*◌, ◌-◌, ◌/◌, eqb, ltb, length}
use mathlib.Core.List.{List, [], ◌∷◌, map, flat_map}
use Rattle.lists.specs.Lists.{keep, some, member, falling_from}
use Rattle.treap.specs.Treap.{path, top, treap}
use Rattle.treap.specs.Levels.{rank, leader}

-- A block: its name, (leader, level), and the keys that it holds, rising.
pub record Block : Type 0 where
  pub leader_key : ℕ
  pub level : ℕ
  pub held : List ℕ

module _ (α : ℕ) (p : ℕ → ℕ) (ks : List ℕ) where
  -- "With k the root's rank": the level of the root block.
  unfoldable pub root_rank : ℕ
  root_rank = rank α p ks (top p ks)

  -- "The root block is named (root, k). It holds the root and all keys of rank k−1."
  unfoldable pub root_block : Block
  root_block = record { leader_key = top p ks; level = root_rank; held = keep (λ x. eqb x (top p ks) || eqb (suc (rank α p ks x)) root_rank) ks }

  -- "Any other block (v, i), 1 ≤ i < k, holds the keys of rank i−1 whose leader is v".
  unfoldable pub block : ℕ → ℕ → Block
  block i v = record { leader_key = v; level = i; held = keep (λ x. eqb (suc (rank α p ks x)) i && eqb (leader α p ks x) v) ks }

  -- ".. and exists only when it holds one": the blocks of a level below the root's, by rising leader.
  unfoldable pub blocks_of_level : ℕ → List Block
  blocks_of_level i = keep (λ b. ltb 0 (length b.held)) (map (block i) ks)

  -- All blocks in the image's order: "blocks by falling level, then rising leader". No key, no block.
  unfoldable pub blocks : List Block
  blocks = cond (ltb 0 (length ks)) (root_block ∷ flat_map blocks_of_level (falling_from (pred root_rank))) []

  -- The blocks that hold a key.
  unfoldable pub holding : ℕ → List Block
  holding x = keep (λ b. member x b.held) blocks

  -- A block is the root's when it has the root block's name.
  unfoldable pub is_root_block : Block → Bool
  is_root_block b = eqb b.leader_key (top p ks) && eqb b.level root_rank

  -- "A block's parent is the block that holds v", where v is the block's leader. "The root block has no parent."
  unfoldable pub parents : Block → List Block
  parents b = cond (is_root_block b) [] (holding b.leader_key)

  -- A search for `v` meets a block when the block holds some key that it compares on its way down.
  unfoldable pub meets : ℕ → Block → Bool
  meets v b = some (λ x. member x b.held) (path v (treap p ks))

  -- Lookup's "number of different blocks that hold the keys it compares on its way down".
  unfoldable pub blocks_met : ℕ → ℕ
  blocks_met v = length (keep (meets v) blocks)

  -- "The number of different blocks over all the search paths, each block reckoned once" (02, N2): the blocks that hold some key on the
  -- search path of some of these.
  unfoldable pub blocks_met_by_all : List ℕ → ℕ
  blocks_met_by_all vs = length (keep (λ b. some (λ v. meets v b) vs) blocks)

-- "Only the root block can reach 2α−1 keys; any other stops at 2α−2" (02, N8): how many keys b blocks can hold, b from 1 on.
unfoldable pub room : ℕ → ℕ → ℕ
room α b = (2 * α - 1) + (b - 1) * (2 * α - 2)

-- "Fill becomes 100·n / ((2α−1) + (b−1)·(2α−2)) rounded down, still 0 when empty" (02, N8), for n keys in b blocks.
unfoldable pub fill : ℕ → ℕ → ℕ → ℕ
fill α n b = cond (eqb n 0) 0 (100 * n / room α b)
