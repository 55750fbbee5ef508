-- What is claimed of how many keys blocks hold, and of the fill (document 02, N8): for every order of at least 2, and so for document 01's
-- from 3 on, under any priorities, for all blocks of any rising keys; that the ceilings are reached, under some. `proofs/BlockClaims` proves it.
-- Assumes nothing.
use Rattle.std.specs.Prelude.{cond, List, [], ◌∷◌, map, ◌≡◌, ℕ, suc, ◌*◌, ◌-◌, ◌<◌, ◌≤◌, length}
use Rattle.lists.specs.Lists.{keep, All, Rising}
use Rattle.treap.specs.Blocks.{root_block, blocks, is_root_block, room, fill}

-- The blocks of these keys hold no more than they can.
pub record WithinCeilings (α : ℕ) (p : ℕ → ℕ) (ks : List ℕ) : Type 0 where
  -- "Only the root block can reach 2α−1 keys; any other stops at 2α−2."
  pub at_most : All (λ b. length b.held ≤ cond (is_root_block α p ks b) (2 * α - 1) (2 * α - 2)) (blocks α p ks)
  -- the root block is one of them, where there are keys, and the only one of its name
  pub one_root : 1 ≤ length ks → keep (is_root_block α p ks) (blocks α p ks) ≡ root_block α p ks ∷ []
  -- so there are no more keys than their blocks can hold
  pub has_room : length ks ≤ room α (length (blocks α p ks))
  -- and fill is at most 100
  pub percent : fill α (length ks) (length (blocks α p ks)) ≤ 100
  -- which it is only where they are as many
  pub full : fill α (length ks) (length (blocks α p ks)) ≡ 100 → length ks ≡ room α (length (blocks α p ks))

-- Rising keys, with priorities, whose blocks, in image order and so the root block first, hold so many.
pub record Sizes (α : ℕ) (sizes : List ℕ) : Type 0 where
  pub priorities : ℕ → ℕ
  pub keys : List ℕ
  pub rise : Rising keys
  pub held : map (λ b. length b.held) (blocks α priorities keys) ≡ sizes

pub record BlockCeilings : Type 0 where
  -- every order of at least 2, any priorities, any rising keys
  pub every_set : (α : ℕ) → 2 ≤ α → (p : ℕ → ℕ) (ks : List ℕ) → Rising ks → WithinCeilings α p ks
  -- there are no lower ceilings: in every order, under priorities made for it, a root block reaches 2α−1, and another block 2α−2
  pub root_reached : (α : ℕ) → 2 ≤ α → Sizes α ((2 * α - 1) ∷ [])
  pub other_reached : (α : ℕ) → 2 ≤ α → Sizes α (2 ∷ (2 * α - 2) ∷ [])
  -- "rounded down": so many hundredths of what the blocks can hold are there, and not one more
  pub enough : (α n b : ℕ) → fill α n b * room α b ≤ 100 * n
  pub greatest : (α n b : ℕ) → 1 ≤ α → 100 * n < suc (fill α n b) * room α b
  -- "still 0 when empty"
  pub empty : (α b : ℕ) → fill α 0 b ≡ 0
