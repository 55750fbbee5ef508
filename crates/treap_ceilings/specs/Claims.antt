-- What is claimed of the ceilings (document 02, N7): for every order of at least 2, and so for document 01's from 3 on, under any priorities.
-- `proofs/Claims` proves it. Assumes nothing.
use Rattle.std.specs.Prelude.{true, List, [], ◌∷◌, map, ◌⊎◌, ◌≡◌, ℕ, max, ◌*◌, ◌≤◌, length}
use Rattle.lists.specs.Lists.{rounded_up, member, All, Pairwise, Rising}
use Rattle.treap.specs.Treap.{outranks}
use Rattle.treap.specs.Blocks.{root_rank, blocks_met}
use Rattle.treap.specs.Examples.{written}
use Rattle.treap_ceilings.specs.Ceiling.{rank_ceiling, blocks_ceiling}

-- Keys that reach both ceilings: the root by its rank, and the search for one of them by the blocks that it meets.
pub record Reach (α : ℕ) (p : ℕ → ℕ) (ks : List ℕ) : Type 0 where
  pub root : root_rank α p ks ≡ rank_ceiling α (length ks)
  pub sought : ℕ
  pub held : member sought ks ≡ true
  pub met : blocks_met α p ks sought ≡ blocks_ceiling α (length ks) (root_rank α p ks)

-- So many rising keys that reach both, from 1 to the square of their number.
pub record WorstKeys (α : ℕ) (p : ℕ → ℕ) (n : ℕ) : Type 0 where
  pub keys : List ℕ
  pub rise : Rising keys
  pub small : All (λ k. (1 ≤ k) × (k ≤ n * n)) keys
  pub many : length keys ≡ n
  pub reach : Reach α p keys

-- A chain: each key outranks all greater ones, or each all lesser ones.
abbrev pub Chain : (ℕ → ℕ) → List ℕ → Type 0
Chain p ks = Pairwise (λ a b. outranks p a b ≡ true) ks ⊎ Pairwise (λ a b. outranks p b a ≡ true) ks

-- What is claimed of an order, under these priorities.
pub record Ceilings (α : ℕ) (p : ℕ → ℕ) : Type 0 where
  -- "With n keys, n at least 1, the root's rank is at most (n − 1)/(α − 1) rounded up"
  pub root_rank_lem : (ks : List ℕ) → Rising ks → 1 ≤ length ks → root_rank α p ks ≤ rank_ceiling α (length ks)
  -- "and a lookup meets at most that many blocks, or one when the rank is 0", whether its key is held or not
  pub blocks_met_lem : (ks : List ℕ) → Rising ks → 1 ≤ length ks → (v : ℕ) → blocks_met α p ks v ≤ blocks_ceiling α (length ks) (root_rank α p ks)
  -- more than that: at most the root's rank, or one
  pub blocks_by_rank : (ks : List ℕ) → Rising ks → (v : ℕ) → blocks_met α p ks v ≤ max 1 (root_rank α p ks)
  -- with n keys, n at least 1, the rank is 0 when n is 1, and only then
  pub one_key : (ks : List ℕ) → Rising ks → length ks ≡ 1 → root_rank α p ks ≡ 0
  pub more_keys : (ks : List ℕ) → Rising ks → 2 ≤ length ks → 1 ≤ root_rank α p ks
  -- "An empty one meets none."
  pub no_key : (v : ℕ) → blocks_met α p [] v ≡ 0
  -- chains reach both
  pub chains : (ks : List ℕ) → Rising ks → 1 ≤ length ks → Chain p ks → Reach α p ks
  -- so there are no better ceilings: whatever the number of keys, some reach them
  pub reached : (n : ℕ) → 1 ≤ n → WorstKeys α p n

pub record TreapCeilings : Type 0 where
  -- every order of at least 2, any priorities
  pub every_order : (α : ℕ) → 2 ≤ α → (p : ℕ → ℕ) → Ceilings α p
  -- "rounded up": so many times the divisor are enough, and no smaller number is
  pub enough : (a b : ℕ) → 1 ≤ b → a ≤ rounded_up a b * b
  pub least : (a b : ℕ) → 1 ≤ b → (c : ℕ) → a ≤ c * b → rounded_up a b ≤ c
  -- document 01's examples D, "1 to 4, priorities falling", and E, "2 first, then 3, 4, 5, 6, 7, then 1": their root's ranks, 2 and 3
  pub example_d : root_rank 3 (written (1 ∷ 2 ∷ 3 ∷ 4 ∷ [])) (1 ∷ 2 ∷ 3 ∷ 4 ∷ []) ≡ rank_ceiling 3 4
  pub example_e : root_rank 3 (written (2 ∷ 3 ∷ 4 ∷ 5 ∷ 6 ∷ 7 ∷ 1 ∷ [])) (1 ∷ 2 ∷ 3 ∷ 4 ∷ 5 ∷ 6 ∷ 7 ∷ []) ≡ rank_ceiling 3 7
  -- the ceilings of 4,096 keys, of orders 3, 16, 64 and 255
  pub worked : map (λ α. rank_ceiling α 4096) (3 ∷ 16 ∷ 64 ∷ 255 ∷ []) ≡ 2048 ∷ 273 ∷ 65 ∷ 17 ∷ []
