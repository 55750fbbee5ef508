-- What is claimed of the blocks that a lookup meets in a table (document 02, N7), over the reply that lookup's contract cites;
-- `proofs/Claims` proves it. Assumes nothing.
use Rattle.std.specs.Prelude.{true, List, ◌≢◌, ◌≡◌, ℕ, max, ◌≤◌, length}
use Rattle.lists.specs.Lists.{member}
use Rattle.treap.specs.Blocks.{root_rank, blocks_met}
use Rattle.treap_ceilings.specs.Ceiling.{rank_ceiling, blocks_ceiling}
use Rattle.table.specs.Layout.{most_slots}
use Rattle.table.specs.Contents.{Contents, keys_in, priority_in, table_order, IsSalt}
use Rattle.table.specs.Table.{Sound}
use Rattle.call_meaning.specs.Reasons.{shown}
use Rattle.call_meaning.specs.Calls.{lookup_reply, blocks_told}

-- How many keys a table holds, and the rank of their root.
abbrev pub key_count : Contents → ℕ
key_count c = length (keys_in c)

abbrev pub root_rank_in : Contents → ℕ
root_rank_in c = root_rank c.order (priority_in c) (keys_in c)

-- What is claimed of a table, with the order, the salt and the set that it holds.
pub record CeilingsIn (words : List ℕ) (c : Contents) : Type 0 where
  -- "With n keys, n at least 1, the root's rank is at most (n − 1)/(α − 1) rounded up"
  pub root_rank_lem : 1 ≤ key_count c → root_rank_in c ≤ rank_ceiling c.order (key_count c)
  -- "and a lookup meets at most that many blocks, or one when the rank is 0": of any key, held or not; that of zero is refused, and tells of none
  pub blocks_met_lem : 1 ≤ key_count c → (key : ℕ) → blocks_told (lookup_reply words key) ≤ blocks_ceiling c.order (key_count c) (root_rank_in c)
  -- more than that: at most the root's rank, or one
  pub blocks_by_rank : (key : ℕ) → blocks_told (lookup_reply words key) ≤ max 1 (root_rank_in c)
  -- "An empty one meets none."
  pub none_met : key_count c ≡ 0 → (key : ℕ) → blocks_told (lookup_reply words key) ≡ 0
  -- with n keys, n at least 1, the rank is 0 when n is 1, and only then
  pub one_key : key_count c ≡ 1 → root_rank_in c ≡ 0
  pub more_keys : 2 ≤ key_count c → 1 ≤ root_rank_in c
  -- a lookup of any key but zero is accepted, and tells how many blocks it meets
  pub accepted : (key : ℕ) → key ≢ 0 → (lookup_reply words key).refusal ≡ 0
  pub told : (key : ℕ) → key ≢ 0 → blocks_told (lookup_reply words key) ≡ blocks_met c.order (priority_in c) (keys_in c) key

-- A sound table of an order, a salt and so many keys that reaches both ceilings: the root by its rank, and the accepted lookup of a held key by the blocks that it
-- meets.
pub record WorstTable (order salt n : ℕ) : Type 0 where
  pub words : List ℕ
  pub sound : Sound words
  pub of_order : sound.contents.order ≡ order
  pub of_salt : sound.contents.salt ≡ salt
  pub of_keys : key_count sound.contents ≡ n
  pub root : root_rank_in sound.contents ≡ rank_ceiling order n
  pub key : ℕ
  pub held : member key (keys_in sound.contents) ≡ true
  pub accepted : (lookup_reply words key).refusal ≡ 0
  pub met : blocks_told (lookup_reply words key) ≡ blocks_ceiling order n (root_rank_in sound.contents)

pub record LookupCeiling : Type 0 where
  -- "Show it for every sound table."
  pub every_table : (words : List ℕ) (sound : Sound words) → CeilingsIn words sound.contents
  -- and so for any words in which some lookup is accepted, with what they show
  pub every_accepted : (words : List ℕ) (key : ℕ) → (lookup_reply words key).refusal ≡ 0 → CeilingsIn words (shown words)
  -- there are no better ceilings: whatever the order, the salt and the number of keys, some table reaches them
  pub reached : (order salt n : ℕ) → table_order order ≡ true → IsSalt salt → 1 ≤ n → n ≤ most_slots → WorstTable order salt n
