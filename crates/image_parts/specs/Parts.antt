-- The bytes of an image from columns by index: a key's, a block's, and all of them. Assumes nothing.
use Rattle.std.specs.Prelude.{Bool, ◌≡◌, ℕ, ◌<◌, ◌≤◌, length, get_or}
use mathlib.Core.List.{List, ◌++◌, flat_map}
use Rattle.lists.specs.Lists.{nonzero, runs}
use Rattle.measure.specs.Tag.{length_in, stored_in}
use Rattle.treap.specs.Image.{header_record, block_record, node_record}
use Rattle.image.specs.Image.{salted}
use Rattle.treap_columns.specs.declared.Columns.{Columns}
use Rattle.table_encode.specs.Encode.{key_at}
use Rattle.image_blocks.specs.Naming.{level_at, leader_at, same_weight}

-- The record of the key at an index.
unfoldable pub node_at : List ℕ → List ℕ → Columns → ℕ → List ℕ
node_at keys tags c i =
    node_record (get_or keys i 0) (key_at keys (get_or c.left i 0)) (key_at keys (get_or c.right i 0)) (get_or c.rank i 0) (get_or c.count i 0)
    (length_in (get_or tags i 0)) (stored_in (get_or tags i 0))

-- The key at an index is measured: its tag has a length.
unfoldable pub measured_at : List ℕ → ℕ → Bool
measured_at tags i = nonzero (length_in (get_or tags i 0))

-- The record of the block that holds the keys at these indices, named by the first of them, and the records of the keys.
unfoldable pub block_at : List ℕ → List ℕ → ℕ → Columns → List ℕ → List ℕ
block_at keys tags root c run =
    block_record (key_at keys (leader_at root c.leader (get_or run 0 0))) (level_at root c.rank (get_or run 0 0)) (length run)
    ++ flat_map (node_at keys tags c) run

-- The parts of all blocks, for the indices in the image's order: a block is a run of the same weight.
unfoldable pub blocks_at : List ℕ → List ℕ → ℕ → Columns → List ℕ → List ℕ → List ℕ
blocks_at keys tags root c weights sorted = flat_map (block_at keys tags root c) (runs (same_weight weights) sorted)

-- The whole image.
unfoldable pub image_at : ℕ → ℕ → List ℕ → List ℕ → ℕ → Columns → List ℕ → List ℕ → List ℕ
image_at order salt keys tags root c weights sorted =
    salted salt (header_record order (length keys) (length (runs (same_weight weights) sorted)) (key_at keys root))
    ++ blocks_at keys tags root c weights sorted

-- As many tags as keys, and columns with an entry for each key, whose links are positions of keys or zero.
pub record Listed (keys tags : List ℕ) (c : Columns) : Type 0 where
  pub tags_many : length tags ≡ length keys
  pub left_long : length keys ≤ length c.left
  pub right_long : length keys ≤ length c.right
  pub rank_long : length keys ≤ length c.rank
  pub count_long : length keys ≤ length c.count
  pub left_within : (i : ℕ) → i < length keys → get_or c.left i 0 ≤ length keys
  pub right_within : (i : ℕ) → i < length keys → get_or c.right i 0 ≤ length keys
