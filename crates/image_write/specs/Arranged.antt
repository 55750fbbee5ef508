-- What the parts of writing an image hand to each other. Assumes nothing.
use Rattle.std.specs.Prelude.{List, map, ◌≡◌, ℕ, length, take}
use Rattle.priority.specs.Priority.{priority_with}
use Rattle.sorting.specs.ByWeight.{by_weight}
use Rattle.treap.specs.Treap.{top}
use Rattle.treap_columns.specs.declared.Columns.{Columns}
use Rattle.treap_columns.specs.Positions.{positions, weight_at}
use Rattle.table_prepare.specs.Prepared.{Filled}
use Rattle.image_blocks.specs.Naming.{block_weights}

-- What an image is written from, under a salt: the columns of the keys and their root, by position, the weights of the blocks that hold the keys,
-- and the indices of the keys in the image's order.
pub record Arranged (order salt : ℕ) (keys weights sorted : List ℕ) (c : Columns) (root : ℕ) : Type 0 where
  pub root_is : root ≡ top (weight_at (map (priority_with salt) keys)) (positions (length keys))
  pub filled : Filled order (map (priority_with salt) keys) c
  pub weighed : take (length keys) weights ≡ block_weights root c.rank c.leader (length keys)
  pub in_order : take (length keys) sorted ≡ by_weight (block_weights root c.rank c.leader (length keys))
