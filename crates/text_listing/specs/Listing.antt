-- The text that lists an image (document 01, "The listing program"), over any order `α`, priority function `p` and rising keys `ks`.
-- Assumes nothing.
use mathlib.Core.List.{List, ◌++◌, flat_map}
use Rattle.std.specs.Prelude.{ℕ, length}
use Rattle.treap.specs.Treap.{top}
use Rattle.treap.specs.Levels.{rank, count}
use Rattle.treap.specs.Blocks.{Block, blocks, fill}
use Rattle.table.specs.Contents.{Contents, keys_in, priority_in}
use Rattle.text_lines.specs.Lines.{header_line, block_line, key_line}

module _ (α : ℕ) (p : ℕ → ℕ) (ks : List ℕ) where
  -- The line of a key.
  unfoldable pub key_line_of : ℕ → List ℕ
  key_line_of k = key_line k (rank α p ks k) (count α p ks k)

  -- A block's line, then those of its keys.
  unfoldable pub block_lines : Block → List ℕ
  block_lines b = block_line b.leader_key b.level (length b.held) ++ flat_map key_line_of b.held

  -- "There is one line for the header, each block and each key, in image order".
  unfoldable pub listing : List ℕ
  listing =
      let b = length (blocks α p ks) in
      header_line α (length ks) b (fill α (length ks) b) (top p ks) ++ flat_map block_lines (blocks α p ks)

-- The listing of an order, a salt and a set: "the listing shows no salt" (02, N9).
unfoldable pub listing_of : Contents → List ℕ
listing_of c = listing c.order (priority_in c) (keys_in c)
