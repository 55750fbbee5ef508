-- The lines that the records of an image show, read from its bytes. Assumes nothing.
use Rattle.std.specs.Prelude.{List, [], ◌++◌, ℕ, zero, suc, min, ◌+◌, ◌≤◌, ◌<◌, length, drop}
use Rattle.treap.specs.Image.{order_bytes, count_bytes, key_bytes}
use Rattle.treap.specs.Blocks.{fill}
use Rattle.image.specs.Layout.{header_bytes, block_bytes, order_at, size_at, blocks_at, root_at, leader_at, level_at, held_at, key_at, rank_at, count_at}
use Rattle.image.specs.Image.{header_span, field_at, node_span, nodes_span}
use Rattle.text_lines.specs.Lines.{header_line, block_line, key_line}

-- The line of the node record at the start of the bytes.
unfoldable pub shown_key : List ℕ → List ℕ
shown_key bytes = key_line (field_at key_at key_bytes bytes) (field_at rank_at count_bytes bytes) (field_at count_at count_bytes bytes)

-- The lines of so many node records: a measured key's is the same as an unmeasured one's.
abbrev pub shown_keys : ℕ → List ℕ → List ℕ
shown_keys zero bytes = []
shown_keys (suc many) bytes = shown_key bytes ++ shown_keys many (drop (node_span bytes) bytes)

-- The number of keys in the block whose record is at the start of the bytes.
unfoldable pub held_in : List ℕ → ℕ
held_in bytes = field_at held_at count_bytes bytes

-- The bytes of that record and of the node records after it.
unfoldable pub part_bytes : List ℕ → ℕ
part_bytes bytes = block_bytes + nodes_span (held_in bytes) (drop block_bytes bytes)

-- The line of that record.
unfoldable pub shown_block_line : List ℕ → List ℕ
shown_block_line bytes = block_line (field_at leader_at key_bytes bytes) (field_at level_at count_bytes bytes) (held_in bytes)

-- The lines of a block and of its keys.
unfoldable pub shown_block : List ℕ → List ℕ
shown_block bytes = shown_block_line bytes ++ shown_keys (held_in bytes) (drop block_bytes bytes)

-- The lines of so many blocks.
abbrev pub shown_blocks : ℕ → List ℕ → List ℕ
shown_blocks zero bytes = []
shown_blocks (suc many) bytes = shown_block bytes ++ shown_blocks many (drop (part_bytes bytes) bytes)

-- The line of the header.
unfoldable pub shown_header : List ℕ → List ℕ
shown_header bytes =
    let order = field_at order_at order_bytes bytes in
    let keys = field_at size_at count_bytes bytes in
    let blocks = field_at blocks_at count_bytes bytes in
    header_line order keys blocks (fill order keys blocks) (field_at root_at key_bytes bytes)

-- All lines.
unfoldable pub shown : List ℕ → List ℕ
shown bytes = shown_header bytes ++ shown_blocks (field_at blocks_at count_bytes bytes) (drop (header_span bytes) bytes)

-- The bytes have the records of so many blocks.
abbrev pub HasBlocks : ℕ → List ℕ → Type 0
HasBlocks zero bytes = Unit {0}
HasBlocks (suc many) bytes = (part_bytes bytes ≤ length bytes) × HasBlocks many (drop (part_bytes bytes) bytes)

-- The bytes have a header, whose numbers are as they may be, and the records of as many blocks as it says.
pub record HasRecords (bytes : List ℕ) : Type 0 where
  pub header : header_bytes ≤ length bytes
  pub whole : header_span bytes ≤ length bytes
  pub order_least : 1 ≤ field_at order_at order_bytes bytes
  pub order_most : field_at order_at order_bytes bytes < 256
  pub keys_most : field_at size_at count_bytes bytes < 65536
  pub blocks_most : field_at blocks_at count_bytes bytes < 65536
  pub blocks_least : min 1 (field_at size_at count_bytes bytes) ≤ field_at blocks_at count_bytes bytes
  pub blocks : HasBlocks (field_at blocks_at count_bytes bytes) (drop (header_span bytes) bytes)

-- No line is longer than so many times the record that it shows.
abbrev pub most_growth : ℕ
most_growth = 10
