-- The lines of a listing, and the records that show them one after the other. Assumes nothing.
use Rattle.std.specs.Prelude.{Option, MatchOption, List, [], ◌++◌, ◌≡◌, ℕ, ◌+◌, ◌≤◌, length, drop}
use Rattle.treap.specs.Image.{order_bytes, count_bytes, key_bytes}
use Rattle.treap.specs.Blocks.{fill}
use Rattle.image.specs.Layout.{header_bytes, block_bytes, node_bytes, order_at, size_at, blocks_at, root_at, leader_at, level_at, held_at, key_at, rank_at, count_at}
use Rattle.image.specs.Image.{field_at, nodes_span}
use Rattle.text_lines.specs.Lines.{header_line, block_line, key_line}
use Rattle.text_listing.specs.declared.line.Line.{Line}
use Rattle.text_listing.specs.declared.line.Line.TheVariants.{Header, Block, Key}
use Rattle.text_listing.specs.declared.records.Records.{Records}
use Rattle.text_listing.specs.Shown.{shown_keys, shown_blocks, HasBlocks}

-- The text of a line.
abbrev pub text_of : Line → List ℕ
text_of (Header order keys blocks filled root) = header_line order keys blocks filled root
text_of (Block leader level keys) = block_line leader level keys
text_of (Key key rank count) = key_line key rank count

-- How many bytes the record has at least that shows a line.
abbrev pub record_bytes : Line → ℕ
record_bytes (Header order keys blocks filled root) = header_bytes
record_bytes (Block leader level keys) = block_bytes
record_bytes (Key key rank count) = node_bytes

-- What the header at the start of the bytes shows.
abbrev pub header_in : List ℕ → Line
header_in bytes =
    let order = field_at order_at order_bytes bytes in
    let keys = field_at size_at count_bytes bytes in
    let blocks = field_at blocks_at count_bytes bytes in
    Header order keys blocks (fill order keys blocks) (field_at root_at key_bytes bytes)

-- What a block's record there shows.
abbrev pub block_in : List ℕ → Line
block_in bytes = Block (field_at leader_at key_bytes bytes) (field_at level_at count_bytes bytes) (field_at held_at count_bytes bytes)

-- What a node record there shows.
abbrev pub key_in : List ℕ → Line
key_in bytes = Key (field_at key_at key_bytes bytes) (field_at rank_at count_bytes bytes) (field_at count_at count_bytes bytes)

-- The lines of so many node records, and of so many blocks after them.
abbrev pub shown_left : ℕ → ℕ → List ℕ → List ℕ
shown_left keys blocks bytes = shown_keys keys bytes ++ shown_blocks blocks (drop (nodes_span keys bytes) bytes)

-- The bytes have those records.
abbrev pub HasLeft : ℕ → ℕ → List ℕ → Type 0
HasLeft keys blocks bytes = (nodes_span keys bytes ≤ length bytes) × HasBlocks blocks (drop (nodes_span keys bytes) bytes)

-- The lines of the records that are left, and that they are there.
abbrev pub lines_left : Records → List ℕ
lines_left left = shown_left left.keys left.blocks left.bytes.now

abbrev pub AreThere : Records → Type 0
AreThere left = HasLeft left.keys left.blocks left.bytes.now

-- The first of those lines is this one, and its record is passed.
pub record FirstLine (before : Records) (line : Line) (after : Records) : Type 0 where
  pub shows : lines_left before ≡ text_of line ++ lines_left after
  pub passes : record_bytes line + length after.bytes.now ≤ length before.bytes.now

-- A line and what is left after it, or none where none is left.
abbrev pub NextLine : Records → Option Line → Records → Type 0
NextLine before next after = MatchOption next (lines_left before ≡ []) (λ line. FirstLine before line after)
