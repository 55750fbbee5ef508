-- What walking the records of an image finds: whether they can be read, and their entries. Assumes nothing.
use Rattle.std.specs.Prelude.{Bool, true, cond, ◌&&◌, Option, Some, None, List, ℕ, zero, suc, ◌+◌, ◌*◌, ◌≤◌, leb, length, take, drop}
use Rattle.lists.specs.Lists.{same}
use Rattle.measure.specs.Tag.{is_stored}
use Rattle.treap.specs.Image.{count_bytes, length_bytes, correction_bytes, node_mark}
use Rattle.table.specs.Layout.{most_slots}
use Rattle.table.specs.Contents.{Entry}
use Rattle.image.specs.Layout.{header_bytes, block_bytes, node_bytes, blocks_at, held_at, length_at, correction_at}
use Rattle.image.specs.Image.{header_span, field_at, is_measured, node_span, nodes_span, block_entries}

-- The bytes begin with a node record: it lies within them, and its mark is `LN`, or `LM` where it has the length and the stored correction
-- of a measure within the rules.
unfoldable pub is_node : List ℕ → Bool
is_node bytes =
    leb (node_span bytes) (length bytes)
    && cond (is_measured bytes) (is_stored (field_at length_at length_bytes bytes) (field_at correction_at correction_bytes bytes)) (same (take 2 bytes) node_mark)

-- They begin with so many node records, one after the other.
abbrev pub are_nodes : ℕ → List ℕ → Bool
are_nodes zero bytes = true
are_nodes (suc many) bytes = is_node bytes && are_nodes many (drop (node_span bytes) bytes)

-- What checking so many node records finds: where they end.
unfoldable pub checked : ℕ → List ℕ → Option ℕ
checked many bytes = cond (are_nodes many bytes) (Some (nodes_span many bytes)) None

-- They begin with the records of so many blocks: each block's record lies within them, and as many node records follow it as it says.
abbrev pub intact : ℕ → List ℕ → Bool
intact zero bytes = true
intact (suc many) bytes =
    let held = field_at held_at count_bytes bytes in
    let nodes = drop block_bytes bytes in
    leb block_bytes (length bytes) && (are_nodes held nodes && intact many (drop (nodes_span held nodes) nodes))

-- How many blocks the header says.
unfoldable pub blocks_of : List ℕ → ℕ
blocks_of bytes = field_at blocks_at count_bytes bytes

-- The entries of all node records, in the order of the image.
unfoldable pub entries_of : List ℕ → List Entry
entries_of bytes = block_entries (blocks_of bytes) (drop (header_span bytes) bytes)

-- The records can be read, and there is room for their keys.
unfoldable pub readable : ℕ → List ℕ → Bool
readable room bytes =
    leb (header_span bytes) (length bytes) && (intact (blocks_of bytes) (drop (header_span bytes) bytes) && leb (length (entries_of bytes)) room)

-- What collecting the keys and their tags finds.
unfoldable pub collected : ℕ → List ℕ → Option ℕ
collected room bytes = cond (readable room bytes) (Some (length (entries_of bytes))) None

-- There is room for the keys of every image of so many bytes: it has at most so many as its node records have room, and at most 4,096.
abbrev pub RoomFor : ℕ → ℕ → Type 0
RoomFor bytes room = (n : ℕ) → n ≤ most_slots → header_bytes + node_bytes * n ≤ bytes → n ≤ room
