-- The image of what a table holds, the contents that bytes show, and which bytes are an image. Assumes nothing.
use Rattle.std.specs.Prelude.{Bool, cond, ◌&&◌, List, [], ◌∷◌, ◌++◌, ℕ, zero, suc, ◌+◌, ◌*◌, eqb, leb, length, take, drop}
use Rattle.lists.specs.Lists.{same, rises_b, every, keep, nonzero, sort_by}
use Rattle.measure.specs.Measure.{unmeasured, measure_from}
use Rattle.treap.specs.Image.{image, little_endian, order_bytes, count_bytes, key_bytes, length_bytes, correction_bytes, header_mark, measured_mark}
use Rattle.table.specs.Layout.{most_slots}
use Rattle.table.specs.Contents.{Entry, Contents, keys_in, priority_in, measure_in, key_below, table_order, right_measure}
use Rattle.image.specs.Layout.{header_bytes, salt_bytes, block_bytes, node_bytes, measure_bytes, order_at, blocks_at, salt_at, held_at, key_at, length_at, correction_at}

-- The mark `LS`.
abbrev pub salted_mark : List ℕ
salted_mark = 76 ∷ 83 ∷ []

-- "An image with salt other than zero opens with `LS` in place of `LH`, the salt's eight bytes after the root key; salt zero keeps `LH`" (02,
-- N9). The root key is the header's last field.
unfoldable pub salted : ℕ → List ℕ → List ℕ
salted salt bytes =
    cond (eqb salt 0) bytes
    (salted_mark ++ drop (length header_mark) (take header_bytes bytes) ++ little_endian salt_bytes salt ++ drop header_bytes bytes)

-- "A table's image": the bytes for its order, its salt and its set, with measures.
unfoldable pub image_of : Contents → List ℕ
image_of c = salted c.salt (image c.order (priority_in c) (measure_in c.entries) (keys_in c))

-- How many of the keys are measured.
unfoldable pub measured_in : Contents → ℕ
measured_in c = length (keep (λ e. nonzero e.measure.length) c.entries)

-- The number whose little-endian bytes these are.
abbrev pub number_of : List ℕ → ℕ
number_of [] = 0
number_of (b ∷ bs) = b + 256 * number_of bs

-- The field of so many bytes from an index on.
unfoldable pub field_at : ℕ → ℕ → List ℕ → ℕ
field_at at width bytes = number_of (take width (drop at bytes))

-- Whether the header at the start of the bytes has a salt: its mark is `LS`.
unfoldable pub is_salted : List ℕ → Bool
is_salted bytes = same (take 2 bytes) salted_mark

-- How many bytes that header has, and the salt that it shows.
unfoldable pub header_span : List ℕ → ℕ
header_span bytes = cond (is_salted bytes) (header_bytes + salt_bytes) header_bytes

unfoldable pub salt_shown : List ℕ → ℕ
salt_shown bytes = cond (is_salted bytes) (field_at salt_at salt_bytes bytes) 0

-- Whether the node record at the start of the bytes is a measured key's: its mark is `LM`.
unfoldable pub is_measured : List ℕ → Bool
is_measured bytes = same (take 2 bytes) measured_mark

-- How many bytes that record has.
unfoldable pub node_span : List ℕ → ℕ
node_span bytes = cond (is_measured bytes) (node_bytes + measure_bytes) node_bytes

-- The key and the measure that it shows.
unfoldable pub entry_shown : List ℕ → Entry
entry_shown bytes =
    record {
      key = field_at key_at key_bytes bytes;
      measure =
          cond (is_measured bytes) (measure_from (field_at length_at length_bytes bytes) (field_at correction_at correction_bytes bytes)) unmeasured;
    }

-- The entries of so many node records, and how many bytes these have.
abbrev pub node_entries : ℕ → List ℕ → List Entry
node_entries zero bytes = []
node_entries (suc many) bytes = entry_shown bytes ∷ node_entries many (drop (node_span bytes) bytes)

abbrev pub nodes_span : ℕ → List ℕ → ℕ
nodes_span zero bytes = 0
nodes_span (suc many) bytes = node_span bytes + nodes_span many (drop (node_span bytes) bytes)

-- The entries of the blocks from here on, of so many blocks: a block's record says how many node records follow it.
abbrev pub block_entries : ℕ → List ℕ → List Entry
block_entries zero bytes = []
block_entries (suc many) bytes =
    let held = field_at held_at count_bytes bytes in
    let nodes = drop block_bytes bytes in
    node_entries held nodes ++ block_entries many (drop (nodes_span held nodes) nodes)

-- The order, the salt and the set that bytes show: the header's order, its salt, and the entries of the node records, sorted by key.
unfoldable pub read_image : List ℕ → Contents
read_image bytes =
    record {
      order = field_at order_at order_bytes bytes;
      salt = salt_shown bytes;
      entries = sort_by key_below (block_entries (field_at blocks_at count_bytes bytes) (drop (header_span bytes) bytes));
    }

-- "6. The image is not one that the writer makes for any order and any set of at most 4,096 keys"; "image reading gives 6 for" a measure
-- outside the rules (02, N4), and "`LS` with zero gives 6" (02, N9): the bytes are exactly the image of what they show, which is an order that
-- a table may have, a salt, and a set of at most so many keys with measures.
unfoldable pub is_image : List ℕ → Bool
is_image bytes =
    table_order (read_image bytes).order
    && (rises_b (keys_in (read_image bytes))
    && (every nonzero (keys_in (read_image bytes))
    && (leb (length (keys_in (read_image bytes))) most_slots
    && (every right_measure (read_image bytes).entries && same bytes (image_of (read_image bytes))))))
