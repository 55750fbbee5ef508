-- The image of an order and a set of keys (document 01, "Image") with their measures (document 02, N4): its bytes, over any order `α`,
-- priority function `p`, measures `m` and rising keys `ks`. Assumes nothing.
use Rattle.std.specs.Prelude.{cond, ℕ, zero, suc, ◌/◌, ◌%◌, eqb, length}
use mathlib.Core.List.{List, [], ◌∷◌, ◌++◌, flat_map}
use Rattle.measure.specs.Measure.{Measure, stored_correction}
use Rattle.treap.specs.Treap.{top, left_link, right_link}
use Rattle.treap.specs.Levels.{rank, count}
use Rattle.treap.specs.Blocks.{Block, blocks}

-- "numbers are little-endian": a number in so many bytes, the lowest first.
abbrev pub little_endian : ℕ → ℕ → List ℕ
little_endian zero n = []
little_endian (suc width) n = n % 256 ∷ little_endian width (n / 256)

-- How many bytes a field takes: "order (1 byte)"; counts, levels and ranks (2); keys (8); "length (4 bytes) and stored correction (2)".
abbrev pub order_bytes : ℕ
order_bytes = 1

abbrev pub count_bytes : ℕ
count_bytes = 2

abbrev pub key_bytes : ℕ
key_bytes = 8

abbrev pub length_bytes : ℕ
length_bytes = 4

abbrev pub correction_bytes : ℕ
correction_bytes = 2

-- "Each record has a two-byte mark": `LH`, `LB`, `LN` and `LM`.
abbrev pub header_mark : List ℕ
header_mark = 76 ∷ 72 ∷ []

abbrev pub block_mark : List ℕ
block_mark = 76 ∷ 66 ∷ []

abbrev pub node_mark : List ℕ
node_mark = 76 ∷ 78 ∷ []

abbrev pub measured_mark : List ℕ
measured_mark = 76 ∷ 77 ∷ []

-- "`LH`: order (1 byte), n (2), blocks (2), root key (8)."
unfoldable pub header_record : ℕ → ℕ → ℕ → ℕ → List ℕ
header_record order n b root =
    header_mark ++ little_endian order_bytes order ++ little_endian count_bytes n ++ little_endian count_bytes b ++ little_endian key_bytes root

-- "`LB`: block's leader key (8), level (2), keys in it (2)."
unfoldable pub block_record : ℕ → ℕ → ℕ → List ℕ
block_record leader level n = block_mark ++ little_endian key_bytes leader ++ little_endian count_bytes level ++ little_endian count_bytes n

-- "`LN`: key (8), left (8), right (8), rank (2), count (2)": the fields.
unfoldable pub node_fields : ℕ → ℕ → ℕ → ℕ → ℕ → List ℕ
node_fields key left right rank count =
    little_endian key_bytes key ++ little_endian key_bytes left ++ little_endian key_bytes right ++ little_endian count_bytes rank
    ++ little_endian count_bytes count

-- "A measured key is written under `LM`, the `LN` fields and then length (4 bytes) and stored correction (2) ..; an unmeasured one stays
-- `LN`."
unfoldable pub node_record : ℕ → ℕ → ℕ → ℕ → ℕ → ℕ → ℕ → List ℕ
node_record key left right rank count long stored =
    cond (eqb long 0) (node_mark ++ node_fields key left right rank count)
    (measured_mark ++ node_fields key left right rank count ++ little_endian length_bytes long ++ little_endian correction_bytes stored)

module _ (α : ℕ) (p : ℕ → ℕ) (m : ℕ → Measure) (ks : List ℕ) where
  -- The record of a key.
  unfoldable pub node_of : ℕ → List ℕ
  node_of k = node_record k (left_link p ks k) (right_link p ks k) (rank α p ks k) (count α p ks k) (m k).length (stored_correction (m k))

  -- A block's record; "after each block its keys, rising".
  unfoldable pub block_part : Block → List ℕ
  block_part b = block_record b.leader_key b.level (length b.held) ++ flat_map node_of b.held

  -- "One header, then blocks by falling level, then rising leader".
  unfoldable pub image : List ℕ
  image = header_record α (length ks) (length (blocks α p ks)) (top p ks) ++ flat_map block_part (blocks α p ks)
