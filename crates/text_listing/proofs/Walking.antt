-- The lines of records one after the other: a node record's, then those of the records after it; a block's, then those of its keys and
-- of the blocks after it. Assumes nothing.
use mathlib.Core.List.{List, ◌++◌, append_assoc}
use mathlib.Core.Path.{◌≡◌, refl, sym, ap, ap₂, ◌∙◌, subst, subst₂}
use Prim.Native.Nat.{ℕ, suc, ◌+◌, ◌-◌, ◌≤◌, ◌<◌}
use native.Mathlib.Omega.{arith}
use lib.ListN.{length, take, drop, length-drop}
use lib.Seq.{drop-drop}
use Rattle.treap.specs.Image.{count_bytes}
use Rattle.image.specs.Layout.{header_bytes, block_bytes, node_bytes, blocks_at}
use Rattle.image.specs.Image.{header_span, field_at, node_span, nodes_span}
use Rattle.image.proofs.Records.{header_within}
use Rattle.image_collect.proofs.Nodes.{span_least}
use Rattle.image_collect.proofs.Passing.{from_index}
use Rattle.text_listing.specs.declared.line.Line.{Line}
use Rattle.text_listing.specs.Shown.{shown_key, shown_keys, held_in, part_bytes, shown_block_line, shown_block, shown_blocks, shown_header, shown, HasBlocks, HasRecords}
use Rattle.text_listing.specs.Lines.{text_of, record_bytes, header_in, block_in, key_in, shown_left, HasLeft}

-- Of the records the first shows a line; those after it are there, and are what is left.
pub record Turn (keys blocks : ℕ) (bytes : List ℕ) (line : Line) (keys-left blocks-left : ℕ) (rest : List ℕ) : Type 0 where
  pub shows : shown_left keys blocks bytes ≡ text_of line ++ shown_left keys-left blocks-left rest
  pub passes : record_bytes line + length rest ≤ length bytes
  pub shorter : length rest < length bytes
  pub there : HasLeft keys-left blocks-left rest

-- ---- a node record first
module _ (keys blocks : ℕ) (bytes : List ℕ) where
  abbrev after : List ℕ
  after = drop (node_span bytes) bytes

  -- the blocks are after all of them
  blocks_after : drop (nodes_span (suc keys) bytes) bytes ≡ drop (nodes_span keys after) after
  blocks_after = sym (drop-drop (nodes_span keys after) (node_span bytes) bytes)

  key_turn : HasLeft (suc keys) blocks bytes → Turn (suc keys) blocks bytes (key_in bytes) keys blocks after
  unfolding shown_key
  key_turn there =
      record {
        shows =
            append_assoc (shown_key bytes) (shown_keys keys after) (shown_blocks blocks (drop (nodes_span (suc keys) bytes) bytes))
            ∙ ap (λ (rest : List ℕ). shown_key bytes ++ (shown_keys keys after ++ shown_blocks blocks rest)) blocks_after;
        passes = omega (arith, there.0, span_least bytes, length-drop (node_span bytes) bytes);
        shorter = omega (arith, there.0, span_least bytes, length-drop (node_span bytes) bytes);
        there = (omega (arith, there.0, length-drop (node_span bytes) bytes), subst (HasBlocks blocks) blocks_after there.1);
      }

-- ---- a block's record first
module _ (blocks : ℕ) (bytes : List ℕ) (there : HasLeft 0 (suc blocks) bytes) where
  abbrev nodes : List ℕ
  nodes = drop block_bytes bytes

  part_is : part_bytes bytes ≡ block_bytes + nodes_span (held_in bytes) nodes
  unfolding part_bytes
  part_is = refl

  later : drop (part_bytes bytes) bytes ≡ drop (nodes_span (held_in bytes) nodes) nodes
  later = ap (λ (n : ℕ). drop n bytes) part_is ∙ sym (drop-drop (nodes_span (held_in bytes) nodes) block_bytes bytes)

  block_turn : Turn 0 (suc blocks) bytes (block_in bytes) (held_in bytes) blocks nodes
  unfolding shown_block shown_block_line held_in
  block_turn =
      let line = shown_block_line bytes in
      let held = shown_keys (held_in bytes) nodes in
      record {
        shows = append_assoc line held (shown_blocks blocks (drop (part_bytes bytes) bytes)) ∙ ap (λ (rest : List ℕ). line ++ (held ++ shown_blocks blocks rest)) later;
        passes = omega (arith, there.1.0, part_is, length-drop block_bytes bytes);
        shorter = omega (arith, there.1.0, part_is, length-drop block_bytes bytes);
        there = (omega (arith, there.1.0, part_is, length-drop block_bytes bytes), subst (HasBlocks blocks) later there.1.1);
      }

-- ---- what is left is handed on as a part of the bytes
module _ (keys blocks : ℕ) (bytes : List ℕ) (there : HasLeft keys blocks bytes) where
  module _ (turn : 0 < keys) where
    more_keys : keys ≡ suc (keys - 1)
    more_keys = omega arith

    key_there : HasLeft (suc (keys - 1)) blocks bytes
    key_there = subst (λ (n : ℕ). HasLeft n blocks bytes) more_keys there

    pub key_inside : node_bytes ≤ length bytes
    key_inside = omega (arith, key_there.0, span_least bytes)

    pub key_passed : (span : ℕ) → span ≡ node_span bytes → (line : Line) → line ≡ key_in bytes
        → Turn keys blocks bytes line (keys - 1) blocks (take (length bytes - span) (drop span bytes))
    key_passed span e line f =
        subst (λ (shown : Line). Turn keys blocks bytes shown (keys - 1) blocks (take (length bytes - span) (drop span bytes))) (sym f)
        (subst₂ (λ (n : ℕ) (rest : List ℕ). Turn n blocks bytes (key_in bytes) (keys - 1) blocks rest) (sym more_keys)
        (ap (λ (n : ℕ). drop n bytes) (sym e) ∙ sym (from_index span bytes))
        (key_turn (keys - 1) blocks bytes key_there))

  module _ (no_key : keys ≤ 0) (turn : 0 < blocks) where
    no_keys : keys ≡ 0
    no_keys = omega arith

    more_blocks : blocks ≡ suc (blocks - 1)
    more_blocks = omega arith

    block_there : HasLeft 0 (suc (blocks - 1)) bytes
    block_there = subst₂ (λ (n m : ℕ). HasLeft n m bytes) no_keys more_blocks there

    pub block_inside : block_bytes ≤ length bytes
    block_inside = omega (arith, block_there.1.0, part_is (blocks - 1) bytes block_there)

    pub block_passed : (held : ℕ) → held ≡ held_in bytes → (line : Line) → line ≡ block_in bytes
        → Turn keys blocks bytes line held (blocks - 1) (take (length bytes - block_bytes) (drop block_bytes bytes))
    block_passed held e line f =
        let rest = take (length bytes - block_bytes) (drop block_bytes bytes) in
        subst (λ (shown : Line). Turn keys blocks bytes shown held (blocks - 1) rest) (sym f)
        (subst₂ (λ (n m : ℕ). Turn n m bytes (block_in bytes) held (blocks - 1) rest) (sym no_keys) (sym more_blocks)
        (subst₂ (λ (n : ℕ) (later : List ℕ). Turn 0 (suc (blocks - 1)) bytes (block_in bytes) n (blocks - 1) later) (sym e) (sym (from_index block_bytes bytes))
        (block_turn (blocks - 1) bytes block_there)))

-- ---- what is left after the header
module _ (image bytes : List ℕ) (e : bytes ≡ drop (header_span image) image) where
  pub header_shows : (blocks : ℕ) → blocks ≡ field_at blocks_at count_bytes image → shown image ≡ text_of (header_in image) ++ shown_left 0 blocks bytes
  unfolding shown shown_header
  header_shows blocks f = ap₂ (λ (n : ℕ) (rest : List ℕ). shown_header image ++ shown_blocks n rest) (sym f) (sym e)

  module _ (right : HasRecords image) where
    pub header_there : (blocks : ℕ) → blocks ≡ field_at blocks_at count_bytes image → HasLeft 0 blocks bytes
    header_there blocks f = (omega arith, subst₂ HasBlocks (sym f) (sym e) right.blocks)

    pub header_passed : header_bytes + length bytes ≤ length image
    header_passed = omega (arith, ap length e, length-drop (header_span image) image, header_within image, right.whole)
