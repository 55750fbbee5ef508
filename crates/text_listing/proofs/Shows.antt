-- The records of an image show its listing. Assumes valid contents; of blocks, where any are read, that their numbers fit their
-- fields.
use mathlib.Core.Bool.{true}
use mathlib.Core.List.{List, [], ◌∷◌, ◌++◌, flat_map, append_assoc}
use mathlib.Core.Path.{◌≡◌, refl, sym, ap, ap₂, ◌∙◌, subst, subst₂}
use Prim.Native.Nat.{ℕ, suc, min, ◌+◌, ◌≤◌}
use native.Mathlib.Omega.{arith}
use lib.Dec.{ltb}
use lib.ListN.{length, get_or, drop, length-append}
use mir.Syntax.{w8}
use mir.Val.{Fits}
use lib.Seq.{drop_at}
use borrow.Author.Tests.{ltb-false}
use Rattle.lists.specs.Lists.{All, member}
use Rattle.lists.proofs.Tests.{by_test}
use Rattle.lists.proofs.Keep.{all_map, all_both, all_of_indices}
use Rattle.lists.proofs.Membership.{all_member}
use Rattle.measure.specs.Measure.{stored_correction}
use Rattle.treap.specs.Treap.{top, left_link, right_link}
use Rattle.treap.specs.Levels.{rank, count}
use Rattle.treap.specs.Blocks.{Block, blocks, fill}
use Rattle.treap.specs.Image.{count_bytes, key_bytes, block_record, node_record, node_of, block_part}
use Rattle.treap_structure.proofs.Blocks.{Holds, blocks_hold}
use Rattle.table.specs.Layout.{most_slots}
use Rattle.table.specs.Contents.{Contents, Valid, keys_in, priority_in, measure_in}
use Rattle.table.proofs.Orders.{order_within, order_wide}
use Rattle.image.specs.Layout.{block_bytes, blocks_at, size_at, root_at, held_at, most_bytes, IsByte}
use Rattle.image.specs.Image.{image_of, read_image, is_image, header_span, field_at, nodes_span}
use Rattle.image.proofs.Judging.{is_image_says}
use Rattle.image.proofs.Records.{header_within, block_held, block_dropped, node_key}
use Rattle.image.proofs.Lengths.{block_part-length, image_is, image_longest}
use Rattle.image.proofs.Reading.{node_of_left, nodes_first, nodes_span_lem, order_read, number_read, header_inside, parts_read}
use Rattle.image.proofs.Fits.{HeaderFits, BlockFits, NodeFits, header_fits, blocks_fit_fields, nodes_fit_fields}
use Rattle.text.proofs.Pieces.{front_fits}
use Rattle.text_listing.specs.Listing.{key_line_of, block_lines, listing, listing_of}
use Rattle.text_listing.specs.Shown.{shown_key, shown_keys, held_in, part_bytes, shown_block_line, shown_block, shown_blocks, shown_header, shown, HasBlocks, HasRecords}
use Rattle.text_listing.specs.Lines.{text_of, header_in}
use Rattle.text_listing.proofs.RecordFields.{header_size, header_root, block_leader_lem, block_level_lem, node_rank, node_count, key_line_shown, block_line_shown, header_line_shown}

-- A block whose records show its lines.
pub record Listable (c : Contents) (b : Block) : Type 0 where
  pub block : BlockFits b
  pub nodes : All (NodeFits c) b.held

module _ (c : Contents) where
  abbrev node : ℕ → List ℕ
  node = node_of c.order (priority_in c) (measure_in c.entries) (keys_in c)

  abbrev part : Block → List ℕ
  part = block_part c.order (priority_in c) (measure_in c.entries) (keys_in c)

  abbrev line : ℕ → List ℕ
  line = key_line_of c.order (priority_in c) (keys_in c)

  abbrev lines : Block → List ℕ
  lines = block_lines c.order (priority_in c) (keys_in c)

  -- ---- the keys, whatever follows them
  key_shown : (k : ℕ) (rest : List ℕ) → NodeFits c k → shown_key (node k ++ rest) ≡ line k
  unfolding node_of key_line_of
  key_shown k rest fits =
      let left = left_link (priority_in c) (keys_in c) k in
      let right = right_link (priority_in c) (keys_in c) k in
      let r = rank c.order (priority_in c) (keys_in c) k in
      let n = count c.order (priority_in c) (keys_in c) k in
      let long = (measure_in c.entries k).length in
      let stored = stored_correction (measure_in c.entries k) in
      sym
      (key_line_shown (node_record k left right r n long stored ++ rest) k r n (sym (node_key k left right r n long stored rest fits.key)) (sym (node_rank k left right r n long stored rest fits.rank_of))
      (sym (node_count k left right r n long stored rest fits.count_of)))

  keys_shown : (xs rest : List ℕ) → All (NodeFits c) xs → shown_keys (length xs) (flat_map node xs ++ rest) ≡ flat_map line xs
  unfolding flat_map
  keys_shown [] rest h = refl
  keys_shown (x ∷ xs) rest h =
      let later = flat_map node xs ++ rest in
      ap (shown_keys (suc (length xs))) (nodes_first c.order (priority_in c) (measure_in c.entries) (keys_in c) x xs rest)
      ∙ ap₂ (λ (text bytes : List ℕ). text ++ shown_keys (length xs) bytes) (key_shown x later h.0) (node_of_left c.order (priority_in c) (measure_in c.entries) (keys_in c) x later)
      ∙ ap (λ (text : List ℕ). line x ++ text) (keys_shown xs rest h.1)

  -- ---- the blocks, whatever follows them
  module _ (b : Block) (fits : Listable c b) (rest : List ℕ) where
    abbrev nodes : List ℕ
    nodes = flat_map node b.held ++ rest

    record_first : part b ++ rest ≡ block_record b.leader_key b.level (length b.held) ++ nodes
    unfolding block_part
    record_first = append_assoc (block_record b.leader_key b.level (length b.held)) (flat_map node b.held) rest

    held_shown : held_in (part b ++ rest) ≡ length b.held
    unfolding held_in
    held_shown = ap (field_at held_at count_bytes) record_first ∙ block_held b.leader_key b.level (length b.held) nodes fits.block.size

    nodes_shown : drop block_bytes (part b ++ rest) ≡ nodes
    nodes_shown = ap (drop block_bytes) record_first ∙ block_dropped b.leader_key b.level (length b.held) nodes

    block_shown : shown_block (part b ++ rest) ≡ lines b
    unfolding shown_block held_in block_lines
    block_shown =
        let n = length b.held in
        ap₂ (λ (xs ys : List ℕ). xs ++ ys)
        (ap shown_block_line record_first
        ∙ sym
        (block_line_shown (block_record b.leader_key b.level n ++ nodes) b.leader_key b.level n (sym (block_leader_lem b.leader_key b.level n nodes fits.block.leader))
        (sym (block_level_lem b.leader_key b.level n nodes fits.block.level)) (sym (block_held b.leader_key b.level n nodes fits.block.size))))
        (ap₂ shown_keys held_shown nodes_shown ∙ keys_shown b.held rest fits.nodes)

    -- a block's records are as long as its record and theirs say
    part_size : length (part b) ≡ part_bytes (part b ++ rest)
    unfolding part_bytes
    part_size =
        block_part-length c.order (priority_in c) (measure_in c.entries) (keys_in c) b
        ∙ ap (λ (n : ℕ). block_bytes + n)
        (sym
        (ap₂ nodes_span held_shown nodes_shown
        ∙ nodes_span_lem c.order (priority_in c) (measure_in c.entries) (keys_in c) b.held rest))

  blocks_shown : (bs : List Block) → All (Listable c) bs → shown_blocks (length bs) (flat_map part bs) ≡ flat_map lines bs
  unfolding flat_map
  blocks_shown [] h = refl
  blocks_shown (b ∷ bs) h =
      let rest = flat_map part bs in
      ap₂ (λ (text later : List ℕ). text ++ shown_blocks (length bs) later) (block_shown b h.0 rest)
      (drop_at (part b) rest (part_bytes (part b ++ rest)) (part_size b h.0 rest))
      ∙ ap (λ (text : List ℕ). lines b ++ text) (blocks_shown bs h.1)

  blocks_there : (bs : List Block) → All (Listable c) bs → HasBlocks (length bs) (flat_map part bs)
  unfolding flat_map
  blocks_there [] h = tt
  blocks_there (b ∷ bs) h =
      let rest = flat_map part bs in
      let long = part_size b h.0 rest in (
        omega (arith, long, length-append (part b) rest),
        subst (HasBlocks (length bs)) (sym (drop_at (part b) rest (part_bytes (part b ++ rest)) long)) (blocks_there bs h.1),
      )

-- ---- an image
module _ (c : Contents) (valid : Valid most_slots c) where
  wide : 2 ≤ c.order
  wide = order_wide c.order valid.order_right

  abbrev all_blocks : List Block
  all_blocks = blocks c.order (priority_in c) (keys_in c)

  abbrev records : List ℕ
  records = flat_map (block_part c.order (priority_in c) (measure_in c.entries) (keys_in c)) all_blocks

  listable : All (Listable c) all_blocks
  listable =
      all_map (λ b. BlockFits b × Holds c.order (priority_in c) (keys_in c) wide valid.keys_rise b) (Listable c)
      (λ b h.
      record {
        block = h.0;
        nodes = all_map (λ k. member k (keys_in c) ≡ true) (NodeFits c) (λ k m. all_member (NodeFits c) (keys_in c) k (nodes_fit_fields c valid) m) b.held h.1.keys_of;
      })
      all_blocks
      (all_both BlockFits (Holds c.order (priority_in c) (keys_in c) wide valid.keys_rise) all_blocks (blocks_fit_fields c valid) (blocks_hold c.order (priority_in c) (keys_in c) wide valid.keys_rise))

  -- the header's number of keys and its root
  module _ (fits : HeaderFits c) where
    size_read : field_at size_at count_bytes (image_of c) ≡ length (keys_in c)
    size_read = ap (field_at size_at count_bytes) (image_is c) ∙ header_size c.salt c.order (length (keys_in c)) (length all_blocks) (top (priority_in c) (keys_in c)) records fits.size

    root_read : field_at root_at key_bytes (image_of c) ≡ top (priority_in c) (keys_in c)
    root_read = ap (field_at root_at key_bytes) (image_is c) ∙ header_root c.salt c.order (length (keys_in c)) (length all_blocks) (top (priority_in c) (keys_in c)) records fits.root

  some_block : min 1 (length (keys_in c)) ≤ length all_blocks
  unfolding blocks
  some_block = by_test (ltb 0 (length (keys_in c))) (λ e. rw e (omega arith)) (λ e. let none = ltb-false 0 (length (keys_in c)) e in rw e (omega arith))

  -- its records show its listing
  pub image_shows : shown (image_of c) ≡ listing_of c
  unfolding shown listing_of listing
  image_shows =
      let fits = header_fits c valid in
      ap₂ (λ (xs ys : List ℕ). xs ++ ys)
      (sym
      (header_line_shown (image_of c) c.order (length (keys_in c)) (length all_blocks) (fill c.order (length (keys_in c)) (length all_blocks)) (top (priority_in c) (keys_in c)) (sym (order_read c valid)) (sym (size_read fits))
      (sym (number_read c valid)) refl (sym (root_read fits))))
      (ap₂ shown_blocks (number_read c valid) (parts_read c valid) ∙ blocks_shown c all_blocks listable)

  pub image_has_records : HasRecords (image_of c)
  image_has_records =
      let fits = header_fits c valid in
      record {
        header = omega (arith, header_inside c valid, header_within (image_of c));
        whole = header_inside c valid;
        order_least = omega (arith, order_read c valid, order_within c.order valid.order_right);
        order_most = omega (arith, order_read c valid, fits.order);
        keys_most = omega (arith, size_read fits, fits.size);
        blocks_most = omega (arith, number_read c valid, fits.number);
        blocks_least = omega (arith, size_read fits, number_read c valid, some_block);
        blocks = subst₂ HasBlocks (sym (number_read c valid)) (sym (parts_read c valid)) (blocks_there c all_blocks listable);
      }

-- ---- lent bytes that are an image
module _ (bytes : List ℕ) (lent : (i : ℕ) → Fits w8 (get_or bytes i 0)) (passed : is_image bytes ≡ true) where
  are-bytes : All IsByte bytes
  are-bytes = all_of_indices IsByte bytes 0 (λ i h. omega (arith, lent i))

  abbrev contents : Contents
  contents = read_image bytes

  says : Valid most_slots contents × (bytes ≡ image_of contents)
  says = is_image_says bytes passed are-bytes

  pub bytes_have_records : HasRecords bytes
  bytes_have_records = subst HasRecords (sym says.1) (image_has_records contents says.0)

  pub bytes_show : shown bytes ≡ listing_of (read_image bytes)
  bytes_show = ap shown says.1 ∙ image_shows contents says.0

  -- there is room for the lines where there is for the listing
  pub bytes_fit : (room : ℕ) → length (listing_of (read_image bytes)) ≤ room → 0 + length (shown bytes) ≤ room
  bytes_fit room h = omega (arith, ap length bytes_show, h)

  pub listing_header_fits : (room : ℕ) → length (listing_of (read_image bytes)) ≤ room → 0 + length (text_of (header_in bytes)) ≤ room
  unfolding shown shown_header
  listing_header_fits room h = front_fits 0 (shown_header bytes) (shown_blocks (field_at blocks_at count_bytes bytes) (drop (header_span bytes) bytes)) room (bytes_fit room h)

  pub bytes_most : length bytes ≤ most_bytes
  bytes_most = omega (arith, ap length says.1, image_longest contents says.0)
