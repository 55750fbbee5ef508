-- The records of an image can be read. Assumes nothing but that the contents are ones that a table may hold.
use mathlib.Core.Bool.{true, false, ◌&&◌, not}
use mathlib.Core.List.{List, [], ◌∷◌, ◌++◌, flat_map}
use mathlib.Core.Path.{◌≡◌, refl, sym, ap, ap₂, ◌∙◌, subst}
use Prim.Native.Nat.{ℕ, zero, suc, ◌+◌, ◌*◌, ◌≤◌}
use native.Mathlib.Omega.{arith}
use lib.Dec.{eqb, leb}
use lib.ListN.{length, take, drop, length-append, length-drop, length-map}
use borrow.Author.Tests.{le-leb, leb-true}
use Rattle.lists.specs.Lists.{All, same, sort_by}
use Rattle.lists.proofs.Tests.{by_test, true_or_false, and_both, and_left, and_right}
use Rattle.lists.proofs.Keep.{all_append}
use Rattle.lists.proofs.Sorted.{sorted_length}
use Rattle.measure.specs.Measure.{Measure, is_measure, stored_correction}
use Rattle.measure.proofs.Stored.{measure_stored, stored_bounds}
use Rattle.measure.specs.Tag.{is_stored}
use Rattle.treap.specs.Treap.{left_link, right_link}
use Rattle.treap.specs.Levels.{rank, count}
use Rattle.treap.specs.Blocks.{Block, blocks}
use Rattle.treap.specs.Image.{node_mark, node_record, node_of, block_part, count_bytes}
use Rattle.table.specs.Layout.{most_slots}
use Rattle.table.specs.Contents.{Contents, Valid, entry_keys, keys_in, priority_in, measure_in, key_below, right_measure}
use Rattle.table.proofs.Entries.{sorted_keys}
use Rattle.image.specs.Layout.{block_bytes, node_bytes, measure_bytes, held_at, IsByte}
use Rattle.image.specs.Image.{image_of, header_span, field_at, node_entries, nodes_span, block_entries, read_image, is_image}
use Rattle.image.proofs.Judging.{is_image_says}
use Rattle.image.proofs.Lengths.{block_part-length, image_length}
use Rattle.image.proofs.Records as written
use Rattle.image.proofs.Reading.{Readable, node_of_left, nodes_first, part_held, part_nodes, part_left, blocks_readable, number_read, header_inside, parts_read, measured_right, read_of_image}
use Rattle.image_collect.specs.Reading.{is_node, are_nodes, intact, blocks_of, entries_of, readable, RoomFor}
use Rattle.image_collect.proofs.Nodes.{node_plain, node_measured, entries_number, nodes_inside, nodes_least, nodes_right}

-- ---- the record of a key, whatever follows it
module _ (key left right rank count long stored : ℕ) (rest : List ℕ) where
  abbrev own : List ℕ
  own = node_record key left right rank count long stored

  plain_mark : eqb long 0 ≡ true → same (take 2 (own ++ rest)) node_mark ≡ true
  unfolding node_record
  plain_mark e = rw e refl

  record_node : is_stored long stored ≡ true → is_node (own ++ rest) ≡ true
  record_node fits =
      let (few, low) = stored_bounds long stored fits in
      let marked = written.node_marked key left right rank count long stored rest in
      let size = written.node_length key left right rank count long stored in
      let both = length-append own rest in
      by_test (eqb long 0)
      (λ e.
      let short : length own ≡ node_bytes = rw e at size in
      sym (node_plain (own ++ rest) (omega arith) (marked ∙ ap not e)) ∙ plain_mark e)
      (λ e.
      let more : length own ≡ node_bytes + measure_bytes = rw e at size in
      sym (node_measured (own ++ rest) (omega arith) (marked ∙ ap not e))
      ∙ ap₂ is_stored (written.node_long key left right rank count long stored e rest (omega arith)) (written.node_stored key left right rank count long stored e rest (omega arith))
      ∙ fits)

-- ---- the node records of an image
module _ (α : ℕ) (p : ℕ → ℕ) (m : ℕ → Measure) (ks : List ℕ) (right : (k : ℕ) → is_measure (m k) ≡ true) where
  node_of_node : (k : ℕ) (rest : List ℕ) → is_node (node_of α p m ks k ++ rest) ≡ true
  unfolding node_of
  node_of_node k rest =
      record_node k (left_link p ks k) (right_link p ks k) (rank α p ks k) (count α p ks k) (m k).length (stored_correction (m k)) rest
      (measure_stored (m k) (right k))

  are_nodes_lem : (xs rest : List ℕ) → are_nodes (length xs) (flat_map (node_of α p m ks) xs ++ rest) ≡ true
  are_nodes_lem [] rest = refl
  are_nodes_lem (x ∷ xs) rest =
      let later = flat_map (node_of α p m ks) xs ++ rest in
      ap (are_nodes (suc (length xs))) (nodes_first α p m ks x xs rest)
      ∙ and_both (is_node (node_of α p m ks x ++ later)) _ (node_of_node x later)
      (ap (are_nodes (length xs)) (node_of_left α p m ks x later) ∙ are_nodes_lem xs rest)

  -- ---- the blocks
  block_intact : (b : Block) → Readable b → (rest : List ℕ) (many : ℕ) → intact many rest ≡ true → intact (suc many) (block_part α p m ks b ++ rest) ≡ true
  block_intact b fits rest many h =
      let bytes = block_part α p m ks b ++ rest in
      let nodes = drop block_bytes bytes in
      let held = length b.held in
      let inside : leb block_bytes (length bytes) ≡ true =
      le-leb block_bytes (length bytes) (omega (arith, length-append (block_part α p m ks b) rest, block_part-length α p m ks b))
      in
      let all : are_nodes held nodes ≡ true = ap (are_nodes held) (part_nodes α p m ks b fits rest) ∙ are_nodes_lem b.held rest in
      let later : intact many (drop (nodes_span held nodes) nodes) ≡ true = ap (intact many) (part_left α p m ks b fits rest) ∙ h in
      ap (λ (n : ℕ). leb block_bytes (length bytes) && (are_nodes n nodes && intact many (drop (nodes_span n nodes) nodes))) (part_held α p m ks b fits rest)
      ∙ and_both (leb block_bytes (length bytes)) _ inside (and_both (are_nodes held nodes) _ all later)

  blocks_intact : (bs : List Block) → All Readable bs → intact (length bs) (flat_map (block_part α p m ks) bs) ≡ true
  unfolding flat_map
  blocks_intact [] h = refl
  blocks_intact (b ∷ bs) h = block_intact b h.0 (flat_map (block_part α p m ks) bs) (length bs) (blocks_intact bs h.1)

-- ---- an image
module _ (c : Contents) (valid : Valid most_slots c) where
  blocks_number : blocks_of (image_of c) ≡ length (blocks c.order (priority_in c) (keys_in c))
  unfolding blocks_of
  blocks_number = number_read c valid

  image_intact : intact (blocks_of (image_of c)) (drop (header_span (image_of c)) (image_of c)) ≡ true
  image_intact =
      ap₂ intact blocks_number (parts_read c valid)
      ∙ blocks_intact c.order (priority_in c) (measure_in c.entries) (keys_in c) (measured_right c valid) (blocks c.order (priority_in c) (keys_in c)) (blocks_readable c valid)

  entries_total : length (entries_of (image_of c)) ≡ length (keys_in c)
  unfolding entries_of blocks_of read_image
  entries_total =
      let shown : entry_keys (sort_by key_below (entries_of (image_of c))) ≡ keys_in c = ap keys_in (read_of_image c valid) in
      sym (sorted_length (entry_keys (entries_of (image_of c))) ∙ length-map (entries_of (image_of c)) (λ e. e.key))
      ∙ ap length (sym (sorted_keys (entries_of (image_of c))) ∙ shown)

  pub image_readable : (room : ℕ) → RoomFor (length (image_of c)) room → readable room (image_of c) ≡ true
  unfolding readable
  image_readable room enough =
      let long = image_length c valid in
      let fit = valid.keys_fit in
      let few : length (keys_in c) ≤ room = enough (length (keys_in c)) fit (omega (arith, long, written.head_at_least c.salt)) in
      and_both (leb (header_span (image_of c)) (length (image_of c))) _ (le-leb (header_span (image_of c)) (length (image_of c)) (header_inside c valid))
      (and_both (intact (blocks_of (image_of c)) (drop (header_span (image_of c)) (image_of c))) (leb (length (entries_of (image_of c))) room) image_intact
      (le-leb (length (entries_of (image_of c))) room (omega (arith, few, entries_total))))

-- what cannot be read, though there is room for the keys of an image, is no image
pub unreadable : (room : ℕ) (bytes : List ℕ) → RoomFor (length bytes) room → All IsByte bytes → readable room bytes ≡ false → is_image bytes ≡ false
unreadable room bytes enough sized e =
    by_test (is_image bytes)
    (λ t.
    let valid = is_image_says bytes t sized in
    absurd
    (true_or_false (readable room bytes)
    (ap (readable room) valid.1
    ∙ image_readable (read_image bytes) valid.0 room (subst (λ (b : List ℕ). RoomFor (length b) room) valid.1 enough))
    e))
    (λ t. t)

-- ---- what can be read lies within the bytes, and its measures are within the rules
block_parts : (many : ℕ) (bytes : List ℕ) → intact (suc many) bytes ≡ true
    → (block_bytes ≤ length bytes)
    × (are_nodes (field_at held_at count_bytes bytes) (drop block_bytes bytes) ≡ true)
    × (intact many (drop (nodes_span (field_at held_at count_bytes bytes) (drop block_bytes bytes)) (drop block_bytes bytes)) ≡ true)
block_parts many bytes h =
    let held = field_at held_at count_bytes bytes in
    let nodes = drop block_bytes bytes in
    let after = and_right (leb block_bytes (length bytes)) _ h in (
      leb-true block_bytes (length bytes) (and_left (leb block_bytes (length bytes)) _ h),
      and_left (are_nodes held nodes) _ after,
      and_right (are_nodes held nodes) _ after,
    )

entries_inside : (many : ℕ) (bytes : List ℕ) → intact many bytes ≡ true → node_bytes * length (block_entries many bytes) ≤ length bytes
entries_inside zero bytes h = omega arith
entries_inside (suc many) bytes h =
    let held = field_at held_at count_bytes bytes in
    let nodes = drop block_bytes bytes in
    let rest = drop (nodes_span held nodes) nodes in
    let (reach, all, later) = block_parts many bytes h in
    omega (
      arith,
      reach,
      nodes_inside held nodes all,
      nodes_least held nodes,
      entries_number held nodes,
      entries_inside many rest later,
      length-drop (nodes_span held nodes) nodes,
      length-drop block_bytes bytes,
      length-append (node_entries held nodes) (block_entries many rest),
    )

entries_right : (many : ℕ) (bytes : List ℕ) → intact many bytes ≡ true → All (λ e. right_measure e ≡ true) (block_entries many bytes)
entries_right zero bytes h = tt
entries_right (suc many) bytes h =
    let held = field_at held_at count_bytes bytes in
    let nodes = drop block_bytes bytes in
    let rest = drop (nodes_span held nodes) nodes in
    let (reach, all, later) = block_parts many bytes h in
    all_append (λ e. right_measure e ≡ true) (node_entries held nodes) (block_entries many rest) (nodes_right held nodes all) (entries_right many rest later)

module _ (room : ℕ) (bytes : List ℕ) (e : readable room bytes ≡ true) where
  -- what can be read has a header, and keys for which there is room
  pub readable_header : header_span bytes ≤ length bytes
  unfolding readable
  readable_header = leb-true (header_span bytes) (length bytes) (and_left (leb (header_span bytes) (length bytes)) _ e)

  all_intact : intact (blocks_of bytes) (drop (header_span bytes) bytes) ≡ true
  unfolding readable
  all_intact = and_left (intact (blocks_of bytes) (drop (header_span bytes) bytes)) _ (and_right (leb (header_span bytes) (length bytes)) _ e)

  pub readable_few : length (entries_of bytes) ≤ room
  unfolding readable
  readable_few =
      leb-true (length (entries_of bytes)) room
      (and_right (intact (blocks_of bytes) (drop (header_span bytes) bytes)) _ (and_right (leb (header_span bytes) (length bytes)) _ e))

  -- so there is room for them wherever there is room for the keys of an image
  pub readable_fits : (other : ℕ) → room ≤ most_slots → RoomFor (length bytes) other → length (entries_of bytes) ≤ other
  unfolding entries_of
  readable_fits other few enough =
      let inside = entries_inside (blocks_of bytes) (drop (header_span bytes) bytes) all_intact in
      enough (length (entries_of bytes)) (omega (arith, readable_few, few)) (omega (arith, inside, readable_header, written.header_within bytes, length-drop (header_span bytes) bytes))

  pub readable_right : All (λ e. right_measure e ≡ true) (entries_of bytes)
  unfolding entries_of
  readable_right = entries_right (blocks_of bytes) (drop (header_span bytes) bytes) all_intact
