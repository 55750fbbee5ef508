-- What the bytes of an image show is what it was written from. Assumes valid contents; of blocks, where any are read, that their
-- keys are 64-bit numbers, that the number of these fits its field, and measures within the rules.
use mathlib.Core.Bool.{true}
use mathlib.Core.List.Permᴰ
use mathlib.Core.List.{List, [], ◌∷◌, ◌++◌, map, map-append, flat_map, append_assoc, append-nil, Permᴰ}
use mathlib.Core.Path.{◌≡◌, refl, sym, ap, ap₂, ◌∙◌, subst}
use Prim.Native.Nat.{ℕ, suc, ◌+◌, ◌^◌, ◌≤◌, ◌<◌}
use native.Mathlib.Omega.{arith}
use lib.ListN.{length, drop, length-append}
use lib.Seq.{drop_at}
use Rattle.lists.specs.Lists.{All, member, sort_by}
use Rattle.lists.proofs.Keep.{all_map, all_both}
use Rattle.lists.proofs.Membership.{all_member}
use Rattle.lists.proofs.FlatMap.{length-flat_map_part}
use Rattle.lists.proofs.Sorting.{sort_by_permutes}
use Rattle.measure.specs.Measure.{Measure, is_measure, stored_correction}
use Rattle.measure.proofs.Stored.{read_back, measure_stored, stored_bounds}
use Rattle.treap.specs.Treap.{top, left_link, right_link}
use Rattle.treap.specs.Levels.{rank, count}
use Rattle.treap.specs.Blocks.{Block, blocks}
use Rattle.treap.specs.Image.{order_bytes, count_bytes, block_record, node_of, block_part}
use Rattle.treap_structure.proofs.Blocks.{Holds, blocks_hold}
use Rattle.image.proofs.ImageOrder.{before, image_order, held_total}
use Rattle.table.specs.Layout.{most_slots}
use Rattle.table.specs.Contents.{Entry, Contents, IsKey, Valid, keys_in, priority_in, measure_in, key_below}
use Rattle.table.proofs.Orders.{order_within, order_wide}
use Rattle.table.proofs.Entries.{found_right, entry_at, entries_by_keys, sorted_entries}
use Rattle.image.specs.Layout.{head_bytes, block_bytes, order_at, blocks_at, held_at}
use Rattle.image.specs.Image.{image_of, header_span, salt_shown, field_at, node_span, entry_shown, node_entries, nodes_span, block_entries, read_image}
use Rattle.image.proofs.Records.{header_order, header_blocks, header_span_lem, header_salt, header_dropped, block_held, block_dropped, node_length, node_span_lem, node_shown}
use Rattle.image.proofs.Lengths.{image_is, image_length, blocks_fit}

-- A block whose records show its keys.
pub record Readable (b : Block) : Type 0 where
  pub few : length b.held < 65536
  pub sized : All (λ k. k < 2 ^ 64) b.held

-- A key with its measure.
abbrev pub entry_by : (ℕ → Measure) → ℕ → Entry
entry_by m key = record { key = key; measure = m key }

module _ (α : ℕ) (p : ℕ → ℕ) (m : ℕ → Measure) (ks : List ℕ) where
  -- ---- how many bytes node records have, and what is left after them
  pub node_of_span : (k : ℕ) (rest : List ℕ) → node_span (node_of α p m ks k ++ rest) ≡ length (node_of α p m ks k)
  unfolding node_of
  node_of_span k rest =
      node_span_lem k (left_link p ks k) (right_link p ks k) (rank α p ks k) (count α p ks k) (m k).length (stored_correction (m k)) rest
      ∙ sym (node_length k (left_link p ks k) (right_link p ks k) (rank α p ks k) (count α p ks k) (m k).length (stored_correction (m k)))

  pub node_of_left : (k : ℕ) (rest : List ℕ) → drop (node_span (node_of α p m ks k ++ rest)) (node_of α p m ks k ++ rest) ≡ rest
  node_of_left k rest = drop_at (node_of α p m ks k) rest (node_span (node_of α p m ks k ++ rest)) (sym (node_of_span k rest))

  pub nodes_first : (x : ℕ) (xs rest : List ℕ) → flat_map (node_of α p m ks) (x ∷ xs) ++ rest ≡ node_of α p m ks x ++ (flat_map (node_of α p m ks) xs ++ rest)
  unfolding flat_map
  nodes_first x xs rest = append_assoc (node_of α p m ks x) (flat_map (node_of α p m ks) xs) rest

  pub nodes_span_lem : (xs rest : List ℕ) → nodes_span (length xs) (flat_map (node_of α p m ks) xs ++ rest) ≡ length (flat_map (node_of α p m ks) xs)
  unfolding flat_map
  nodes_span_lem [] rest = refl
  nodes_span_lem (x ∷ xs) rest =
      let later = flat_map (node_of α p m ks) xs ++ rest in
      ap (nodes_span (suc (length xs))) (nodes_first x xs rest)
      ∙ ap₂ (λ (n : ℕ) (bytes : List ℕ). n + nodes_span (length xs) bytes) (node_of_span x later) (node_of_left x later)
      ∙ ap (λ (n : ℕ). length (node_of α p m ks x) + n) (nodes_span_lem xs rest)
      ∙ sym (length-append (node_of α p m ks x) (flat_map (node_of α p m ks) xs))

  pub nodes_left : (xs rest : List ℕ) → drop (nodes_span (length xs) (flat_map (node_of α p m ks) xs ++ rest)) (flat_map (node_of α p m ks) xs ++ rest) ≡ rest
  nodes_left xs rest =
      drop_at (flat_map (node_of α p m ks) xs) rest (nodes_span (length xs) (flat_map (node_of α p m ks) xs ++ rest)) (sym (nodes_span_lem xs rest))

  -- ---- a block's record, and what is left after its node records
  module _ (b : Block) (readable : Readable b) (rest : List ℕ) where
    record_first : block_part α p m ks b ++ rest ≡ block_record b.leader_key b.level (length b.held) ++ (flat_map (node_of α p m ks) b.held ++ rest)
    unfolding block_part
    record_first = append_assoc (block_record b.leader_key b.level (length b.held)) (flat_map (node_of α p m ks) b.held) rest

    pub part_held : field_at held_at count_bytes (block_part α p m ks b ++ rest) ≡ length b.held
    part_held =
        ap (field_at held_at count_bytes) record_first
        ∙ block_held b.leader_key b.level (length b.held) (flat_map (node_of α p m ks) b.held ++ rest) readable.few

    pub part_nodes : drop block_bytes (block_part α p m ks b ++ rest) ≡ flat_map (node_of α p m ks) b.held ++ rest
    part_nodes =
        ap (drop block_bytes) record_first
        ∙ block_dropped b.leader_key b.level (length b.held) (flat_map (node_of α p m ks) b.held ++ rest)

    pub part_left : drop (nodes_span (length b.held) (drop block_bytes (block_part α p m ks b ++ rest))) (drop block_bytes (block_part α p m ks b ++ rest)) ≡ rest
    part_left = ap (λ (bytes : List ℕ). drop (nodes_span (length b.held) bytes) bytes) part_nodes ∙ nodes_left b.held rest

  -- ---- the entries of node records
  module _ (right : (k : ℕ) → is_measure (m k) ≡ true) where
    pub node_of_shown : (k : ℕ) (rest : List ℕ) → k < 2 ^ 64 → entry_shown (node_of α p m ks k ++ rest) ≡ entry_by m k
    unfolding node_of
    node_of_shown k rest h =
        let bounds = stored_bounds (m k).length (stored_correction (m k)) (measure_stored (m k) (right k)) in
        node_shown k (left_link p ks k) (right_link p ks k) (rank α p ks k) (count α p ks k) (m k).length (stored_correction (m k)) rest h (omega arith) (omega arith)
        ∙ ap (λ (shown : Measure). record { key = k; measure = shown }) (read_back (m k) (right k))

    pub nodes_read : (xs rest : List ℕ) → All (λ k. k < 2 ^ 64) xs → node_entries (length xs) (flat_map (node_of α p m ks) xs ++ rest) ≡ map (entry_by m) xs
    nodes_read [] rest h = refl
    nodes_read (x ∷ xs) rest h =
        let later = flat_map (node_of α p m ks) xs ++ rest in
        ap (node_entries (suc (length xs))) (nodes_first x xs rest)
        ∙ ap₂ (λ (e : Entry) (bytes : List ℕ). e ∷ node_entries (length xs) bytes) (node_of_shown x later h.0) (node_of_left x later)
        ∙ ap (λ (es : List Entry). entry_by m x ∷ es) (nodes_read xs rest h.1)

    -- ---- the entries of blocks
    module _ (b : Block) (readable : Readable b) (rest : List ℕ) where
      pub part_entries : node_entries (length b.held) (drop block_bytes (block_part α p m ks b ++ rest)) ≡ map (entry_by m) b.held
      part_entries = ap (node_entries (length b.held)) (part_nodes b readable rest) ∙ nodes_read b.held rest readable.sized

      -- one block, then those that follow it
      pub block_read : (many : ℕ) → block_entries (suc many) (block_part α p m ks b ++ rest) ≡ map (entry_by m) b.held ++ block_entries many rest
      block_read many =
          let nodes = drop block_bytes (block_part α p m ks b ++ rest) in
          ap (λ (n : ℕ). node_entries n nodes ++ block_entries many (drop (nodes_span n nodes) nodes)) (part_held b readable rest)
          ∙ ap₂ (λ (es : List Entry) (bytes : List ℕ). es ++ block_entries many bytes) part_entries (part_left b readable rest)

    pub blocks_read : (bs : List Block) → All Readable bs → (rest : List ℕ)
        → block_entries (length bs) (flat_map (block_part α p m ks) bs ++ rest) ≡ map (entry_by m) (flat_map (λ b. b.held) bs)
    unfolding flat_map
    blocks_read [] h rest = refl
    blocks_read (b ∷ bs) h rest =
        ap (block_entries (suc (length bs))) (append_assoc (block_part α p m ks b) (flat_map (block_part α p m ks) bs) rest)
        ∙ block_read b h.0 (flat_map (block_part α p m ks) bs ++ rest) (length bs)
        ∙ ap (λ (es : List Entry). map (entry_by m) b.held ++ es) (blocks_read bs h.1 rest)
        ∙ sym (map-append (entry_by m) b.held (flat_map (λ d. d.held) bs))

-- ---- an image
module _ (c : Contents) (valid : Valid most_slots c) where
  wide : 2 ≤ c.order
  wide = order_wide c.order valid.order_right

  pub blocks_readable : All Readable (blocks c.order (priority_in c) (keys_in c))
  blocks_readable =
      let bs = blocks c.order (priority_in c) (keys_in c) in
      let total = held_total c.order (priority_in c) wide (keys_in c) valid.keys_rise in
      let fit : length (keys_in c) ≤ 4096 = valid.keys_fit in
      all_map (λ b. (length b.held ≤ length (flat_map (λ d. d.held) bs)) × Holds c.order (priority_in c) (keys_in c) wide valid.keys_rise b) Readable
      (λ b h. record {
        few = let part : length b.held ≤ length (flat_map (λ d. d.held) bs) = h.0 in omega arith;
        sized = all_map (λ k. member k (keys_in c) ≡ true) (λ k. k < 2 ^ 64) (λ k m. (all_member IsKey (keys_in c) k valid.keys_right m).1) b.held h.1.keys_of;
      })
      bs (all_both (λ b. length b.held ≤ length (flat_map (λ d. d.held) bs)) (Holds c.order (priority_in c) (keys_in c) wide valid.keys_rise) bs (length-flat_map_part (λ d. d.held) bs) (blocks_hold c.order (priority_in c) (keys_in c) wide valid.keys_rise))

  -- the header's fields, and what follows the header
  pub order_read : field_at order_at order_bytes (image_of c) ≡ c.order
  order_read =
      let bs = blocks c.order (priority_in c) (keys_in c) in
      ap (field_at order_at order_bytes) (image_is c)
      ∙ header_order c.salt c.order (length (keys_in c)) (length bs) (top (priority_in c) (keys_in c)) (flat_map (block_part c.order (priority_in c) (measure_in c.entries) (keys_in c)) bs) (order_within c.order valid.order_right).1

  salt_read : salt_shown (image_of c) ≡ c.salt
  salt_read =
      let bs = blocks c.order (priority_in c) (keys_in c) in
      ap salt_shown (image_is c)
      ∙ header_salt c.salt c.order (length (keys_in c)) (length bs) (top (priority_in c) (keys_in c)) (flat_map (block_part c.order (priority_in c) (measure_in c.entries) (keys_in c)) bs) valid.salt_right

  pub number_read : field_at blocks_at count_bytes (image_of c) ≡ length (blocks c.order (priority_in c) (keys_in c))
  number_read =
      let bs = blocks c.order (priority_in c) (keys_in c) in
      let fit : length (keys_in c) ≤ 4096 = valid.keys_fit in
      ap (field_at blocks_at count_bytes) (image_is c)
      ∙ header_blocks c.salt c.order (length (keys_in c)) (length bs) (top (priority_in c) (keys_in c)) (flat_map (block_part c.order (priority_in c) (measure_in c.entries) (keys_in c)) bs) (omega (arith, blocks_fit c valid))

  pub span_read : header_span (image_of c) ≡ head_bytes c.salt
  span_read =
      let bs = blocks c.order (priority_in c) (keys_in c) in
      ap header_span (image_is c)
      ∙ header_span_lem c.salt c.order (length (keys_in c)) (length bs) (top (priority_in c) (keys_in c)) (flat_map (block_part c.order (priority_in c) (measure_in c.entries) (keys_in c)) bs)

  pub header_inside : header_span (image_of c) ≤ length (image_of c)
  header_inside = omega (arith, span_read, image_length c valid)

  pub parts_read : drop (header_span (image_of c)) (image_of c) ≡ flat_map (block_part c.order (priority_in c) (measure_in c.entries) (keys_in c)) (blocks c.order (priority_in c) (keys_in c))
  parts_read =
      let bs = blocks c.order (priority_in c) (keys_in c) in
      ap (λ (bytes : List ℕ). drop (header_span bytes) bytes) (image_is c)
      ∙ header_dropped c.salt c.order (length (keys_in c)) (length bs) (top (priority_in c) (keys_in c)) (flat_map (block_part c.order (priority_in c) (measure_in c.entries) (keys_in c)) bs)

  -- the measure of every key is within the rules
  pub measured_right : (k : ℕ) → is_measure (measure_in c.entries k) ≡ true
  measured_right k = found_right c.entries k valid.measures_right

  -- the entries as they stand in the image
  pub entries_read : block_entries (field_at blocks_at count_bytes (image_of c)) (drop (header_span (image_of c)) (image_of c))
      ≡ map (entry_at c.entries) (flat_map (λ b. b.held) (blocks c.order (priority_in c) (keys_in c)))
  entries_read =
      let bs = blocks c.order (priority_in c) (keys_in c) in
      let parts = flat_map (block_part c.order (priority_in c) (measure_in c.entries) (keys_in c)) bs in
      ap₂ (λ (n : ℕ) (bytes : List ℕ). block_entries n bytes) number_read (parts_read ∙ sym (append-nil parts))
      ∙ blocks_read c.order (priority_in c) (measure_in c.entries) (keys_in c) measured_right bs blocks_readable []

  keys_permuted : Permᴰ (keys_in c) (flat_map (λ b. b.held) (blocks c.order (priority_in c) (keys_in c)))
  keys_permuted =
      subst (Permᴰ (keys_in c)) (sym (image_order c.order (priority_in c) wide (keys_in c) valid.keys_rise)) (Permᴰ.symm (sort_by_permutes (before c.order (priority_in c) (keys_in c)) (keys_in c)))

  entries_sorted : sort_by key_below (map (entry_at c.entries) (flat_map (λ b. b.held) (blocks c.order (priority_in c) (keys_in c)))) ≡ c.entries
  entries_sorted =
      let shown = map (entry_at c.entries) (flat_map (λ b. b.held) (blocks c.order (priority_in c) (keys_in c))) in
      sorted_entries c.entries shown
      (subst (λ (es : List Entry). Permᴰ es shown) (entries_by_keys c.entries valid.keys_rise) (Permᴰ.map (entry_at c.entries) keys_permuted))
      valid.keys_rise

  pub read_of_image : read_image (image_of c) ≡ c
  unfolding read_image
  read_of_image =
      let same_entries : (read_image (image_of c)).entries ≡ c.entries = ap (sort_by key_below) entries_read ∙ entries_sorted in
      λ i. record { order = order_read i; salt = salt_read i; entries = same_entries i }

-- equal images mean equal contents
pub image_unique : (c d : Contents) → Valid most_slots c → Valid most_slots d → image_of c ≡ image_of d → c ≡ d
image_unique c d right-c right-d e = sym (read_of_image c right-c) ∙ ap read_image e ∙ read_of_image d right-d
