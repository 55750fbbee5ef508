-- How long the image is: 15 + 14·b + 30·n bytes, for n keys in b blocks, 6 more for each measured key, and 8 for a salt other than zero. Assumes valid contents, where
-- it says so.
use mathlib.Core.Bool.{Bool}
use mathlib.Core.List.{List, [], ◌∷◌, ◌++◌, flat_map}
use mathlib.Core.Path.{◌≡◌, refl, sym, ap, ◌∙◌, subst}
use Prim.Native.Nat.{ℕ, suc, ◌+◌, ◌*◌, ◌≤◌}
use native.Mathlib.Omega.{arith}
use lib.Dec.{eqb}
use lib.ListN.{length, length-append, length-map}
use Rattle.lists.specs.Lists.{All, Rising, keep, nonzero}
use Rattle.lists.proofs.Tests.{by_test}
use Rattle.lists.proofs.Keep.{all_always, all_append, length-keep}
use Rattle.lists.proofs.FlatMap.{all_flat_map, length-flat_map_headed}
use Rattle.lists.proofs.Sorting.{sort_by_permutes}
use Rattle.lists.proofs.Occurrences.{kept_permuted}
use Rattle.measure.specs.Measure.{Measure, stored_correction}
use Rattle.treap.specs.Treap.{top, left_link, right_link}
use Rattle.treap.specs.Levels.{rank, count}
use Rattle.treap.specs.Blocks.{Block, blocks}
use Rattle.treap.specs.Image.{header_record, block_record, node_of, block_part, image}
use Rattle.image.proofs.ImageOrder.{before, image_order, held_total, blocks_few}
use Rattle.table.specs.Layout.{most_slots}
use Rattle.table.specs.Contents.{Entry, Contents, Valid, entry_keys, keys_in, priority_in, measure_in}
use Rattle.table.proofs.Orders.{order_wide}
use Rattle.table.proofs.Entries.{found_self}
use Rattle.image.specs.Layout.{header_bytes, salt_bytes, block_bytes, node_bytes, measure_bytes, record_bytes, image_bytes, most_bytes, IsByte}
use Rattle.image.specs.Image.{salted, image_of, measured_in}
use Rattle.image.proofs.PartLengths.{nodes_length}
use Rattle.image.proofs.Records.{head_at_most, header_length, header_first, block_length, node_length, header_bytes_lem, block_bytes_lem, node_bytes_lem}

-- The key is measured.
abbrev pub has_measure : (ℕ → Measure) → ℕ → Bool
has_measure m k = nonzero (m k).length

module _ (α : ℕ) (p : ℕ → ℕ) (m : ℕ → Measure) (ks : List ℕ) where
  pub node_of-length : (k : ℕ) → length (node_of α p m ks k) ≡ record_bytes (m k).length
  unfolding node_of
  node_of-length k = node_length k (left_link p ks k) (right_link p ks k) (rank α p ks k) (count α p ks k) (m k).length (stored_correction (m k))

  pub block_part-length : (b : Block) → length (block_part α p m ks b) ≡ block_bytes + length (flat_map (node_of α p m ks) b.held)
  unfolding block_part
  block_part-length b =
      omega (
        arith,
        length-append (block_record b.leader_key b.level (length b.held)) (flat_map (node_of α p m ks) b.held),
        block_length b.leader_key b.level (length b.held),
      )

  -- ---- it is made of bytes
  node_of_bytes : (k : ℕ) → All IsByte (node_of α p m ks k)
  unfolding node_of
  node_of_bytes k = node_bytes_lem k (left_link p ks k) (right_link p ks k) (rank α p ks k) (count α p ks k) (m k).length (stored_correction (m k))

  block_part_bytes : (b : Block) → All IsByte (block_part α p m ks b)
  unfolding block_part
  block_part_bytes b =
      all_append IsByte (block_record b.leader_key b.level (length b.held)) (flat_map (node_of α p m ks) b.held)
      (block_bytes_lem b.leader_key b.level (length b.held))
      (all_flat_map IsByte (node_of α p m ks) b.held (all_always (λ k. All IsByte (node_of α p m ks k)) node_of_bytes b.held))

  parts_bytes : (bs : List Block) → All IsByte (flat_map (block_part α p m ks) bs)
  parts_bytes bs = all_flat_map IsByte (block_part α p m ks) bs (all_always (λ b. All IsByte (block_part α p m ks b)) block_part_bytes bs)

-- an image is its header, with the salt, and then its blocks
pub image_is : (c : Contents) →
    let bs = blocks c.order (priority_in c) (keys_in c) in
    image_of c
    ≡ salted c.salt (header_record c.order (length (keys_in c)) (length bs) (top (priority_in c) (keys_in c)))
    ++ flat_map (block_part c.order (priority_in c) (measure_in c.entries) (keys_in c)) bs
unfolding image_of image
image_is c = header_first c.salt c.order (length (keys_in c)) _ _ _

pub image_bytes_lem : (c : Contents) → All IsByte (image_of c)
image_bytes_lem c =
    let bs = blocks c.order (priority_in c) (keys_in c) in
    subst (All IsByte) (sym (image_is c))
    (all_append IsByte (salted c.salt (header_record c.order (length (keys_in c)) (length bs) (top (priority_in c) (keys_in c)))) (flat_map (block_part c.order (priority_in c) (measure_in c.entries) (keys_in c)) bs)
    (header_bytes_lem c.salt c.order (length (keys_in c)) (length bs) (top (priority_in c) (keys_in c)))
    (parts_bytes c.order (priority_in c) (measure_in c.entries) (keys_in c) bs))

-- the measured among keys are as many as among their entries
measured_keys : (es : List Entry) → Rising (entry_keys es)
    → length (keep (has_measure (measure_in es)) (entry_keys es)) ≡ length (keep (λ e. nonzero e.measure.length) es)
measured_keys es rise = go es (found_self es rise)
  where
    go : (fs : List Entry) → All (λ f. measure_in es f.key ≡ f.measure) fs
        → length (keep (has_measure (measure_in es)) (entry_keys fs)) ≡ length (keep (λ e. nonzero e.measure.length) fs)
    go [] h = refl
    go (f ∷ fs) h =
        let later = go fs h.1 in
        rw h.0 (by_test (eqb f.measure.length 0) (λ e. rw e later) (λ e. rw e (ap suc later)))

module _ {most : ℕ} (c : Contents) (valid : Valid most c) where
  wide : 2 ≤ c.order
  wide = order_wide c.order valid.order_right

  measured_held : length (keep (has_measure (measure_in c.entries)) (flat_map (λ b. b.held) (blocks c.order (priority_in c) (keys_in c)))) ≡ measured_in c
  unfolding measured_in
  measured_held =
      ap (λ (xs : List ℕ). length (keep (has_measure (measure_in c.entries)) xs)) (image_order c.order (priority_in c) wide (keys_in c) valid.keys_rise)
      ∙ kept_permuted (has_measure (measure_in c.entries)) (sort_by_permutes (before c.order (priority_in c) (keys_in c)) (keys_in c))
      ∙ measured_keys c.entries valid.keys_rise

  -- "Length is 15 + 14·b + 30·n", "6 bytes more" for each measured key, and the salt's where it is not zero.
  pub image_length : length (image_of c) ≡ image_bytes c.salt (length (keys_in c)) (length (blocks c.order (priority_in c) (keys_in c))) (measured_in c)
  image_length =
      let bs = blocks c.order (priority_in c) (keys_in c) in
      let m = measure_in c.entries in
      let node = node_of c.order (priority_in c) m (keys_in c) in
      omega (
        arith,
        ap length (image_is c),
        length-append (salted c.salt (header_record c.order (length (keys_in c)) (length bs) (top (priority_in c) (keys_in c)))) (flat_map (block_part c.order (priority_in c) m (keys_in c)) bs),
        header_length c.salt c.order (length (keys_in c)) (length bs) (top (priority_in c) (keys_in c)),
        length-flat_map_headed node block_bytes (block_part c.order (priority_in c) m (keys_in c)) (λ b. b.held) (block_part-length c.order (priority_in c) m (keys_in c)) bs,
        nodes_length node (λ k. (m k).length) (node_of-length c.order (priority_in c) m (keys_in c)) (flat_map (λ b. b.held) bs),
        measured_held,
        held_total c.order (priority_in c) wide (keys_in c) valid.keys_rise,
      )

  -- there are no more blocks than keys, and no more measured keys
  pub blocks_fit : length (blocks c.order (priority_in c) (keys_in c)) ≤ length (keys_in c)
  blocks_fit = blocks_few c.order (priority_in c) wide (keys_in c) valid.keys_rise

  pub measured_fit : measured_in c ≤ length (keys_in c)
  unfolding measured_in
  measured_fit = omega (arith, length-keep (λ e. nonzero e.measure.length) c.entries, length-map c.entries (λ e. e.key))

  pub image_at_most : length (image_of c) ≤ header_bytes + salt_bytes + (block_bytes + node_bytes + measure_bytes) * most
  image_at_most = omega (arith, image_length, head_at_most c.salt, blocks_fit, measured_fit, valid.keys_fit)

pub image_longest : (c : Contents) → Valid most_slots c → length (image_of c) ≤ most_bytes
image_longest = image_at_most {most = most_slots}
