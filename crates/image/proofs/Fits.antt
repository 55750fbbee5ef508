-- Every number of an image fits its field, so that no record cuts one short. Assumes valid contents.
use Prim.Native.Nat.{ℕ, ◌^◌, ◌≤◌, ◌<◌}
use native.Mathlib.Omega.{arith}
use lib.ListN.{length}
use Rattle.lists.specs.Lists.{All}
use Rattle.lists.proofs.Keep.{all_map, all_both}
use Rattle.measure.specs.Measure.{stored_correction}
use Rattle.measure.proofs.Stored.{measure_stored, stored_bounds}
use Rattle.treap.specs.Treap.{top, left_link, right_link}
use Rattle.treap.specs.Levels.{rank, count}
use Rattle.treap.specs.Blocks.{Block, blocks}
use Rattle.treap_structure.proofs.Bounds.{rank_at_most, count_at_most, top_one, left_link_one, right_link_one, leaders_one, levels_at_most}
use Rattle.table.specs.Layout.{most_slots}
use Rattle.table.specs.Contents.{Contents, IsKey, Valid, keys_in, priority_in, measure_in}
use Rattle.table.proofs.Orders.{order_within}
use Rattle.image.proofs.Lengths.{blocks_fit}
use Rattle.image.proofs.Reading.{Readable, blocks_readable, measured_right}

-- The number fits a field of one, two, four, eight bytes.
abbrev pub InByte : ℕ → Type 0
InByte n = n < 256

abbrev pub InTwoBytes : ℕ → Type 0
InTwoBytes n = n < 65536

abbrev pub InFourBytes : ℕ → Type 0
InFourBytes n = n < 2 ^ 32

abbrev pub InWord : ℕ → Type 0
InWord n = n < 2 ^ 64

-- The header's numbers fit their fields.
pub record HeaderFits (c : Contents) : Type 0 where
  pub order : InByte c.order
  pub size : InTwoBytes (length (keys_in c))
  pub number : InTwoBytes (length (blocks c.order (priority_in c) (keys_in c)))
  pub root : InWord (top (priority_in c) (keys_in c))

-- A block's do.
pub record BlockFits (b : Block) : Type 0 where
  pub leader : InWord b.leader_key
  pub level : InTwoBytes b.level
  pub size : InTwoBytes (length b.held)

-- A key's do.
pub record NodeFits (c : Contents) (k : ℕ) : Type 0 where
  pub key : InWord k
  pub left : InWord (left_link (priority_in c) (keys_in c) k)
  pub right : InWord (right_link (priority_in c) (keys_in c) k)
  pub rank_of : InTwoBytes (rank c.order (priority_in c) (keys_in c) k)
  pub count_of : InTwoBytes (count c.order (priority_in c) (keys_in c) k)
  pub length_of : InFourBytes (measure_in c.entries k).length
  pub stored_of : InTwoBytes (stored_correction (measure_in c.entries k))

module _ (c : Contents) (valid : Valid most_slots c) where
  few : length (keys_in c) ≤ 4096
  few = valid.keys_fit

  sized : All InWord (keys_in c)
  sized = all_map IsKey InWord (λ k h. h.1) (keys_in c) valid.keys_right

  no_key : InWord 0
  no_key = omega arith

  pub header_fits : HeaderFits c
  header_fits =
      record {
        order = (order_within c.order valid.order_right).1;
        size = omega (arith, few);
        number = omega (arith, few, blocks_fit c valid);
        root = top_one InWord no_key (priority_in c) (keys_in c) sized;
      }

  pub blocks_fit_fields : All BlockFits (blocks c.order (priority_in c) (keys_in c))
  blocks_fit_fields =
      let bs = blocks c.order (priority_in c) (keys_in c) in
      all_map (λ b. InWord b.leader_key × ((b.level ≤ length (keys_in c)) × Readable b)) BlockFits
      (λ b h. record { leader = h.0; level = low b.level h.1.0; size = h.1.1.few })
      bs
      (all_both (λ b. InWord b.leader_key) (λ b. (b.level ≤ length (keys_in c)) × Readable b) bs
      (leaders_one InWord no_key (priority_in c) (keys_in c) sized c.order)
      (all_both (λ b. b.level ≤ length (keys_in c)) Readable bs (levels_at_most c.order (priority_in c) (keys_in c)) (blocks_readable c valid)))
    where
      low : (n : ℕ) → n ≤ length (keys_in c) → InTwoBytes n
      low n h = omega (arith, few)

  pub nodes_fit_fields : All (NodeFits c) (keys_in c)
  nodes_fit_fields =
      all_map InWord (NodeFits c)
      (λ k h.
      let m = measure_in c.entries k in
      let bounds = stored_bounds m.length (stored_correction m) (measure_stored m (measured_right c valid k)) in
      record {
        key = h;
        left = left_link_one InWord no_key (priority_in c) (keys_in c) sized valid.keys_rise k;
        right = right_link_one InWord no_key (priority_in c) (keys_in c) sized valid.keys_rise k;
        rank_of = omega (arith, few, rank_at_most c.order (priority_in c) (keys_in c) k);
        count_of = omega (arith, few, count_at_most c.order (priority_in c) (keys_in c) k);
        length_of = omega arith;
        stored_of = omega arith;
      })
      (keys_in c) sized
