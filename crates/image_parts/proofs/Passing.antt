-- The parts of the blocks, one after the other: the invariant of `put_blocks`, its steps and its end. Assumes nothing.
use mathlib.Core.List.{List, [], ◌++◌, flat_map, append-nil, append_assoc}
use mathlib.Core.Path.{◌≡◌, refl, sym, ap, ◌∙◌}
use Prim.Native.Nat.{ℕ, ◌+◌, ◌≤◌}
use native.Mathlib.Omega.{arith}
use lib.ListN.{length, drop, length-append, drop_of_length-le}
use lib.Seq.{slice}
use Rattle.lists.specs.Lists.{overwrite}
use Rattle.lists.proofs.Overwrite.{overwrite_none, overwrite-length}
use Rattle.lists.proofs.Parts.{overwrite_next}
use Rattle.treap_columns.specs.declared.Columns.{Columns}
use Rattle.image_blocks.specs.Runs.{RunEnds}
use Rattle.image_parts.specs.Parts.{block_at, blocks_at}

module _ (keys tags : List ℕ) (root : ℕ) (c : Columns) (weights : List ℕ) (from : ℕ) where
  -- The output once the parts of the blocks before index `low` are written, from a byte on up to byte `at`.
  pub record BlocksPut (sorted before output : List ℕ) (low at : ℕ) : Type 0 where
    pub done : List ℕ
    pub upto : low ≤ length sorted
    pub here : at ≡ from + length done
    pub whole : blocks_at keys tags root c weights sorted ≡ done ++ blocks_at keys tags root c weights (drop low sorted)
    pub size : length output ≡ length before
    pub holds : output ≡ overwrite before from done

  pub blocks_none : (sorted before : List ℕ) → BlocksPut sorted before before 0 from
  blocks_none sorted before =
      record { done = []; upto = omega arith; here = omega arith; whole = refl; size = refl; holds = sym (overwrite_none before from) }

  -- the part of the first block, and the rest
  part_next : (sorted : List ℕ) (low high : ℕ) → RunEnds weights sorted low high
      → blocks_at keys tags root c weights (drop low sorted) ≡ block_at keys tags root c (slice low high sorted) ++ blocks_at keys tags root c weights (drop high sorted)
  unfolding blocks_at flat_map
  part_next sorted low high ends = ap (flat_map (block_at keys tags root c)) ends.first

  module _ (sorted before output : List ℕ) (low at : ℕ) (put : BlocksPut sorted before output low at) where
    module _ (high : ℕ) (ends : RunEnds weights sorted low high) where
      abbrev part : List ℕ
      part = block_at keys tags root c (slice low high sorted)

      whole_next : blocks_at keys tags root c weights sorted ≡ (put.done ++ part) ++ blocks_at keys tags root c weights (drop high sorted)
      whole_next =
          put.whole ∙ ap (λ (xs : List ℕ). put.done ++ xs) (part_next sorted low high ends)
          ∙ sym (append_assoc put.done part (blocks_at keys tags root c weights (drop high sorted)))

      pub blocks_room : from + length (blocks_at keys tags root c weights sorted) ≤ length before → at + length part ≤ length before
      blocks_room room =
          let here = put.here in
          let rest = blocks_at keys tags root c weights (drop high sorted) in
          omega (arith, ap length whole_next, length-append (put.done ++ part) rest, length-append put.done part)

      pub blocks_more : from + length (blocks_at keys tags root c weights sorted) ≤ length before
          → BlocksPut sorted before (overwrite output at part) high (at + length part)
      blocks_more room =
          let here = put.here in
          let fits = blocks_room room in
          let same = put.size in
          record {
            done = put.done ++ part;
            upto = ends.within;
            here = omega (arith, length-append put.done part);
            whole = whole_next;
            size = overwrite-length output at part (omega arith) ∙ same;
            holds =
                ap (λ (xs : List ℕ). overwrite xs at part) put.holds
                ∙ overwrite_next from at put.done before (omega arith) (omega arith) part (omega arith);
          }

    pub blocks_all : length sorted ≤ low → output ≡ overwrite before from (blocks_at keys tags root c weights sorted)
    unfolding blocks_at flat_map
    blocks_all h =
        put.holds
        ∙ ap (overwrite before from)
        (sym (put.whole ∙ ap (λ (xs : List ℕ). put.done ++ blocks_at keys tags root c weights xs) (drop_of_length-le sorted h) ∙ append-nil put.done))
