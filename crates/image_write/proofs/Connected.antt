-- The image from the columns is the image of the order, the salt and the keys with their measures. Assumes an order of at least 2, rising keys,
-- none of them zero, tags beside them, and columns as their definitions say.
use mathlib.Core.List.{List, [], ◌∷◌, ◌++◌, map, flat_map}
use mathlib.Core.Path.{◌≡◌, sym, ap, ap₂, ◌∙◌, subst}
use Prim.Native.Nat.{ℕ, ◌<◌, ◌≤◌}
use native.Mathlib.Omega.{arith}
use lib.ListN.{length, take, length-map}
use Rattle.lists.specs.Lists.{All, Rising, runs}
use Rattle.lists.proofs.Keep.{all_map}
use Rattle.lists.proofs.FlatMap.{flat_map-same, flat_map_mapped}
use Rattle.measure.specs.Measure.{Measure}
use Rattle.priority.specs.Priority.{priority_with}
use Rattle.sorting.specs.ByWeight.{by_weight}
use Rattle.sorting.proofs.ByWeight.{by_weight_within}
use Rattle.treap.specs.Treap.{top}
use Rattle.treap.specs.Blocks.{blocks}
use Rattle.treap.specs.Image.{header_record, block_record, node_of, block_part, image}
use Rattle.table.specs.Contents.{measure_in}
use Rattle.table.specs.Tags.{entries_tagged, tagged, Beside}
use Rattle.table.proofs.Tagged.{tagged_keys}
use Rattle.image.specs.Image.{salted, image_of}
use Rattle.image.proofs.Records.{header_first}
use Rattle.image.proofs.ImageOrder.{same_block}
use Rattle.image.proofs.BlockRuns.{block_from, blocks_are_runs}
use Rattle.treap_columns.specs.Positions.{positions, weight_at}
use Rattle.treap_columns.specs.declared.Columns.{Columns}
use Rattle.table_encode.specs.Encode.{key_at}
use Rattle.table_encode.proofs.Fresh.{Right}
use Rattle.table_prepare.specs.Prepared.{Keys}
use Rattle.image_blocks.specs.Naming.{level_at, leader_at, block_weights, same_weight, Ranked}
use Rattle.image_parts.specs.Parts.{node_at, block_at, blocks_at, image_at}
use Rattle.image_write.specs.Arranged.{Arranged}
use Rattle.image_write.proofs.Arranging.{weights_length, ranked, columns_right}
use Rattle.image_write.proofs.RunsRenamed.{Run, runs_all, runs_renamed}
use Rattle.image_write.proofs.ByIndex.{key_of, top_is, node_by_index, level_by_index, leader_by_index, block_by_weight, sorted_by_weight}

module _ (order salt : ℕ) (wide : 2 ≤ order) (keys : List ℕ) (rising : Rising keys) (some : All (λ k. 1 ≤ k) keys) (tags : List ℕ) (beside : Beside keys tags) where
  abbrev m : ℕ → Measure
  m = measure_in (entries_tagged keys tags)

  module _ (c : Columns) (right : Right order salt keys c) (root : ℕ) (root_is : root ≡ top (weight_at (map (priority_with salt) keys)) (positions (length keys))) (low : Ranked (length keys) root c.rank c.leader) where
    abbrev weights : List ℕ
    weights = block_weights root c.rank c.leader (length keys)

    abbrev parts : List (List ℕ)
    parts = runs (same_weight weights) (by_weight weights)

    abbrev Within : ℕ → Type 0
    Within i = i < length keys

    within : All Within (by_weight weights)
    within = subst (λ (l : ℕ). All (λ i. i < l) (by_weight weights)) (weights_length root c.rank c.leader (length keys)) (by_weight_within weights)

    parts_within : All (Run (same_weight weights) Within) parts
    parts_within = runs_all (same_weight weights) Within (by_weight weights) within

    -- the blocks are the runs of one weight
    blocks_by_index : blocks order (priority_with salt) keys ≡ map (block_from order (priority_with salt) keys) (map (map (key_of keys)) parts)
    blocks_by_index =
        blocks_are_runs order (priority_with salt) keys wide rising
        ∙ ap (λ (xs : List ℕ). map (block_from order (priority_with salt) keys) (runs (same_block order (priority_with salt) keys) xs)) (sorted_by_weight order salt wide keys rising some c right root root_is low)
        ∙ ap (map (block_from order (priority_with salt) keys))
        (runs_renamed (key_of keys) (same_block order (priority_with salt) keys) (same_weight weights) Within (λ i j h k. block_by_weight order salt wide keys rising some c right root root_is low i j h k) (by_weight weights) within)

    how_many : length (blocks order (priority_with salt) keys) ≡ length parts
    how_many = ap length blocks_by_index ∙ length-map (map (map (key_of keys)) parts) (block_from order (priority_with salt) keys) ∙ length-map parts (map (key_of keys))

    -- and so are their parts
    part_by_index : (run : List ℕ) → Run (same_weight weights) Within run → block_part order (priority_with salt) m keys (block_from order (priority_with salt) keys (map (key_of keys) run)) ≡ block_at keys tags root c run
    unfolding block_part block_from block_at
    part_by_index [] h = absurd (omega (arith, h.0))
    part_by_index (i ∷ run) h =
        let here = h.1.0 in
        let f = node_of order (priority_with salt) m keys in
        let g = node_at keys tags c in
        let nodes : flat_map f (map (key_of keys) (i ∷ run)) ≡ flat_map g (i ∷ run) =
        flat_map_mapped f (key_of keys) (i ∷ run)
        ∙ flat_map-same (λ j. f (key_of keys j)) g (i ∷ run)
        (all_map Within (λ j. f (key_of keys j) ≡ g j) (λ j k. node_by_index order salt wide keys rising some c right root root_is low tags beside j k) (i ∷ run) h.1)
        in
        ap₂ (λ (x y : ℕ). block_record x y (length (map (key_of keys) (i ∷ run))) ++ flat_map f (map (key_of keys) (i ∷ run)))
        (leader_by_index order salt wide keys rising some c right root root_is low i here) (level_by_index order salt wide keys rising some c right root root_is low i here)
        ∙ ap₂ (λ (l : ℕ) (xs : List ℕ). block_record (key_at keys (leader_at root c.leader i)) (level_at root c.rank i) l ++ xs) (length-map (i ∷ run) (key_of keys)) nodes

    parts_by_index : flat_map (block_part order (priority_with salt) m keys) (blocks order (priority_with salt) keys) ≡ blocks_at keys tags root c weights (by_weight weights)
    unfolding blocks_at
    parts_by_index =
        ap (flat_map (block_part order (priority_with salt) m keys)) blocks_by_index
        ∙ flat_map_mapped (block_part order (priority_with salt) m keys) (block_from order (priority_with salt) keys) (map (map (key_of keys)) parts)
        ∙ flat_map_mapped (λ r. block_part order (priority_with salt) m keys (block_from order (priority_with salt) keys r)) (map (key_of keys)) parts
        ∙ flat_map-same (λ r. block_part order (priority_with salt) m keys (block_from order (priority_with salt) keys (map (key_of keys) r))) (block_at keys tags root c) parts
        (all_map (Run (same_weight weights) Within) (λ r. block_part order (priority_with salt) m keys (block_from order (priority_with salt) keys (map (key_of keys) r)) ≡ block_at keys tags root c r) part_by_index parts parts_within)

    image_by_index : image_at order salt keys tags root c weights (by_weight weights) ≡ salted salt (image order (priority_with salt) m keys)
    unfolding image_at image
    image_by_index =
        sym
        (ap (salted salt)
        (ap₂ (λ (l k : ℕ). header_record order (length keys) l k ++ flat_map (block_part order (priority_with salt) m keys) (blocks order (priority_with salt) keys)) how_many (top_is order salt wide keys rising some c right root root_is low)
        ∙ ap (λ (xs : List ℕ). header_record order (length keys) (length parts) (key_at keys root) ++ xs) parts_by_index)
        ∙ header_first salt order (length keys) (length parts) (key_at keys root) (blocks_at keys tags root c weights (by_weight weights)))

-- what is arranged makes the image
pub arranged_image : (order salt : ℕ) (keys tags weighed sorted : List ℕ) (c : Columns) (root : ℕ) → Keys order keys → Beside keys tags → Arranged order salt keys weighed sorted c root
    → image_at order salt keys tags root c (take (length keys) weighed) (take (length keys) sorted) ≡ image_of (tagged order salt keys tags)
unfolding image_of
arranged_image order salt keys tags weighed sorted c root good beside made =
    ap₂ (image_at order salt keys tags root c) made.weighed made.in_order
    ∙ image_by_index order salt good.wide keys good.rising good.some tags beside c (columns_right order salt keys good c made.filled) root made.root_is
    (ranked order salt keys good c made.filled root made.root_is)
    ∙ ap (λ (ks : List ℕ). salted salt (image order (priority_with salt) (measure_in (entries_tagged keys tags)) ks)) (sym (tagged_keys keys tags))
