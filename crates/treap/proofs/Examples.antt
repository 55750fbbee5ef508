-- Document 01's examples A to H, and the image of measured keys: the definitions make of each what documents 01 and 02 say. Assumes nothing.
use mathlib.Core.List.{[], ◌∷◌, map, flat_map}
use mathlib.Core.Path.{◌≡◌, refl}
use Rattle.measure.specs.Measure.{stored_correction}
use Rattle.treap.specs.Treap.{outranks, outranks_rest, top, treap, left_link, right_link}
use Rattle.treap.specs.Levels.{next_level, rank, count, leader}
use Rattle.treap.specs.Blocks.{root_rank, root_block, block, blocks_of_level, blocks, holding, is_root_block, parents, meets, blocks_met, blocks_met_by_all, room, fill}
use Rattle.treap.specs.Slots.{probes, first_empty, slots_of}
use Rattle.treap.specs.Image.{header_record, block_record, node_fields, node_record, node_of, block_part, image}
use Rattle.treap.specs.Examples.{Example, examples, outcome_of, written, five_measured, measured_image}

pub examples_hold : map (λ (e : Example). outcome_of e.given) examples ≡ map (λ (e : Example). e.outcome) examples
unfolding outranks outranks_rest top treap next_level rank count leader root_rank root_block block blocks_of_level blocks holding is_root_block parents meets blocks_met blocks_met_by_all room fill probes first_empty slots_of left_link right_link header_record block_record node_fields node_record node_of block_part image flat_map
examples_hold = refl

pub measured_example : image 3 (written (9 ∷ 5 ∷ [])) five_measured (5 ∷ 9 ∷ []) ≡ measured_image
unfolding outranks outranks_rest top treap next_level rank count leader root_rank root_block block blocks_of_level blocks left_link right_link header_record block_record node_fields node_record node_of block_part image flat_map stored_correction
measured_example = refl
