-- Document 01's examples D and E reach the ceilings, and the ceilings of 4,096 keys: they compute. Assumes nothing.
use mathlib.Core.List.{[], ◌∷◌, map}
use mathlib.Core.Path.{◌≡◌, refl}
use Rattle.lists.specs.Lists.{rounded_up}
use Rattle.treap.specs.Treap.{outranks, outranks_rest, top, treap}
use Rattle.treap.specs.Levels.{next_level, rank}
use Rattle.treap.specs.Blocks.{root_rank}
use Rattle.treap.specs.Examples.{written}
use Rattle.treap_ceilings.specs.Ceiling.{rank_ceiling}

pub d_worked : root_rank 3 (written (1 ∷ 2 ∷ 3 ∷ 4 ∷ [])) (1 ∷ 2 ∷ 3 ∷ 4 ∷ []) ≡ rank_ceiling 3 4
unfolding outranks outranks_rest top treap next_level rank root_rank rank_ceiling rounded_up
d_worked = refl

pub e_worked : root_rank 3 (written (2 ∷ 3 ∷ 4 ∷ 5 ∷ 6 ∷ 7 ∷ 1 ∷ [])) (1 ∷ 2 ∷ 3 ∷ 4 ∷ 5 ∷ 6 ∷ 7 ∷ []) ≡ rank_ceiling 3 7
unfolding outranks outranks_rest top treap next_level rank root_rank rank_ceiling rounded_up
e_worked = refl

pub most_worked : map (λ α. rank_ceiling α 4096) (3 ∷ 16 ∷ 64 ∷ 255 ∷ []) ≡ 2048 ∷ 273 ∷ 65 ∷ 17 ∷ []
unfolding rank_ceiling rounded_up
most_worked = refl
