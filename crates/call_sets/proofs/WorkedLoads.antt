-- Three loads, computed from the definitions; the sets were found by other means. Assumes nothing.
use mathlib.Core.List.{[], ◌∷◌}
use mathlib.Core.Path.{◌≡◌, refl}
use Rattle.table.specs.Contents.{entry_keys, key_below}
use Rattle.call_sets.specs.Sets.{joined, without}
use Rattle.call_sets.specs.Load.{key_from, highest_bits, chosen, done, loaded}

-- From seed 0: insert 383, insert 18, delete 35; one slot has room for the first alone.
pub one_slot : entry_keys (loaded 1 0 3) ≡ 383 ∷ []
unfolding loaded done chosen key_from highest_bits joined without key_below
one_slot = refl

-- From seed 54: delete 270, insert 62, look 314 up, insert 235, delete 233, insert 91, delete 235, delete 421.
pub two_slots : entry_keys (loaded 2 54 8) ≡ 62 ∷ []
unfolding loaded done chosen key_from highest_bits joined without key_below
two_slots = refl

-- From seed 0, with room for every key: 312 is inserted twice, 47 is inserted and deleted.
pub all_keys : entry_keys (loaded 512 0 40)
    ≡ 14 ∷ 18 ∷ 61 ∷ 72 ∷ 119 ∷ 123 ∷ 161 ∷ 205 ∷ 214 ∷ 219 ∷ 227 ∷ 234 ∷ 283 ∷ 296 ∷ 312 ∷ 369 ∷ 383 ∷ 399 ∷ 421 ∷ 450 ∷ 457 ∷ 467 ∷ []
unfolding loaded done chosen key_from highest_bits joined without key_below
all_keys = refl
