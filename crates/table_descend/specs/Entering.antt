-- Whether the way down to a key, on from a key `at`, enters a block that the lookups before did not meet. Assumes nothing.
use Rattle.std.specs.Prelude.{Bool, cond, not, ◌&&◌, ℕ, eqb, ltb}
use Rattle.treap_structure.proofs.Entrances.{of_level}
use Rattle.table.specs.Contents.{Contents, keys_in, priority_in}
use Rattle.table_entries.specs.Steps.{next_key}

-- The block that holds the root is new to the first lookup alone.
unfoldable pub first_block : ℕ → ℕ
first_block last = cond (eqb last 0) 1 0

-- Of the last lookup's key and the one before it, the last that is not `at`.
unfoldable pub other_than : ℕ → ℕ → ℕ → ℕ
other_than at last before = cond (eqb last at) before last

-- From `at`, of a block of one level, the way goes on to a key of a block of another, `below`; and the search for an earlier key either did
-- not come by `at`, not being above `low`, or went on from there to no key of that level.
unfoldable pub new_block : Contents → ℕ → ℕ → ℕ → ℕ → ℕ → Bool
new_block c at low other level below =
    not (eqb below level)
    && not (ltb low other && of_level c.order (priority_in c) (keys_in c) below (next_key c at other))

-- The last key at which the way down went right.
unfoldable pub low_after : ℕ → ℕ → ℕ → ℕ
low_after low at key = cond (ltb at key) at low
