-- What a lookup finds, from what the table holds. Assumes nothing.
use Rattle.std.specs.Prelude.{Option, Some, None, cond, not, ◌&&◌, List, [], ◌∷◌, ℕ, length}
use Rattle.lists.specs.Lists.{nonzero, keep, some, member}
use Rattle.treap.specs.Levels.{rank, count, leader}
use Rattle.treap.specs.Blocks.{meets, blocks_met, blocks}
use Rattle.table.specs.Contents.{Contents, keys_in, priority_in, measure_in}
use Rattle.table_descend.specs.declared.Standing.{Standing}
use Rattle.table_descend.specs.declared.Looked.{Looked}

-- A key's "rank, count and leader" (01), and its measure, which "lookups carry" too (02, N4).
unfoldable pub standing_of : Contents → ℕ → Standing
standing_of c key =
    record {
      rank = rank c.order (priority_in c) (keys_in c) key;
      count = count c.order (priority_in c) (keys_in c) key;
      leader = leader c.order (priority_in c) (keys_in c) key;
      length = (measure_in c.entries key).length;
      correction = (measure_in c.entries key).correction;
    }

-- The standing of a key that is held. An absent key has no standing; the zeros are the reply's.
abbrev pub standing_if : Contents → ℕ → Option Standing
standing_if c key = cond (member key (keys_in c)) (Some (standing_of c key)) None

-- "Lookup gives held or absent, and rank, count and leader (zeros when absent). It also gives the number of different
-- blocks that hold the keys it compares on its way down."
unfoldable pub looked_up : Contents → ℕ → Looked
looked_up c key = record { standing = standing_if c key; blocks = blocks_met c.order (priority_in c) (keys_in c) key }

-- ---- lookups one after the other, for rising keys
-- The keys of the last lookup and of the one before it, where there are such: zero is no key.
unfoldable pub earlier : ℕ → ℕ → List ℕ
earlier last before = keep nonzero (last ∷ before ∷ [])

-- The number of blocks that a search for `key` meets and none for these keys does.
unfoldable pub newly_met : Contents → List ℕ → ℕ → ℕ
newly_met c keys key =
    length
    (keep (λ b. meets c.order (priority_in c) (keys_in c) key b && not (some (λ k. meets c.order (priority_in c) (keys_in c) k b) keys))
    (blocks c.order (priority_in c) (keys_in c)))

-- What a lookup finds after those of these keys, with the blocks that they did not meet.
unfoldable pub looked_up_after : Contents → List ℕ → ℕ → Looked
looked_up_after c keys key = record { standing = standing_if c key; blocks = newly_met c keys key }
