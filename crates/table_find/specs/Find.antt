-- The search for the slot of a key, from a number on: where it stops, and its answer. Assumes nothing.
use Rattle.std.specs.Prelude.{Bool, cond, ◌||◌, List, ◌≡◌, ℕ, ◌-◌, ◌<◌, eqb, ltb, Option, Some, None}
use Rattle.lists.specs.Lists.{first, up_from}
use Rattle.priority.specs.Priority.{home_of}
use Rattle.treap.specs.Slots.{probes}
use Rattle.table.specs.Layout.{key_in}

-- The slot "is empty or holds the key".
unfoldable pub stops_at : List ℕ → ℕ → ℕ → Bool
stops_at words key slot = eqb (key_in words slot) 0 || eqb (key_in words slot) key

-- "Handed any number, the search finds the first slot from that number's home on, slot 0 following the last, that is empty
-- or holds the key, or says that there is none": the number of slots where there is none.
unfoldable pub slot_found : ℕ → List ℕ → ℕ → ℕ → ℕ
slot_found many words key priority = first many (stops_at words key) (probes many (home_of priority many))

-- The answer for a slot out of so many; the number of slots stands for none.
unfoldable pub found_at : ℕ → ℕ → Option ℕ
found_at many slot = cond (ltb slot many) (Some slot) None

-- The search of so many slots of these words for a key, handed a number.
abbrev pub searched : ℕ → List ℕ → ℕ → ℕ → Option ℕ
searched many words key priority = found_at many (slot_found many words key priority)

-- Of the slots from one up to another, that one left out, the first that is empty or holds the key; only the contract of the inner
-- function `scan` cites it.
abbrev pub scanned : List ℕ → ℕ → ℕ → ℕ → Option ℕ
scanned words low high key = found_at high (first high (stops_at words key) (up_from low (high - low)))

-- The slot, of so many, holds the key, and no other does: it is the key's slot.
pub record OnlyAt (many : ℕ) (words : List ℕ) (key slot : ℕ) : Type 0 where
  pub below : slot < many
  pub holds : key_in words slot ≡ key
  pub only : (other : ℕ) → other < many → key_in words other ≡ key → other ≡ slot
