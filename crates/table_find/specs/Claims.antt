-- What is claimed of the slot search (document 02, N3), in any words and in a sound table; `proofs/Claims` proves it. Assumes nothing.
use Rattle.std.specs.Prelude.{true, false, List, ◌⊎◌, ◌≢◌, ◌≡◌, ℕ, ◌+◌, ◌%◌, ◌<◌, Option, Some, None}
use Rattle.lists.specs.Lists.{member}
use Rattle.priority.specs.Priority.{home_of}
use Rattle.table.specs.Layout.{key_in}
use Rattle.table.specs.Table.{Sound}
use Rattle.table_find.specs.Find.{searched, OnlyAt}
use Rattle.table.specs.Contents.{keys_in, priority_in}

-- The slot so many steps "from that number's home on, slot 0 following the last".
unfoldable pub slot_from : ℕ → ℕ → ℕ → ℕ
slot_from many priority steps = (home_of priority many + steps) % many

-- The slot "is empty or holds the key".
abbrev pub Stops : List ℕ → ℕ → ℕ → Type 0
Stops words key slot = (key_in words slot ≡ 0) ⊎ (key_in words slot ≡ key)

-- "The first slot from that number's home on, slot 0 following the last, that is empty or holds the key": it is so many steps on, and no slot
-- fewer steps on is empty or holds the key.
pub record FirstFrom (many : ℕ) (words : List ℕ) (key priority slot : ℕ) : Type 0 where
  pub steps : ℕ
  pub within : steps < many
  pub there : slot_from many priority steps ≡ slot
  pub stops : Stops words key slot
  pub passed : (fewer : ℕ) → fewer < steps → Stops words key (slot_from many priority fewer) → ⊥

-- What an answer tells: "the first slot", "or .. that there is none".
unfoldable pub TellsFirst : ℕ → List ℕ → ℕ → ℕ → Option ℕ → Type 0
TellsFirst many words key priority (Some slot) = FirstFrom many words key priority slot
TellsFirst many words key priority None = (slot : ℕ) → slot < many → Stops words key slot → ⊥

-- The answer is "that key's slot", the only one that holds it.
unfoldable pub TellsItsSlot : ℕ → List ℕ → ℕ → Option ℕ → Type 0
TellsItsSlot many words key (Some slot) = OnlyAt many words key slot
TellsItsSlot many words key None = ⊥

-- The answer is one of the slots, an empty one; or none, and then none is empty.
unfoldable pub TellsNoKey : ℕ → List ℕ → Option ℕ → Type 0
TellsNoKey many words (Some slot) = (slot < many) × (key_in words slot ≡ 0)
TellsNoKey many words None = (slot : ℕ) → slot < many → key_in words slot ≢ 0

pub record Search : Type 0 where
  -- "Handed any number, the search finds the first slot from that number's home on, slot 0 following the last, that is empty or holds the
  -- key, or says that there is none": in any words, however many slots are searched, and for any key.
  pub any_number : (many : ℕ) → 0 < many → (words : List ℕ) (key priority : ℕ)
      → TellsFirst many words key priority (searched many words key priority)
  -- "In a sound table, handed a held key's own priority, it finds that key's slot."
  pub held_key : (words : List ℕ) (sound : Sound words) (key : ℕ) → member key (keys_in sound.contents) ≡ true
      → TellsItsSlot sound.many words key (searched sound.many words key (priority_in sound.contents key))
  -- for a key that a sound table does not hold, handed any number, it ends at an empty slot or says that there is none
  pub absent_key : (words : List ℕ) (sound : Sound words) (key priority : ℕ) → member key (keys_in sound.contents) ≡ false
      → TellsNoKey sound.many words (searched sound.many words key priority)
