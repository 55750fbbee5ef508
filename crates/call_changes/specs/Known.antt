-- A table that is known to be sound, with lists of its keys and of the tags of their measures: judged once, it can be changed again and again.
-- Assumes nothing.
use Rattle.std.specs.Prelude.{Bool, true, false, List, ◌≡◌, ℕ, ◌<◌, ◌≤◌, length, take, Result, Ok, Err}
use Rattle.lists.specs.Lists.{member}
use Rattle.table.specs.Layout.{most_slots, table_words}
use Rattle.table.specs.Contents.{Entry, Contents, keys_in}
use Rattle.table.specs.Tags.{tags_in}
use Rattle.table.specs.Table.{contents_of}
use Rattle.table.specs.Sound.{sound_with}
use Rattle.call_replies.specs.declared.Refusal.{Refusal}
use Rattle.call_replies.specs.declared.Refusal.TheVariants.{NotSound}

-- A sound table of so many slots, its keys, rising, at the start of a list, and the tags of their measures at the start of another.
pub record Known (many : ℕ) (words keys tags : List ℕ) : Type 0 where
  pub some : 0 < many
  pub most : many ≤ most_slots
  pub long : length words ≡ table_words many
  pub sound : sound_with many words ≡ true
  pub listed : take (length (keys_in (contents_of many words))) keys ≡ keys_in (contents_of many words)
  pub measured : take (length (keys_in (contents_of many words))) tags ≡ tags_in (contents_of many words)

-- What judging a table answers, by whether it is sound.
abbrev pub sound_or_refused : Bool → Result Unit Refusal
sound_or_refused true = Ok tt
sound_or_refused false = Err NotSound

-- The list has room for a key that can be inserted.
abbrev pub RoomFor : ℕ → ℕ → List ℕ → List ℕ → Type 0
RoomFor key many words keys =
    member key (keys_in (contents_of many words)) ≡ false → length (keys_in (contents_of many words)) < many
    → length (keys_in (contents_of many words)) < length keys

-- The order and the salt that a table of so many slots shows, with these entries.
abbrev pub with_entries : ℕ → List ℕ → List Entry → Contents
with_entries many words entries = record { order = (contents_of many words).order; salt = (contents_of many words).salt; entries = entries }
