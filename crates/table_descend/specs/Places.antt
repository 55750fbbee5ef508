-- The places that the way down comes to. Assumes nothing.
use Rattle.std.specs.Prelude.{true, List, ◌≡◌, ℕ}
use Rattle.lists.specs.Lists.{member}
use Rattle.treap_structure.proofs.Blocks.{block_level}
use Rattle.table.specs.Contents.{keys_in, priority_in}
use Rattle.table.specs.Table.{contents_of}
use Rattle.table_entries.specs.Steps.{InSlot}
use Rattle.table_descend.specs.declared.Place.{Place}

-- The words are a sound table of so many slots that holds the place's key, in its slot, and its level is that of the key's block.
pub record Placed (many : ℕ) (words : List ℕ) (place : Place) : Type 0 where
  pub held : member place.key (keys_in (contents_of many words)) ≡ true
  pub in_slot : InSlot many words place.key place.slot
  pub level_is : place.level ≡ block_level (contents_of many words).order (priority_in (contents_of many words)) (keys_in (contents_of many words)) place.key
