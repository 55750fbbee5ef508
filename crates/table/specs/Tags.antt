-- A set's measures as the code has them: a list of tags beside the list of keys. Assumes nothing.
use Rattle.std.specs.Prelude.{true, List, map, ◌≡◌, ℕ, length}
use Rattle.lists.specs.Lists.{All}
use Rattle.measure.specs.Tag.{tag_of, measure_at, is_tag}
use Rattle.table.specs.Contents.{Entry, Contents, entries_with}

-- The tags of entries, and those of a set.
abbrev pub entry_tags : List Entry → List ℕ
entry_tags entries = map (λ e. tag_of e.measure) entries

abbrev pub tags_in : Contents → List ℕ
tags_in c = entry_tags c.entries

-- Keys with the measures of the tags beside them, and the set of these with an order and a salt.
abbrev pub entries_tagged : List ℕ → List ℕ → List Entry
entries_tagged keys tags = entries_with keys (map measure_at tags)

abbrev pub tagged : ℕ → ℕ → List ℕ → List ℕ → Contents
tagged order salt keys tags = record { order = order; salt = salt; entries = entries_tagged keys tags }

-- Tags that can stand beside keys: as many, each of a measure within the rules.
pub record Beside (keys tags : List ℕ) : Type 0 where
  pub as_many : length tags ≡ length keys
  pub right : All (λ t. is_tag t ≡ true) tags
