-- The test whether a table is sound, for a given number of slots. Assumes nothing.
use Rattle.std.specs.Prelude.{Bool, ◌&&◌, List, ℕ}
use Rattle.lists.specs.Lists.{same, rises_b, every}
use Rattle.table.specs.Contents.{keys_in, table_order, right_measure}
use Rattle.table.specs.Table.{fresh, contents_of}

-- The order that the table shows is one that a table may have, no key stands in it twice, each measure is within the rules, and its words are
-- exactly those built afresh from what it shows. (A wrong measure is written as it was read, so that the words alone do not tell it.)
unfoldable pub sound_with : ℕ → List ℕ → Bool
sound_with many words =
    table_order (contents_of many words).order
    && (rises_b (keys_in (contents_of many words))
    && (every right_measure (contents_of many words).entries && same words (fresh many (contents_of many words))))
