-- What examining a table finds. Assumes nothing.
use Rattle.std.specs.Prelude.{cond, List, ℕ, length, Option, Some, None}
use Rattle.table.specs.Contents.{keys_in}
use Rattle.table.specs.Table.{contents_of}
use Rattle.table.specs.Sound.{sound_with}

-- What examining a table of so many slots finds: how many keys it holds, where it is sound.
unfoldable pub verdict_of : ℕ → List ℕ → Option ℕ
verdict_of many words = cond (sound_with many words) (Some (length (keys_in (contents_of many words)))) None
