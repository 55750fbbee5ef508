-- What recognizing an image finds. Assumes nothing.
use Rattle.std.specs.Prelude.{cond, Option, Some, None, List, ℕ, length}
use Rattle.table.specs.Contents.{keys_in}
use Rattle.image.specs.Image.{read_image, is_image}

-- How many keys an image shows, where the bytes are one.
unfoldable pub recognized : List ℕ → Option ℕ
recognized bytes = cond (is_image bytes) (Some (length (keys_in (read_image bytes)))) None
