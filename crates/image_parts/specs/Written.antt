-- What an output holds once an image is written to it. Assumes nothing.
use Rattle.std.specs.Prelude.{cond, List, ℕ, leb, length}
use Rattle.lists.specs.Lists.{overwrite}

-- A list once bytes are written to its start, where it has room for them; else as it is. The writer "changes no later output byte",
-- and refuses where "the output slice is shorter than the output".
unfoldable pub written_to : List ℕ → List ℕ → List ℕ
written_to output bytes = cond (leb (length bytes) (length output)) (overwrite output 0 bytes) output
