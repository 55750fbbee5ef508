-- Text in its place in an output. Assumes nothing.
use Rattle.std.specs.Prelude.{List, ◌≡◌, ℕ, ◌+◌, length}
use Rattle.lists.specs.Lists.{overwrite}

-- The text stands in the output from index `at` on and ends at index `end`; all else is as it was before.
pub record Written (before : List ℕ) (at : ℕ) (text after : List ℕ) (end : ℕ) : Type 0 where
  pub holds : after ≡ overwrite before at text
  pub ends : end ≡ at + length text
