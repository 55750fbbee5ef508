-- The keys of a range. Assumes nothing.
use Rattle.std.specs.Prelude.{List, ℕ}
use Rattle.lists.specs.Lists.{lies, keep}

-- "the held keys from low to high, both included, rising"
unfoldable pub within : ℕ → ℕ → List ℕ → List ℕ
within low high keys = keep (lies low high) keys
