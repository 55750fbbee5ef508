-- The least key of a range. Assumes nothing.
use Rattle.std.specs.Prelude.{Option, Some, None, ◌≡◌, ◌≤◌, cond, ◌&&◌, ◌||◌, List, ℕ, eqb, ltb}
use Rattle.lists.specs.Lists.{first, lies, nonzero}

-- "the least held key from next to high": of rising keys the first that lies there; zero where none does.
unfoldable pub least_within : ℕ → ℕ → List ℕ → ℕ
least_within low high keys = first 0 (lies low high) keys

-- Of the least key found and a word of a slot, the least; zero stands for no key.
unfoldable pub lesser : ℕ → ℕ → ℕ → ℕ → ℕ
lesser low high least key = cond (nonzero key && (lies low high key && (eqb least 0 || ltb key least))) key least

-- The answer for a number that is zero where there is no key.
abbrev pub IsOrZero : Option ℕ → ℕ → Type 0
IsOrZero (Some key) n = (key ≡ n) × (1 ≤ key)
IsOrZero None n = n ≡ 0
