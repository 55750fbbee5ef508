-- Text in columns. Assumes nothing.
use Rattle.std.specs.Prelude.{List, ◌++◌, ℕ, ◌-◌, length, replicate}

-- So many spaces: the code of a space in ASCII is 32.
abbrev pub spaces : ℕ → List ℕ
spaces many = replicate many 32

-- "Right-aligned with spaces" (02, N6): a text at the end of so many characters.
unfoldable pub right_aligned : ℕ → List ℕ → List ℕ
right_aligned width text = spaces (width - length text) ++ text
