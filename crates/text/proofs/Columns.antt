-- Spaces, and text in columns. Assumes a text that its column holds, where it says so.
use mathlib.Core.List.{List}
use mathlib.Core.Path.{◌≡◌}
use Prim.Native.Nat.{ℕ, ◌-◌, ◌≤◌}
use native.Mathlib.Omega.{arith}
use lib.ListN.{length, length-append, length-replicate}
use Rattle.text.specs.Columns.{spaces, right_aligned}

pub spaces_length : (many : ℕ) → length (spaces many) ≡ many
spaces_length many = length-replicate many 32

-- a column is as wide as it is said to be
pub aligned_length : (width : ℕ) (text : List ℕ) → length text ≤ width → length (right_aligned width text) ≡ width
unfolding right_aligned
aligned_length width text h = simp length-append (omega (arith, spaces_length (width - length text)))
