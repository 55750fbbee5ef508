-- Whether the key at an index is measured, from the length that was looked up. Assumes nothing.
use mathlib.Core.Bool.{true, false}
use mathlib.Core.List.{List}
use mathlib.Core.Logic.{◌≢◌}
use mathlib.Core.Path.{◌≡◌, sym}
use Prim.Native.Nat.{ℕ}
use lib.ListN.{get_or}
use borrow.Author.Tests.{eq-eqb, ne_eqb}
use Rattle.measure.specs.Tag.{length_in}
use Rattle.image_parts.specs.Parts.{measured_at}

module _ (tags : List ℕ) (i long : ℕ) (e : long ≡ length_in (get_or tags i 0)) where
  pub measured_when : long ≢ 0 → measured_at tags i ≡ true
  unfolding measured_at
  measured_when d = rw (sym e, ne_eqb long 0 d)

  pub measured_not : long ≡ 0 → measured_at tags i ≡ false
  unfolding measured_at
  measured_not n = rw (sym e, eq-eqb long 0 n)
