-- The done mark as a number. Assumes nothing.
use mathlib.Core.Bool.{Bool, true, false}
use mathlib.Core.Path.{◌≡◌}
use mathlib.Core.Logic.{◌≢◌}
use Prim.Native.Nat.{ℕ}
use borrow.Author.Tests.{eq-eqb, ne_eqb}
use Rattle.btreap_structs.specs.Structs.{mark_after}

pub mark_going : (before : ℕ) → (done : Bool) → done ≡ false → 0 ≡ mark_after before done
unfolding mark_after
mark_going before done going = rw going

pub mark_kept : (before : ℕ) → (done : Bool) → done ≡ true → before ≢ 0 → before ≡ mark_after before done
unfolding mark_after
mark_kept before done ended given = rw (ended, ne_eqb before 0 given)

pub mark_set : (before : ℕ) → (done : Bool) → done ≡ true → before ≡ 0 → 1 ≡ mark_after before done
unfolding mark_after
mark_set before done ended none = rw (ended, eq-eqb before 0 none)
