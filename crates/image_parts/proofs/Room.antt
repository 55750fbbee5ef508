-- What an output holds once bytes are written to it, by whether it has room for them. Assumes nothing.
use mathlib.Core.List.{List}
use mathlib.Core.Path.{◌≡◌}
use Prim.Native.Nat.{◌<◌, ◌≤◌, ℕ}
use lib.ListN.{length}
use borrow.Author.Tests.{le-leb, lt-leb}
use Rattle.lists.specs.Lists.{overwrite}
use Rattle.image_parts.specs.Written.{written_to}

pub written_short : (output bytes : List ℕ) → length output < length bytes → written_to output bytes ≡ output
unfolding written_to
written_short output bytes h = rw (lt-leb (length bytes) (length output) h)

pub written_whole : (output bytes : List ℕ) → length bytes ≤ length output → written_to output bytes ≡ overwrite output 0 bytes
unfolding written_to
written_whole output bytes h = rw (le-leb (length bytes) (length output) h)
