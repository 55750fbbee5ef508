-- The runs of one weight in a list of indices. Assumes nothing.
use Rattle.std.specs.Prelude.{List, ◌∷◌, ◌≡◌, ℕ, ◌<◌, ◌≤◌, length, drop}
use Rattle.std.proofs.Math.Seq.{slice}
use Rattle.lists.specs.Lists.{runs}
use Rattle.image_blocks.specs.Naming.{same_weight}

-- The run of one weight that begins at index `low` of the list ends before index `high`.
pub record RunEnds (weights sorted : List ℕ) (low high : ℕ) : Type 0 where
  pub some : low < high
  pub within : high ≤ length sorted
  pub first : runs (same_weight weights) (drop low sorted) ≡ slice low high sorted ∷ runs (same_weight weights) (drop high sorted)
