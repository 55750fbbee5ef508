-- The bytes of the records of keys, one after the other, by the lengths that the keys have, whatever makes them. Assumes nothing.
use mathlib.Core.List.{List, [], ◌∷◌, flat_map}
use mathlib.Core.Path.{◌≡◌, refl}
use Prim.Native.Nat.{ℕ, ◌+◌, ◌*◌}
use native.Mathlib.Omega.{arith}
use lib.Dec.{eqb}
use lib.ListN.{length, length-append}
use Rattle.lists.specs.Lists.{keep, nonzero}
use Rattle.lists.proofs.Tests.{by_test}
use Rattle.image.specs.Layout.{node_bytes, measure_bytes, record_bytes}

module _ (node : ℕ → List ℕ) (long : ℕ → ℕ) (sized : (x : ℕ) → length (node x) ≡ record_bytes (long x)) where
  pub nodes_length : (xs : List ℕ) → length (flat_map node xs) ≡ node_bytes * length xs + measure_bytes * length (keep (λ x. nonzero (long x)) xs)
  unfolding flat_map
  nodes_length [] = refl
  nodes_length (x ∷ xs) =
      let both = length-append (node x) (flat_map node xs) in
      let first = sized x in
      let later = nodes_length xs in
      by_test (eqb (long x) 0)
      (λ e. let plain : length (node x) ≡ node_bytes = rw e at first in rw e (omega arith))
      (λ e. let more : length (node x) ≡ node_bytes + measure_bytes = rw e at first in rw e (omega arith))
