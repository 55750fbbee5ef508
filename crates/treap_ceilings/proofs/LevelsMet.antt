-- A search meets at most as many blocks as the root's rank, or one: its blocks are its levels, which never rise, begin at the root's rank and,
-- where that is not 0, are at least 1. Assumes an order of at least 2 and rising keys.
use mathlib.Core.Bool.{true}
use mathlib.Core.List.{List, map}
use mathlib.Core.Path.{◌≡◌}
use Prim.Native.Nat.{ℕ, suc, max, ◌+◌, ◌<◌, ◌≤◌}
use native.Mathlib.Omega.{arith}
use lib.Dec.{eqb, ltb}
use borrow.Author.Tests.{ltb-true, ltb-false, eqb-true, eqb-false}
use Rattle.lists.specs.Lists.{member, Rising}
use Rattle.lists.proofs.Tests.{by_test}
use Rattle.lists.proofs.Keep.{all_map, all_mapped}
use Rattle.lists.proofs.Pairwise.{pairwise_mapped}
use Rattle.lists.proofs.Changes.{distinct_few}
use Rattle.treap.specs.Treap.{path, top, treap}
use Rattle.treap.specs.Blocks.{root_rank, blocks_met}
use Rattle.treap_structure.proofs.Blocks.{block_level, level_of_root, level_of_other, level_high}
use Rattle.treap_structure.proofs.SearchPath.{path_keys, path_levels_fall, blocks_met_is}

module _ (α : ℕ) (p : ℕ → ℕ) (wide : 2 ≤ α) (ks : List ℕ) (rising : Rising ks) where
  level_some : (x : ℕ) → 1 ≤ root_rank α p ks → 1 ≤ block_level α p ks x
  level_some x h =
      by_test (eqb x (top p ks))
      (λ e. omega (arith, level_of_root α p ks wide rising x (eqb-true x (top p ks) e)))
      (λ e. omega (arith, level_of_other α p ks wide rising x (eqb-false x (top p ks) e)))

  met_from : (low : ℕ) (v : ℕ) → low ≤ root_rank α p ks → ((x : ℕ) → low ≤ block_level α p ks x) → blocks_met α p ks v + low ≤ suc (root_rank α p ks)
  met_from low v h above =
      let xs = path v (treap p ks) in
      rw (blocks_met_is α p wide ks rising v)
      (distinct_few low (suc (root_rank α p ks)) (map (block_level α p ks) xs) (omega arith)
      (all_mapped (λ i. (low ≤ i) × (i < suc (root_rank α p ks))) (block_level α p ks) xs
      (all_map (λ x. member x ks ≡ true) (λ x. (low ≤ block_level α p ks x) × (block_level α p ks x < suc (root_rank α p ks)))
      (λ x m. (above x, omega (arith, level_high α p ks wide rising x m))) xs (path_keys α p wide ks rising v)))
      (pairwise_mapped (λ i j. j ≤ i) (block_level α p ks) xs (path_levels_fall α p wide ks rising v)))

  pub met_at_most : (v : ℕ) → blocks_met α p ks v ≤ max 1 (root_rank α p ks)
  met_at_most v =
      by_test (ltb 0 (root_rank α p ks))
      (λ e. let some = ltb-true 0 (root_rank α p ks) e in omega (arith, met_from 1 v some (λ x. level_some x some)))
      (λ e. let none = ltb-false 0 (root_rank α p ks) e in omega (arith, met_from 0 v (omega arith) (λ x. omega arith)))
