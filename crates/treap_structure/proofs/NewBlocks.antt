-- The blocks that a search meets and that pass a test: as many as the keys on its way whose blocks pass have different levels, and so as many as
-- there are changes of level to such keys. Assumes an order of at least 2 and rising keys.
use mathlib.Core.Bool.{Bool, true, cond, ◌&&◌}
use mathlib.Core.List.{List, ◌∷◌, map}
use mathlib.Core.Path.{◌≡◌, sym, ap, ◌∙◌, subst}
use Prim.Native.Nat.{ℕ, ◌+◌, ◌≤◌}
use lib.ListN.{length}
use Rattle.lists.specs.Lists.{keep, some, member, distinct, Pairwise, Rising}
use Rattle.lists.proofs.Tests.{same_test, and_both, and_left, and_right}
use Rattle.lists.proofs.Keep.{all_map, all_always, all_keep, keep_same}
use Rattle.lists.proofs.Membership.{member-keep, some_when, some_says}
use Rattle.lists.proofs.Pairwise.{pairwise_keep, pairwise_map}
use Rattle.lists.proofs.Changes.{changes, changes_count}
use Rattle.treap.specs.Treap.{path, treap}
use Rattle.treap.specs.Blocks.{Block, blocks, meets}
use Rattle.treap_structure.proofs.Blocks.{block_level, block_of}
use Rattle.treap_structure.proofs.SearchPath.{path_keys, SameBlock, path_levels_fall, path_level_block, Owned, owners, holds_some, met_levels}

module _ (α : ℕ) (p : ℕ → ℕ) (wide : 2 ≤ α) (ks : List ℕ) (rising : Rising ks) (f : Block → Bool) where
  -- The test of a key: that of its block.
  abbrev pub passes : ℕ → Bool
  passes x = f (block_of α p ks x)

  abbrev sieved : ℕ → List ℕ
  sieved v = keep passes (path v (treap p ks))

  -- a block that passes holds a key of the path exactly when it holds one that passes
  same_holders : (v : ℕ) (b : Block) → Owned α p wide ks rising (path v (treap p ks)) b → (meets α p ks v b && f b) ≡ holds_some α p wide ks rising (sieved v) b
  unfolding meets holds_some
  same_holders v b owner =
      same_test (some (λ x. member x b.held) (path v (treap p ks)) && f b) (some (λ x. member x b.held) (sieved v))
      (λ e.
      let (x, m, h) = some_says (λ x. member x b.held) (path v (treap p ks)) (and_left (some (λ x. member x b.held) (path v (treap p ks))) (f b) e) in
      some_when (λ x. member x b.held) (sieved v) x
      (member-keep passes x (path v (treap p ks))
      ∙ and_both (passes x) (member x (path v (treap p ks))) (ap f (sym (owner x m h)) ∙ and_right (some (λ x. member x b.held) (path v (treap p ks))) (f b) e) m)
      h)
      (λ e.
      let (x, i, h) = some_says (λ x. member x b.held) (sieved v) e in
      let both = sym (member-keep passes x (path v (treap p ks))) ∙ i in
      let m = and_right (passes x) (member x (path v (treap p ks))) both in
      and_both (some (λ x. member x b.held) (path v (treap p ks))) (f b) (some_when (λ x. member x b.held) (path v (treap p ks)) x m h)
      (ap f (owner x m h) ∙ and_left (passes x) (member x (path v (treap p ks))) both))

  pub new_blocks : (v : ℕ) → length (keep (λ b. meets α p ks v b && f b) (blocks α p ks)) ≡ length (distinct (map (block_level α p ks) (sieved v)))
  new_blocks v =
      ap length (keep_same (λ b. meets α p ks v b && f b) (holds_some α p wide ks rising (sieved v)) (blocks α p ks)
      (all_map (Owned α p wide ks rising (path v (treap p ks))) (λ b. (meets α p ks v b && f b) ≡ holds_some α p wide ks rising (sieved v) b) (same_holders v) (blocks α p ks)
      (owners α p wide ks rising (path v (treap p ks)) (path_keys α p wide ks rising v))))
      ∙ met_levels α p wide ks rising (sieved v) (all_keep (λ x. member x ks ≡ true) passes (path v (treap p ks)) (path_keys α p wide ks rising v))
      (pairwise_keep (SameBlock α p wide ks rising) passes (path v (treap p ks)) (path_level_block α p wide ks rising v))

  -- along a path that begins with a key, they are the key's own, where it passes, and one for each change to a level whose keys pass
  pub new_blocks_change : (v x : ℕ) (xs : List ℕ) → path v (treap p ks) ≡ x ∷ xs
      → length (keep (λ b. meets α p ks v b && f b) (blocks α p ks)) ≡ cond (passes x) 1 0 + changes (block_level α p ks) passes (block_level α p ks x) xs
  new_blocks_change v x xs e =
      new_blocks v
      ∙ ap (λ (ys : List ℕ). length (distinct (map (block_level α p ks) (keep passes ys)))) e
      ∙ changes_count (block_level α p ks) passes x xs (subst (Pairwise _) e (path_levels_fall α p wide ks rising v))
      (subst (Pairwise _) e
      (pairwise_map (λ y. Unit {0}) (SameBlock α p wide ks rising) (λ y z. block_level α p ks y ≡ block_level α p ks z → passes y ≡ passes z) (λ y z _ _ s l. ap f (s l)) (path v (treap p ks))
      (all_always (λ y. Unit {0}) (λ y. tt) (path v (treap p ks))) (path_level_block α p wide ks rising v)))
