-- The root's rank is that of its own rule in the fold, and at most the ceiling; it is the ceiling where the treap has no branches, and above zero
-- of two keys and more. Assumes an order of at least 2 and rising keys.
use mathlib.Core.List.{List}
use mathlib.Core.Path.{◌≡◌, refl, ap, ◌∙◌, subst}
use Prim.Native.Nat.{ℕ, ◌+◌, ◌-◌, ◌≤◌}
use native.Mathlib.Omega.{arith}
use lib.ListN.{length}
use borrow.Author.Tests.{lt-ltb}
use Rattle.lists.specs.Lists.{rounded_up, Rising}
use Rattle.lists.proofs.Membership.{eqb_same, a_member}
use Rattle.treap.specs.Treap.{Tree, root_key, treap}
use Rattle.treap.specs.Treap.Tree.{leaf, node}
use Rattle.treap.specs.Levels.{rank}
use Rattle.treap.specs.Blocks.{root_rank}
use Rattle.treap_structure.proofs.Shape.{size, treap_size}
use Rattle.treap_structure.proofs.Fold.{root_standing}
use Rattle.treap_structure.proofs.Ranks.{standing_in, rank_is}
use Rattle.treap_structure.proofs.Ancestors.{root_key_lem}
use Rattle.treap_structure.proofs.Blocks.{top_is_root}
use Rattle.treap_ceilings.specs.Ceiling.{rank_ceiling}
use Rattle.treap_ceilings.proofs.RankSizes.{Narrow, root_at_most, narrow_root}

module _ (α : ℕ) (p : ℕ → ℕ) (wide : 2 ≤ α) (ks : List ℕ) (rising : Rising ks) where
  pub root_rank_is : 1 ≤ length ks → root_rank α p ks ≡ (root_standing α (treap p ks)).rank
  unfolding root_rank standing_in
  root_rank_is some =
      let (x, m) = a_member ks some in
      let root = root_key (treap p ks) in
      ap (rank α p ks) (top_is_root p ks rising x m) ∙ rank_is α p wide ks rising root (root_key_lem α p wide ks rising x m) ∙ rw (eqb_same root) refl

  -- what holds of a tree of as many keys holds of the treap
  of_tree : (P : Tree → Type 0) → ((t : Tree) → size t ≡ length ks → P t) → P (treap p ks)
  of_tree P h = h (treap p ks) (treap_size p ks rising)

  pub root_below_ceiling : 1 ≤ length ks → root_rank α p ks ≤ rank_ceiling α (length ks)
  unfolding rank_ceiling
  root_below_ceiling some = rw (root_rank_is some) (of_tree (λ t. (root_standing α t).rank ≤ rounded_up (length ks - 1) (α - 1)) below)
    where
      below : (t : Tree) → size t ≡ length ks → (root_standing α t).rank ≤ rounded_up (length ks - 1) (α - 1)
      below leaf e = omega arith
      below (node l k r) e = subst (λ (n : ℕ). (root_standing α (node l k r)).rank ≤ rounded_up n (α - 1)) (omega arith) (root_at_most α wide l k r)

  -- it is the ceiling where the treap has no branches
  pub narrow_at_ceiling : 1 ≤ length ks → Narrow (treap p ks) → root_rank α p ks ≡ rank_ceiling α (length ks)
  unfolding rank_ceiling
  narrow_at_ceiling some narrow = root_rank_is some ∙ of_tree (λ t. Narrow t → (root_standing α t).rank ≡ rounded_up (length ks - 1) (α - 1)) at narrow
    where
      at : (t : Tree) → size t ≡ length ks → Narrow t → (root_standing α t).rank ≡ rounded_up (length ks - 1) (α - 1)
      at leaf e h = absurd (omega arith)
      at (node l k r) e h = narrow_root α wide l k r h ∙ ap (λ (n : ℕ). rounded_up n (α - 1)) (omega arith)

  -- of two keys and more it is above zero
  pub root_rank_some : 2 ≤ length ks → 1 ≤ root_rank α p ks
  root_rank_some many = rw (root_rank_is (omega arith)) (of_tree (λ t. 1 ≤ (root_standing α t).rank) some)
    where
      some : (t : Tree) → size t ≡ length ks → 1 ≤ (root_standing α t).rank
      some leaf e = absurd (omega arith)
      some (node l k r) e = rw (lt-ltb 0 (size l + size r) (omega arith)) (omega arith)
