-- Every block but the root's has exactly one parent, of a higher level; the root's has none. Assumes an order of at least
-- 2 and rising keys.
use mathlib.Core.Bool.{true, false, ◌&&◌}
use mathlib.Core.List.{List, [], ◌∷◌}
use mathlib.Core.Logic.{◌⊎◌, inl, inr}
use mathlib.Core.Path.{◌≡◌, refl, sym, subst}
use Prim.Native.Nat.{ℕ, suc, ◌<◌, ◌≤◌}
use native.Mathlib.Omega.{arith}
use lib.Dec.{eqb}
use lib.ListN.{length}
use borrow.Author.Tests.{eqb-true, eqb-false}
use Rattle.lists.specs.Lists.{member, All, Rising}
use Rattle.lists.proofs.Tests.{by_test, and_left, and_right}
use Rattle.lists.proofs.Keep.{all_map, some_kept}
use Rattle.lists.proofs.Membership.{all_of_members}
use Rattle.treap.specs.Treap.{top}
use Rattle.treap.specs.Levels.{rank, leader}
use Rattle.treap.specs.Blocks.{Block, root_rank, root_block, block, blocks, is_root_block, parents}
use Rattle.treap_structure.proofs.Blocks.{block_level, block_of, Formed, blocks_formed, root_is_root, below_is_not_root, led, level_of_root, level_of_other, level_under, holding_is}
use Rattle.treap_structure.proofs.Blocks.Formed.{at_root, below}

module _ (α : ℕ) (p : ℕ → ℕ) (wide : 2 ≤ α) (ks : List ℕ) (rising : Rising ks) where
  pub parents_of_root : parents α p ks (root_block α p ks) ≡ []
  unfolding parents
  parents_of_root = rw (root_is_root α p ks)

  pub level_of_block : (x : ℕ) → (block_of α p ks x).level ≡ block_level α p ks x
  unfolding block_of root_block block
  level_of_block x =
      by_test (eqb (block_level α p ks x) (root_rank α p ks))
      (λ e. rw e (sym (eqb-true (block_level α p ks x) (root_rank α p ks) e)))
      (λ e. rw e refl)

  -- a leader's block is of a higher level than the blocks that it names below the root's
  leader_level : (i v : ℕ) → i < root_rank α p ks → 0 < length (block α p ks i v).held → i < block_level α p ks v
  unfolding block
  leader_level i v h s =
      let (x, m, t) = some_kept (λ y. eqb (suc (rank α p ks y)) i && eqb (leader α p ks y) v) (λ y. member y ks ≡ true) ks (all_of_members (λ y. member y ks ≡ true) ks (λ y n. n)) s in
      let level = eqb-true (suc (rank α p ks x)) i (and_left (eqb (suc (rank α p ks x)) i) (eqb (leader α p ks x) v) t) in
      let leads = eqb-true (leader α p ks x) v (and_right (eqb (suc (rank α p ks x)) i) (eqb (leader α p ks x) v) t) in
      let apart = (level_under α p ks wide rising x i m level h).0 in
      let higher : rank α p ks x < rank α p ks v = subst (λ (z : ℕ). rank α p ks x < rank α p ks z) leads (led α p ks wide rising x m apart).higher_rank in
      by_test (eqb v (top p ks))
      (λ e. omega (arith, level_of_root α p ks wide rising v (eqb-true v (top p ks) e)))
      (λ e. omega (arith, level_of_other α p ks wide rising v (eqb-false v (top p ks) e)))

  -- A block that is the root's and has no parent, or is another and has one, of a higher level.
  abbrev pub Parented : Block → Type 0
  Parented b =
      ((is_root_block α p ks b ≡ true) × (parents α p ks b ≡ []))
      ⊎ ((is_root_block α p ks b ≡ false) × ((parent : Block) × (parents α p ks b ≡ parent ∷ []) × (b.level < parent.level)))

  pub blocks_parented : All Parented (blocks α p ks)
  unfolding parents block
  blocks_parented = all_map (Formed α p ks) Parented parented (blocks α p ks) (blocks_formed α p ks)
    where
      parented : (b : Block) → Formed α p ks b → Parented b
      parented b at_root = inl (root_is_root α p ks, parents_of_root)
      parented b (below i v l h m s) =
          let other = below_is_not_root α p ks i v h in
          let level = leader_level i v h s in
          inr (other, (block_of α p ks v, rw other (holding_is α p ks wide rising v m), rw (level_of_block v) level))
