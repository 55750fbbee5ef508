-- Each level up to the root's has a block, so that there are at least as many blocks as the root's rank. Assumes an order of at least 2 and rising
-- keys.
use mathlib.Core.Bool.{true}
use mathlib.Core.List.{List}
use mathlib.Core.Logic.{◌⊎◌, ◌≢◌, inl, inr, ⊎_elim}
use mathlib.Core.Path.{◌≡◌, refl, sym, ap, ◌∙◌}
use Prim.Native.Nat.{ℕ, zero, suc, pred, max, ◌<◌, ◌≤◌}
use native.Mathlib.Omega.{arith}
use lib.Dec.{eqb, ltb}
use lib.ListN.{length}
use borrow.Author.Tests.{ltb-true, ltb-false, lt-ltb, lt-leb, eqb-true, eqb-false, eq-eqb}
use Rattle.lists.specs.Lists.{keep, member, Rising, falling_from}
use Rattle.lists.proofs.Tests.{by_test}
use Rattle.lists.proofs.Keep.{all_map, length-keep}
use Rattle.lists.proofs.Membership.{all_member}
use Rattle.lists.proofs.FlatMap.{length-flat_map-some, length_falling, falling_within}
use Rattle.treap.specs.Treap.{Tree, keys, root_key, subtree, treap}
use Rattle.treap.specs.Treap.Tree.{leaf, node}
use Rattle.treap.specs.Levels.{rank}
use Rattle.treap.specs.Blocks.{root_rank, blocks_of_level, blocks}
use Rattle.treap_structure.proofs.Shape.{size, keys_root, Good, lesser_below, greater_above, treap_good, treap_size}
use Rattle.treap_structure.proofs.Subtrees.{root_subtree, subtree_root, subtree_left, subtree_right}
use Rattle.treap_structure.proofs.Fold.{Standing, standing, raise_rank_high, standing_rank_size, root_rank_over, larger, none_stands}
use Rattle.treap_structure.proofs.Ranks.{standing_other, rank_is}
use Rattle.treap_structure.proofs.Paths.{left_member, right_member}
use Rattle.treap_structure.proofs.Leaders.{treap_member}
use Rattle.treap_structure.proofs.Blocks.{block_level, level_under, holding_level}
use Rattle.treap_ceilings.proofs.RootRank.{root_rank_is}

-- ---- each rank up to that of a tree's root is some key's
module _ (α : ℕ) (wide : 2 ≤ α) where
  lone_rank : (l : Tree) (k : ℕ) (r : Tree) → size l ≡ 0 → size r ≡ 0 → (standing α (node l k r)).rank ≡ 0
  lone_rank l k r a b = rw (none_stands α l a, none_stands α r b, lt-leb α 1 wide) refl

  -- a lower rank than the root's is no higher than that of some child
  child_of_rank : (l : Tree) (k : ℕ) (r : Tree) (j : ℕ) → j < (standing α (node l k r)).rank
      → ((0 < size l) × (j ≤ (standing α l).rank)) ⊎ ((0 < size r) × (j ≤ (standing α r).rank))
  child_of_rank l k r j h =
      let high = raise_rank_high α (standing α l) (standing α r) in
      let left = standing_rank_size α l in
      let right = standing_rank_size α r in
      by_test (ltb 0 (size l))
      (λ e.
      let some = ltb-true 0 (size l) e in
      by_test (ltb 0 (size r))
      (λ f.
      let also = ltb-true 0 (size r) f in
      ⊎_elim (λ q. inl (some, omega arith)) (λ q. inr (also, omega arith)) (larger (standing α l).rank (standing α r).rank))
      (λ f. let none = ltb-false 0 (size r) f in inl (some, omega arith)))
      (λ e.
      let none = ltb-false 0 (size l) e in
      by_test (ltb 0 (size r))
      (λ f. let some = ltb-true 0 (size r) f in inr (some, omega arith))
      (λ f. let nor = ltb-false 0 (size r) f in absurd (omega (arith, lone_rank l k r (omega arith) (omega arith)))))

  module _ (p : ℕ → ℕ) where
    OfRank : Tree → ℕ → Type 0
    OfRank t j = (x : ℕ) × (member x (keys t) ≡ true) × ((standing α (subtree x t)).rank ≡ j)

    some_of_rank : (t : Tree) → Good p t → 0 < size t → (j : ℕ) → j ≤ (standing α t).rank → OfRank t j
    unfolding OfRank
    some_of_rank leaf g some j h = absurd (omega arith)
    some_of_rank (node l k r) g some j h =
        let left = some_of_rank l g.2 in
        let right = some_of_rank r g.3 in
        by_test (eqb j (standing α (node l k r)).rank)
        (λ e. (k, keys_root l k r, ap (λ s. (standing α s).rank) (subtree_root l k r) ∙ sym (eqb-true j (standing α (node l k r)).rank e)))
        (λ e.
        let d : j ≢ (standing α (node l k r)).rank = eqb-false j (standing α (node l k r)).rank e in
        ⊎_elim
        (λ c.
        let (x, m, q) = left c.0 j c.1 in
        (x, left_member x l k r m, ap (λ s. (standing α s).rank) (subtree_left l k r x (all_member (λ z. z < k) (keys l) x (lesser_below p k (keys l) g.0) m)) ∙ q))
        (λ c.
        let (x, m, q) = right c.0 j c.1 in
        (x, right_member x l k r m, ap (λ s. (standing α s).rank) (subtree_right l k r x (all_member (λ z. k < z) (keys r) x (greater_above p k (keys r) g.1) m)) ∙ q))
        (child_of_rank l k r j (omega arith)))

-- ---- and each level up to that of the root block has a block
module _ (α : ℕ) (p : ℕ → ℕ) (wide : 2 ≤ α) (ks : List ℕ) (rising : Rising ks) (some : 1 ≤ length ks) where
  key_of_rank : (j : ℕ) → suc j < root_rank α p ks → (x : ℕ) × (member x ks ≡ true) × (rank α p ks x ≡ j)
  unfolding OfRank
  key_of_rank j h =
      let t = treap p ks in
      let below : j < (standing α t).rank = omega (arith, root_rank_over α t, root_rank_is α p wide ks rising some) in
      let (x, m, q) = some_of_rank α wide p t (treap_good p ks rising) (omega (arith, treap_size p ks rising)) j (omega arith) in
      let here = treap_member α p wide ks rising x m in
      let other : x ≢ root_key t = λ e.
      let same : (standing α t).rank ≡ j = ap (λ s. (standing α s).rank) (sym (root_subtree t) ∙ ap (λ (z : ℕ). subtree z t) (sym e)) ∙ q in
      omega arith
      in
      (x, here, rank_is α p wide ks rising x here ∙ ap (λ (a : Standing). a.rank) (standing_other α t x other) ∙ q)

  level_used : (i : ℕ) → 1 ≤ i → i < root_rank α p ks → 0 < length (blocks_of_level α p ks i)
  level_used zero low h = absurd (omega arith)
  level_used (suc j) low h =
      let (x, m, q) = key_of_rank j h in
      let level = (level_under α p ks wide rising x (suc j) m (ap suc q) h).1 in
      let one : length (keep (λ b. member x b.held) (blocks_of_level α p ks (suc j))) ≡ 1 =
      ap length (holding_level α p ks wide rising x (suc j) m low h) ∙ rw (eq-eqb (block_level α p ks x) (suc j) level) refl
      in
      omega (arith, one, length-keep (λ b. member x b.held) (blocks_of_level α p ks (suc j)))

  pub blocks_many : max 1 (root_rank α p ks) ≤ length (blocks α p ks)
  unfolding blocks
  blocks_many =
      let lower = falling_from (pred (root_rank α p ks)) in
      rw (lt-ltb 0 (length ks) some)
      (omega (
        arith,
        length_falling (pred (root_rank α p ks)),
        length-flat_map-some (blocks_of_level α p ks) lower
            (all_map (λ i. (1 ≤ i) × (i ≤ pred (root_rank α p ks))) (λ i. 0 < length (blocks_of_level α p ks i)) (λ i h. level_used i h.0 (omega arith)) lower
            (falling_within (pred (root_rank α p ks)))),
      ))
