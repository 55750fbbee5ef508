-- One more position ranked: its standing from the columns' entries for its children. Assumes an order of at least 2.
use mathlib.Core.Bool.{true, cond}
use mathlib.Core.List.{List, [], ◌++◌, map}
use mathlib.Core.Logic.{◌≢◌}
use mathlib.Core.Path.{◌≡◌, refl, sym, ap, ap₂, ◌∙◌, subst}
use Prim.Native.Nat.{ℕ, zero, suc, max, ◌+◌, ◌<◌, ◌≤◌}
use native.Mathlib.Omega.{arith}
use lib.Dec.{ltb}
use borrow.Author.Tests.{ltb-true, ltb-false, lt-ltb, le-ltb}
use Rattle.lists.proofs.Tests.{by_test}
use lib.ListN.{length, get_or, set, drop}
use lib.Seq.{drop-cons}
use Rattle.lists.specs.Lists.{All}
use Rattle.lists.proofs.Keep.{all_map}
use Rattle.lists.proofs.Membership.{all_member}
use Rattle.treap.specs.Treap.{Tree, root_key, left_of, right_of, subtree, outranks}
use Rattle.treap.specs.Treap.Tree.{leaf, node}
use Rattle.treap.specs.Levels.{rank, count}
use Rattle.treap_structure.proofs.Shape.{size}
use Rattle.treap_structure.proofs.Subtrees.{subtree_root, size_subtree}
use Rattle.treap_structure.proofs.Within.{subtree_of_key}
use Rattle.treap_structure.proofs.Fold.{Standing, raise, standing, standing_stands, standing_rank_size}
use Rattle.treap_structure.proofs.Ranks.{standing_in, standing_root, standing_other, rank_is, count_is}
use Rattle.treap_columns.specs.Positions.{positions, weight_at, InOrder}
use Rattle.treap_columns.specs.Columns.{rank_column, count_column}
use Rattle.treap_ranks.specs.Steps.{entry_at, raise_root}
use Rattle.treap_columns.proofs.Children.{subtree_of_zero, subtree_of_left, subtree_of_right, child_outranked, root_not_outranked}
use Rattle.treap_columns.proofs.PositionTree.{tree_of, root_of, left_child, right_child, ChildAt, tree_good, tree_positive, tree_size}
use Rattle.treap_columns.proofs.PositionTree.{position_in_tree, position_member, positions_rising, index_within, order_member}
use Rattle.treap_columns.proofs.PositionTree.{child_after, first_is_root, later_not_root}
use Rattle.treap_columns.proofs.Filled.{Filled, Kept, filled_stored, filled_store, filled_whole}

-- A position's rank and its count, by the fold and the root's own rule.
abbrev rank_in : ℕ → List ℕ → ℕ → ℕ
rank_in α weights v = (standing_in α (tree_of weights) v).rank

abbrev count_in : ℕ → List ℕ → ℕ → ℕ
count_in α weights v = (standing_in α (tree_of weights) v).count

-- The columns have the standings of the positions of these indices.
pub record Ranked (α : ℕ) (weights indices rank count : List ℕ) : Type 0 where
  pub ranks : All (λ i. Filled (rank_in α weights) rank (suc i)) indices
  pub counts : All (λ i. Filled (count_in α weights) count (suc i)) indices

-- The standing that the columns have for a position.
abbrev pub standing_at : List ℕ → List ℕ → ℕ → Standing
standing_at rank count v = record { rank = entry_at rank v; count = entry_at count v }

module _ (α : ℕ) (weights : List ℕ) where
  -- The standing of a position that is not the root.
  abbrev pub folded : ℕ → Standing
  folded v = standing α (subtree v (tree_of weights))

  -- ---- the fold over links
  node_standing : (s : Tree) (a : Tree) (u : ℕ) (b : Tree) → s ≡ node a u b → standing α s ≡ raise α (standing α (left_of s)) (standing α (right_of s))
  node_standing s a u b e = subst (λ z. standing α z ≡ raise α (standing α (left_of z)) (standing α (right_of z))) (sym e) refl

  folded_left : (i : ℕ) → folded (left_child weights i) ≡ standing α (left_of (subtree (suc i) (tree_of weights)))
  folded_left i = ap (standing α) (subtree_of_left (weight_at weights) (tree_of weights) (tree_good weights) (tree_positive weights) (suc i))

  folded_right : (i : ℕ) → folded (right_child weights i) ≡ standing α (right_of (subtree (suc i) (tree_of weights)))
  folded_right i = ap (standing α) (subtree_of_right (weight_at weights) (tree_of weights) (tree_good weights) (tree_positive weights) (suc i))

  folded_by_links : (i : ℕ) → i < length weights → folded (suc i) ≡ raise α (folded (left_child weights i)) (folded (right_child weights i))
  folded_by_links i h =
      let (a, b, e) = subtree_of_key (weight_at weights) (tree_of weights) (suc i) (tree_good weights) (position_in_tree weights i h) in
      node_standing (subtree (suc i) (tree_of weights)) a (suc i) b e ∙ sym (ap₂ (raise α) (folded_left i) (folded_right i))

  -- ---- the root's own rule over links
  has_child : (a b : ℕ) → ltb 0 (a + b) ≡ ltb 1 (a + suc b)
  has_child a b =
      by_test (ltb 0 (a + b))
      (λ e. let h = ltb-true 0 (a + b) e in e ∙ sym (lt-ltb 1 (a + suc b) (omega arith)))
      (λ e. let h = ltb-false 0 (a + b) e in e ∙ sym (le-ltb 1 (a + suc b) (omega arith)))

  root_rule : (t : Tree) (u : ℕ) → u ≡ root_key t → 0 < u
      → standing_in α t u ≡ raise_root (size t) (standing α (left_of (subtree u t))) (standing α (right_of (subtree u t)))
  root_rule leaf u e some = absurd (omega arith)
  root_rule (node l k r) u e some =
      let Rule : ℕ → Type 0 =
      λ (x : ℕ). standing_in α (node l k r) x
      ≡ raise_root (size (node l k r)) (standing α (left_of (subtree x (node l k r)))) (standing α (right_of (subtree x (node l k r))))
      in
      subst Rule (sym e)
      (standing_root α l k r
      ∙ ap (λ b. record { rank = cond b (suc (max (standing α l).rank (standing α r).rank)) 0; count = 1 }) (has_child (size l) (size r))
      ∙ sym (ap (λ (z : Tree). raise_root (size (node l k r)) (standing α (left_of z)) (standing α (right_of z))) (subtree_root l k r)))

  root_by_links : (i : ℕ) → suc i ≡ root_of weights
      → standing_in α (tree_of weights) (suc i) ≡ raise_root (length weights) (folded (left_child weights i)) (folded (right_child weights i))
  root_by_links i e =
      root_rule (tree_of weights) (suc i) e (omega arith)
      ∙ sym (ap₂ (raise_root (size (tree_of weights))) (folded_left i) (folded_right i))
      ∙ ap (λ (n : ℕ). raise_root n (folded (left_child weights i)) (folded (right_child weights i))) (tree_size weights)

  module _ (wide : 2 ≤ α) where
    -- standings are small
    pub folded_small : (v : ℕ) → ((folded v).rank ≤ length weights) × ((folded v).count < α)
    folded_small v = (
      omega (arith, standing_rank_size α (subtree v (tree_of weights)), size_subtree v (tree_of weights), tree_size weights),
      (standing_stands α wide (subtree v (tree_of weights))).below,
    )

    -- i is the index at place j of the order
    module _ (order : List ℕ) (in_order : InOrder weights order) (j i : ℕ) (low : j < length weights) (here : i ≡ get_or order j 0) where
      within : i < length weights
      within = index_within weights order in_order j i low here

      -- a child is not the root
      child_standing : (v : ℕ) → ChildAt weights i v → 0 < v → standing_in α (tree_of weights) v ≡ folded v
      child_standing v q some =
          let p = weight_at weights in
          let m = position_in_tree weights i within in
          standing_other α (tree_of weights) v
          (λ e.
          root_not_outranked p (tree_of weights) (suc i) (tree_good weights) m
          (subst (λ (x : ℕ). outranks p (suc i) x ≡ true) e (child_outranked p (tree_of weights) (suc i) v (tree_good weights) m q some)))

      -- the standing of the root, and of any other position, from its children's
      pub root_standing_lem : j ≡ 0
          → standing_in α (tree_of weights) (suc i) ≡ raise_root (length weights) (folded (left_child weights i)) (folded (right_child weights i))
      root_standing_lem first = root_by_links i (first_is_root weights order in_order i (omega arith) (here ∙ ap (λ (k : ℕ). get_or order k 0) first))

      pub other_standing : j ≢ 0 → standing_in α (tree_of weights) (suc i) ≡ raise α (folded (left_child weights i)) (folded (right_child weights i))
      other_standing later =
          standing_other α (tree_of weights) (suc i) (later_not_root weights order in_order j i (omega arith) low here) ∙ folded_by_links i within

      module _ (rank count : List ℕ) (done : Ranked α weights (drop (suc j) order) rank count) where
        -- what the columns have for a child is the fold at its subtree
        pub child_read : (v : ℕ) → ChildAt weights i v → standing_at rank count v ≡ folded v
        child_read zero q = sym (ap (standing α) (subtree_of_zero (tree_of weights) (tree_positive weights)))
        child_read (suc k) q =
            let m = child_after weights order in_order j i low here k q in
            ap₂ (λ (r n : ℕ). record { rank = r; count = n })
            ((all_member (λ x. Filled (rank_in α weights) rank (suc x)) (drop (suc j) order) k done.ranks m).at (omega arith))
            ((all_member (λ x. Filled (count_in α weights) count (suc x)) (drop (suc j) order) k done.counts m).at (omega arith))
            ∙ child_standing (suc k) q (omega arith)

        -- a standing stored makes one more position
        one_more : (f : ℕ → ℕ) (column : List ℕ) (x : ℕ) → x ≡ f (suc i) → length weights ≤ length column
            → All (λ k. Filled f column (suc k)) (drop (suc j) order) → All (λ k. Filled f (set column i x) (suc k)) (drop j order)
        one_more f column x e room h =
            let many = in_order.many in
            let inside = within in
            let fits : i < length column = omega arith in
            rw (drop-cons order j 0 (omega arith), ← here) (
              filled_stored f column i x e fits,
              all_map (λ k. Filled f column (suc k)) (λ k. Filled f (set column i x) (suc k)) (λ k. filled_store f column i x e fits (suc k))
                  (drop (suc j) order) h,
            )

        pub ranked_store : (s : Standing) → s ≡ standing_in α (tree_of weights) (suc i) → length weights ≤ length rank → length weights ≤ length count
            → Ranked α weights (drop j order) (set rank i s.rank) (set count i s.count)
        ranked_store s e room_rank room_count = record {
          ranks = one_more (rank_in α weights) rank s.rank (ap (λ (z : Standing). z.rank) e) room_rank done.ranks;
          counts = one_more (count_in α weights) count s.count (ap (λ (z : Standing). z.count) e) room_count done.counts;
        }

    -- ---- all positions
    module _ (order : List ℕ) (in_order : InOrder weights order) where
      whole : (f g : ℕ → ℕ) (before column : List ℕ) → ((i : ℕ) → i < length weights → f (suc i) ≡ g (suc i))
          → All (λ i. Filled f column (suc i)) order → length weights ≤ length before → Kept (length weights) before column
          → column ≡ map g (positions (length weights)) ++ drop (length weights) before
      whole f g before column agree h room kept =
          filled_whole g (length weights) before column room kept
          (λ i low.
          let filled = all_member (λ k. Filled f column (suc k)) order i h (order_member weights order in_order i low) in
          record { at = λ some. filled.at some ∙ agree i low })

      pub ranked_all : (rank₀ count₀ rank' count' : List ℕ) → Ranked α weights order rank' count'
          → length weights ≤ length rank₀ → length weights ≤ length count₀ → Kept (length weights) rank₀ rank' → Kept (length weights) count₀ count'
          → (rank' ≡ rank_column α weights (length weights) ++ drop (length weights) rank₀)
          × (count' ≡ count_column α weights (length weights) ++ drop (length weights) count₀)
      ranked_all rank₀ count₀ rank' count' done rank_room count_room rank_kept count_kept =
          let p = weight_at weights in
          let ks = positions (length weights) in
          let rising = positions_rising (length weights) in (
            whole (rank_in α weights) (rank α p ks) rank₀ rank'
                (λ i low. sym (rank_is α p wide ks rising (suc i) (position_member weights i low))) done.ranks rank_room rank_kept,
            whole (count_in α weights) (count α p ks) count₀ count'
                (λ i low. sym (count_is α p wide ks rising (suc i) (position_member weights i low))) done.counts count_room count_kept,
          )

-- ---- no position yet
pub ranked_none : (α : ℕ) (weights rank count : List ℕ) → Ranked α weights [] rank count
ranked_none α weights rank count = record { ranks = tt; counts = tt }
