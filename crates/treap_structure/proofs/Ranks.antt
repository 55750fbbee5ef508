-- A key is in Li exactly up to its rank; ranks and counts are those of the fold, the root's those of its own rule.
-- Assumes an order of at least 2 and rising keys.
use mathlib.Core.Bool.{Bool, true, false, cond, ◌&&◌}
use mathlib.Core.List.{List}
use mathlib.Core.Logic.{◌⊎◌, ◌≢◌, inl, inr, ⊎_elim}
use mathlib.Core.Path.{◌≡◌, refl, sym, ap, ◌∙◌, subst}
use Prim.Native.Nat.{ℕ, zero, suc, max, ◌+◌, ◌<◌, ◌≤◌}
use native.Mathlib.Omega.{arith}
use lib.Dec.{eqb, ltb, leb}
use lib.ListN.{length}
use borrow.Author.Tests.{leb-true, leb-false, lt-leb, le-leb, lt-ltb, le-ltb, ltb-true, ltb-false, ne_eqb, eqb-true, eqb-false}
use Rattle.lists.specs.Lists.{keep, member, Rising}
use Rattle.lists.proofs.Tests.{Compared, compared, by_test, true_or_false, and_left, and_right, and_both}
use Rattle.lists.proofs.Tests.Compared.{less, same, more}
use Rattle.lists.proofs.Keep.{keep_all}
use Rattle.lists.proofs.Pairwise.{pairwise_keep}
use Rattle.lists.proofs.Rising.{rising_unique}
use Rattle.lists.proofs.Membership.{eqb_same, all_member, all_of_members, member-keep, no_member, largest_is}
use Rattle.treap.specs.Treap.{Tree, keys, root_key, subtree, treap}
use Rattle.treap.specs.Treap.Tree.{leaf, node}
use Rattle.treap.specs.Levels.{level, rank, count}
use Rattle.treap_structure.proofs.Shape.{size, length_keys, keys_root, Good, good_rising, lesser_below, greater_above, treap_keys, treap_good, treap_size}
use Rattle.treap_structure.proofs.Subtrees.{inside, some_key, subtree_root, subtree_left, subtree_right, size_subtree, all_subtree, member_left, member_right}
use Rattle.treap_structure.proofs.Prune.{pruned, good_pruned, lead, level_tree, all_led, level_is_led}
use Rattle.treap_structure.proofs.Fold.{Standing, standing, root_standing, Over, pruned_leaf, pruned_over, level_tree_over, standing_stands, outlasts, pruned_away, standing_rank_size, root_rank_size, subtree_rank, root_rank_left, root_rank_right}
use Rattle.treap_structure.proofs.Within.{subtree_of_key, all_pruned, within, within_left, within_right, within_pruned}
use Rattle.treap_structure.proofs.Paths.{subtree_below, not_root_below}

module _ (α : ℕ) where
  -- The standing of a key in the whole tree.
  unfoldable pub standing_in : Tree → ℕ → Standing
  standing_in t v = cond (eqb v (root_key t)) (root_standing α t) (standing α (subtree v t))

  pub standing_root : (l : Tree) (k : ℕ) (r : Tree) → standing_in (node l k r) k ≡ root_standing α (node l k r)
  unfolding standing_in
  standing_root l k r = rw (eqb_same k)

  pub standing_other : (t : Tree) (v : ℕ) → v ≢ root_key t → standing_in t v ≡ standing α (subtree v t)
  unfolding standing_in
  standing_other t v d = rw (ne_eqb v (root_key t) d)

  module _ (p : ℕ → ℕ) (wide : 2 ≤ α) where
    -- ---- the root of a subtree is left by i prunings exactly up to its rank
    root_in_pruned : (i : ℕ) (a : Tree) (v : ℕ) (b : Tree) → member v (keys (pruned α i (node a v b))) ≡ leb i (standing α (node a v b)).rank
    unfolding Over
    root_in_pruned i a v b =
        let n = (standing α (node a v b)).rank in
        by_test (leb i n)
        (λ e.
        let alive = outlasts α wide (node a v b) i (omega arith) (leb-true i n e) in
        ⊎_elim
        (λ q. ap (λ t. member v (keys t)) q ∙ keys_root (pruned α i a) v (pruned α i b) ∙ sym e)
        (λ q. let none : size (pruned α i (node a v b)) ≡ 0 = ap size q.0 in absurd (omega arith))
        (pruned_over α i a v b))
        (λ e.
        no_member v (keys (pruned α i (node a v b))) (length_keys (pruned α i (node a v b)) ∙ pruned_away α wide (node a v b) i (leb-false i n e)) ∙ sym e)

    -- a key of a part is in a tree exactly when it is in what the tree has of the part
    through_part : (i : ℕ) (xs : List ℕ) (v : ℕ) (part a b : Tree) → part ≡ node a v b → within p α part xs ≡ keys (pruned α i part)
        → member v xs ≡ leb i (standing α part).rank
    through_part i xs v part a b e w =
        let f : ℕ → Bool = λ u. member u (keys part) in
        let here : f v ≡ true = ap (λ s. member v (keys s)) e ∙ keys_root a v b in
        sym (ap (λ c. c && member v xs) here) ∙ sym (member-keep f v xs) ∙ ap (member v) w
        ∙ subst (λ s. member v (keys (pruned α i s)) ≡ leb i (standing α s).rank) (sym e) (root_in_pruned i a v b)

    -- a key of a tree is left by i prunings exactly up to the rank of its subtree
    in_pruned : (i : ℕ) (t : Tree) (v : ℕ) → Good p t → member v (keys t) ≡ true → member v (keys (pruned α i t)) ≡ leb i (standing α (subtree v t)).rank
    in_pruned i t v g m =
        let (a, b, s) = subtree_of_key p t v g m in
        through_part i (keys (pruned α i t)) v (subtree v t) a b s (within_pruned p α i t v g)

    pub pruned_by_rank : (i : ℕ) (t : Tree) → Good p t → keep (λ v. leb i (standing α (subtree v t)).rank) (keys t) ≡ keys (pruned α i t)
    pruned_by_rank i t g =
        let f : ℕ → Bool = λ v. leb i (standing α (subtree v t)).rank in
        rising_unique (keep f (keys t)) (keys (pruned α i t)) (pairwise_keep ◌<◌ f (keys t) (good_rising p t g)) (good_rising p (pruned α i t) (good_pruned α p i t g))
        (all_of_members (λ v. member v (keys (pruned α i t)) ≡ true) (keep f (keys t))
        (λ v m.
        let both = sym (member-keep f v (keys t)) ∙ m in
        in_pruned i t v g (and_right (f v) (member v (keys t)) both) ∙ and_left (f v) (member v (keys t)) both))
        (all_of_members (λ v. member v (keep f (keys t)) ≡ true) (keys (pruned α i t))
        (λ v m.
        let here = all_member (λ z. member z (keys t) ≡ true) (keys (pruned α i t)) v (all_pruned p α (λ z. member z (keys t) ≡ true) i t (all_of_members (λ z. member z (keys t) ≡ true) (keys t) (λ z j. j))) m in
        member-keep f v (keys t) ∙ and_both (f v) (member v (keys t)) (sym (in_pruned i t v g here) ∙ m) here))

    -- ---- the root is in a level's tree exactly up to its own rank
    module _ (l : Tree) (k : ℕ) (r : Tree) where
      top_rank : ℕ
      top_rank = (root_standing α (node l k r)).rank

      -- while the rank is not reached some child is left
      child_left : (i : ℕ) → suc i ≤ top_rank → 0 < size (pruned α i l) + size (pruned α i r)
      unfolding top_rank
      child_left i h =
          by_test (ltb 0 (size l + size r))
          (λ e.
          let some = ltb-true 0 (size l + size r) e in
          let m : suc i ≤ suc (max (standing α l).rank (standing α r).rank) = rw e at h in
          by_test (leb i (standing α l).rank)
          (λ f. ⊎_elim (λ (z : 0 < size l). omega (arith, outlasts α wide l i z (leb-true i (standing α l).rank f))) (λ (z : size l ≡ 0). omega (arith, outlasts α wide r i (omega arith) (low z f))) (or_none (size l)))
          (λ f. let d = leb-false i (standing α l).rank f in
          ⊎_elim (λ (z : 0 < size r). omega (arith, outlasts α wide r i z (omega arith))) (λ (z : size r ≡ 0). absurd (omega (arith, standing_rank_size α r))) (or_none (size r))))
          (λ e. let m : suc i ≤ 0 = rw e at h in absurd (omega arith))
        where
          or_none : (n : ℕ) → (0 < n) ⊎ (n ≡ 0)
          or_none zero = inr refl
          or_none (suc n) = inl (omega arith)

          low : size l ≡ 0 → leb i (standing α l).rank ≡ true → i ≤ (standing α r).rank
          low z f = omega (arith, standing_rank_size α l, leb-true i (standing α l).rank f)

      -- once it is reached none is
      children_gone : (size (pruned α top_rank l) ≡ 0) × (size (pruned α top_rank r) ≡ 0)
      unfolding top_rank
      children_gone =
          by_test (ltb 0 (size l + size r))
          (λ e.
          let m = suc (max (standing α l).rank (standing α r).rank) in
          rw e (pruned_away α wide l m (omega arith), pruned_away α wide r m (omega arith)))
          (λ e. let z = ltb-false 0 (size l + size r) e in rw e (omega arith))

      root_alive : (i : ℕ) → i ≤ top_rank → level_tree α (node l k r) i ≡ node (pruned α i l) k (pruned α i r)
      root_alive zero h = refl
      root_alive (suc i) h =
          let some = child_left i h in
          ap (lead α) (root_alive i (omega arith)) ∙ rw (lt-ltb 1 (size (node (pruned α i l) k (pruned α i r))) (omega arith))

      root_gone : (i : ℕ) → top_rank < i → level_tree α (node l k r) i ≡ leaf
      root_gone zero h = absurd (omega arith)
      root_gone (suc i) h =
          by_test (ltb top_rank i)
          (λ e. ap (lead α) (root_gone i (ltb-true top_rank i e)))
          (λ e.
          let q : i ≡ top_rank = let f = ltb-false top_rank i e in omega arith in
          let z = children_gone in
          ap (λ (n : ℕ). lead α (level_tree α (node l k r) n)) q ∙ ap (lead α) (root_alive top_rank (omega arith))
          ∙ rw (le-ltb 1 (size (node (pruned α top_rank l) k (pruned α top_rank r))) (omega arith)))

      root_in_level : (i : ℕ) → member k (keys (level_tree α (node l k r) i)) ≡ leb i top_rank
      root_in_level i =
          by_test (leb i top_rank)
          (λ e. ap (λ t. member k (keys t)) (root_alive i (leb-true i top_rank e)) ∙ keys_root (pruned α i l) k (pruned α i r) ∙ sym e)
          (λ e. ap (λ t. member k (keys t)) (root_gone i (leb-false i top_rank e)) ∙ sym e)

    -- ---- a key is in a level's tree exactly up to its rank, and the level has of its subtree what pruning leaves
    within_level : (i : ℕ) (t : Tree) (v : ℕ) → Good p t → v ≢ root_key t → within p α (subtree v t) (keys (level_tree α t i)) ≡ keys (pruned α i (subtree v t))
    within_level i leaf v g d = go i
      where
        empty : (j : ℕ) → level_tree α leaf j ≡ leaf
        empty zero = refl
        empty (suc j) = ap (lead α) (empty j)

        go : (j : ℕ) → within p α leaf (keys (level_tree α leaf j)) ≡ keys (pruned α j leaf)
        go j = ap (λ t. within p α leaf (keys t)) (empty j) ∙ ap keys (sym (pruned_leaf α j))
    within_level i (node l k r) v g d = go (compared v k)
      where
        whole : Tree
        whole = level_tree α (node l k r) i

        Left : Tree → Type 0
        Left part = within p α part (keys whole) ≡ keys (pruned α i part)

        go : Compared v k → Left (subtree v (node l k r))
        go (less e f h q) =
            rw (subtree_left l k r v q)
            (within_left p α i whole l k r (subtree v l) g (level_tree_over α i l k r) (all_subtree (λ x. x < k) v l (lesser_below p k (keys l) g.0)) (within_pruned p α i l v g.2))
        go (same e f h q) = absurd (d q)
        go (more e f h q) =
            rw (subtree_right l k r v q)
            (within_right p α i whole l k r (subtree v r) g (level_tree_over α i l k r) (all_subtree (λ x. k < x) v r (greater_above p k (keys r) g.1)) (within_pruned p α i r v g.3))

    in_level_tree : (i : ℕ) (t : Tree) (v : ℕ) → Good p t → member v (keys t) ≡ true → member v (keys (level_tree α t i)) ≡ leb i (standing_in t v).rank
    unfolding top_rank
    in_level_tree i leaf v g m = absurd (true_or_false false m refl)
    in_level_tree i (node l k r) v g m =
        by_test (eqb v k)
        (λ e.
        let q = eqb-true v k e in
        subst (λ (z : ℕ). member z (keys (level_tree α (node l k r) i)) ≡ leb i (standing_in (node l k r) z).rank) (sym q)
        (root_in_level l k r i ∙ ap (λ (a : Standing). leb i a.rank) (sym (standing_root l k r))))
        (λ e.
        let d : v ≢ k = eqb-false v k e in
        let (a, b, s) = subtree_of_key p (node l k r) v g m in
        through_part i (keys (level_tree α (node l k r) i)) v (subtree v (node l k r)) a b s (within_level i (node l k r) v g d)
        ∙ ap (λ (c : Standing). leb i c.rank) (sym (standing_other (node l k r) v d)))

    in_tree_rank_size : (t : Tree) (v : ℕ) → (standing_in t v).rank ≤ size t
    unfolding standing_in
    in_tree_rank_size t v =
        by_test (eqb v (root_key t))
        (λ e. rw e (root_rank_size α t))
        (λ e. rw e (omega (arith, standing_rank_size α (subtree v t), size_subtree v t)))

    -- the root's level has the root alone
    root_count : (l : Tree) (k : ℕ) (r : Tree) → size (level_tree α (node l k r) (root_standing α (node l k r)).rank) ≡ 1
    unfolding top_rank
    root_count l k r =
        let z = children_gone l k r in
        ap size (root_alive l k r (top_rank l k r) (omega arith)) ∙ omega arith

    in_tree_count : (t : Tree) (v : ℕ) → Good p t → member v (keys t) ≡ true
        → length (within p α (subtree v t) (keys (level_tree α t (standing_in t v).rank))) ≡ (standing_in t v).count
    in_tree_count leaf v g m = absurd (true_or_false false m refl)
    in_tree_count (node l k r) v g m =
        by_test (eqb v k)
        (λ e. subst (λ (z : ℕ). length (within p α (subtree z t) (keys (level_tree α t (standing_in t z).rank))) ≡ (standing_in t z).count) (sym (eqb-true v k e)) at_root)
        (λ e.
        let d : v ≢ k = eqb-false v k e in
        subst (λ (a : Standing). length (within p α (subtree v t) (keys (level_tree α t a.rank))) ≡ a.count) (sym (standing_other t v d))
        (ap length (within_level (standing α (subtree v t)).rank t v g d) ∙ length_keys (pruned α (standing α (subtree v t)).rank (subtree v t)) ∙ (standing_stands α wide (subtree v t)).lasts))
      where
        t : Tree
        t = node l k r

        at_root : length (within p α (subtree k t) (keys (level_tree α t (standing_in t k).rank))) ≡ (standing_in t k).count
        at_root =
            rw (subtree_root l k r, standing_root l k r)
            (ap length (keep_all (λ u. member u (keys t)) (keys (level_tree α t (root_standing α t).rank)) (all_led α (λ u. member u (keys t) ≡ true) t (root_standing α t).rank (all_of_members (λ u. member u (keys t) ≡ true) (keys t) (λ x i. i))))
            ∙ length_keys (level_tree α t (root_standing α t).rank) ∙ root_count l k r)

    -- ---- ranks fall from a key to those in its subtree, and strictly from the root
    below_root : (l : Tree) (k : ℕ) (r : Tree) (v : ℕ) → Good p (node l k r) → member v (keys (node l k r)) ≡ true → v ≢ k
        → (standing α (subtree v (node l k r))).rank < (root_standing α (node l k r)).rank
    below_root l k r v g m d = go (compared v k)
      where
        go : Compared v k → (standing α (subtree v (node l k r))).rank < (root_standing α (node l k r)).rank
        go (less e f h q) =
            let i = some_key l v (sym (member_left v k (keys l) (keys r) q (greater_above p k (keys r) g.1)) ∙ m) in
            rw (subtree_left l k r v q) (omega (arith, subtree_rank α v l, root_rank_left α l k r i))
        go (same e f h q) = absurd (d q)
        go (more e f h q) =
            let i = some_key r v (sym (member_right v k (keys l) (keys r) q (lesser_below p k (keys l) g.0)) ∙ m) in
            rw (subtree_right l k r v q) (omega (arith, subtree_rank α v r, root_rank_right α l k r i))

    in_tree_root_highest : (t : Tree) (v : ℕ) → Good p t → member v (keys t) ≡ true → v ≢ root_key t → (standing_in t v).rank < (standing_in t (root_key t)).rank
    in_tree_root_highest leaf v g m d = absurd (true_or_false false m refl)
    in_tree_root_highest (node l k r) v g m d = rw (standing_root l k r, standing_other (node l k r) v d) (below_root l k r v g m d)

    in_tree_falls : (t : Tree) (u v : ℕ) → Good p t → member u (keys t) ≡ true → member v (keys (subtree u t)) ≡ true → (standing_in t v).rank ≤ (standing_in t u).rank
    in_tree_falls t u v g m i =
        by_test (eqb u (root_key t))
        (λ e.
        let q = eqb-true u (root_key t) e in
        by_test (eqb v (root_key t))
        (λ f. subst (λ (z : ℕ). (standing_in t v).rank ≤ (standing_in t z).rank) (eqb-true v (root_key t) f ∙ sym q) (omega arith))
        (λ f.
        let j = inside t u v i in
        subst (λ (z : ℕ). (standing_in t v).rank ≤ (standing_in t z).rank) (sym q) (omega (arith, in_tree_root_highest t v g j (eqb-false v (root_key t) f)))))
        (λ e.
        let d = eqb-false u (root_key t) e in
        rw (standing_other t u d, standing_other t v (not_root_below p t u v g d i), subtree_below p t u v g i) (subtree_rank α v (subtree u t)))

    -- ---- the theorems, over the definitions
    module _ (ks : List ℕ) (rising : Rising ks) where
      key_in_treap : (v : ℕ) → member v ks ≡ true → member v (keys (treap p ks)) ≡ true
      key_in_treap v m = ap (member v) (treap_keys p ks rising) ∙ m

      level_by_standing : (v i : ℕ) → member v ks ≡ true → member v (level α p ks i) ≡ leb i (standing_in (treap p ks) v).rank
      level_by_standing v i m = ap (member v) (level_is_led α p ks rising i) ∙ in_level_tree i (treap p ks) v (treap_good p ks rising) (key_in_treap v m)

      -- rank(v) is the fold's at v's subtree, at the root that of the root's own rule
      pub rank_is : (v : ℕ) → member v ks ≡ true → rank α p ks v ≡ (standing_in (treap p ks) v).rank
      unfolding rank
      rank_is v m =
          let n = (standing_in (treap p ks) v).rank in
          largest_is (λ i. member v (level α p ks i)) (length ks) n
          (λ i h. level_by_standing v i m ∙ le-leb i n h)
          (λ i h. level_by_standing v i m ∙ lt-leb i n h)
          (omega (arith, in_tree_rank_size (treap p ks) v, treap_size p ks rising))

      -- v is in Li exactly for i up to rank(v): the bound of the search for the rank is harmless
      pub in_level_to_rank : (v i : ℕ) → member v ks ≡ true → member v (level α p ks i) ≡ leb i (rank α p ks v)
      in_level_to_rank v i m = level_by_standing v i m ∙ ap (leb i) (sym (rank_is v m))

      -- count(v) likewise
      pub count_is : (v : ℕ) → member v ks ≡ true → count α p ks v ≡ (standing_in (treap p ks) v).count
      unfolding count
      count_is v m =
          ap (λ (n : ℕ). length (keep (λ u. member u (keys (subtree v (treap p ks)))) (level α p ks n))) (rank_is v m)
          ∙ ap (λ (xs : List ℕ). length (keep (λ u. member u (keys (subtree v (treap p ks)))) xs)) (level_is_led α p ks rising (standing_in (treap p ks) v).rank)
          ∙ in_tree_count (treap p ks) v (treap_good p ks rising) (key_in_treap v m)

      -- no key in u's subtree has a higher rank than u
      pub rank_falls : (u v : ℕ) → member u ks ≡ true → member v ks ≡ true → member v (keys (subtree u (treap p ks))) ≡ true → rank α p ks v ≤ rank α p ks u
      rank_falls u v m n i = rw (rank_is u m, rank_is v n) (in_tree_falls (treap p ks) u v (treap_good p ks rising) (key_in_treap u m) i)

      -- every other key has a lower rank than the root
      pub root_rank_highest : (v : ℕ) → member v ks ≡ true → v ≢ root_key (treap p ks) → member (root_key (treap p ks)) ks ≡ true → rank α p ks v < rank α p ks (root_key (treap p ks))
      root_rank_highest v m d n = rw (rank_is v m, rank_is (root_key (treap p ks)) n) (in_tree_root_highest (treap p ks) v (treap_good p ks rising) (key_in_treap v m) d)
