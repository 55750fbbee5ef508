-- The leader rule, from the root down: a key's leader is its parent where that has a higher rank, else the parent's
-- leader; the root has none. Assumes an order of at least 2 and rising keys.
use mathlib.Core.Bool.{true, cond}
use mathlib.Core.List.{List, [], ◌∷◌, ◌++◌, append-nil}
use mathlib.Core.Path.{◌≡◌, refl, sym, ap, ◌∙◌, subst}
use Prim.Native.Nat.{ℕ, suc, ◌<◌, ◌≤◌}
use native.Mathlib.Omega.{arith}
use lib.Dec.{ltb}
use borrow.Author.Tests.{ltb-false, le-ltb}
use Rattle.lists.specs.Lists.{cons_if, keep, member, last, Rising}
use Rattle.lists.proofs.Tests.{by_test}
use Rattle.lists.proofs.Keep.{all_map, keep_append, keep_same}
use Rattle.lists.proofs.Membership.{all_member, last_snoc}
use Rattle.treap.specs.Treap.{Tree, keys, subtree, path, treap}
use Rattle.treap.specs.Treap.Tree.{node}
use Rattle.treap.specs.Levels.{level, rank, leader}
use Rattle.treap_structure.proofs.Shape.{keys_root, Good, lesser_below, greater_above, treap_keys, treap_good}
use Rattle.treap_structure.proofs.Subtrees.{inside, good_subtree, path_root, path_left, path_right}
use Rattle.treap_structure.proofs.Ranks.{in_level_to_rank, rank_falls}
use Rattle.treap_structure.proofs.Paths.{above, left_member, right_member, path_in_tree, path_below}

-- The keys of a list that have a higher rank than n.
unfoldable pub higher : ℕ → (ℕ → ℕ) → List ℕ → ℕ → List ℕ → List ℕ
higher α p ks n xs = keep (λ u. ltb n (rank α p ks u)) xs

module _ (α : ℕ) (p : ℕ → ℕ) (wide : 2 ≤ α) (ks : List ℕ) (rising : Rising ks) where
  -- the keys of the treap are the keys
  pub treap_member : (v : ℕ) → member v (keys (treap p ks)) ≡ true → member v ks ≡ true
  treap_member v m = ap (member v) (sym (treap_keys p ks rising)) ∙ m

  pub member_treap : (v : ℕ) → member v ks ≡ true → member v (keys (treap p ks)) ≡ true
  member_treap v m = ap (member v) (treap_keys p ks rising) ∙ m

  -- leader(v) is the last key on v's path with a higher rank
  pub leader_by_rank : (v : ℕ) → member v ks ≡ true → leader α p ks v ≡ last (higher α p ks (rank α p ks v) (path v (treap p ks)))
  unfolding leader higher
  leader_by_rank v m =
      ap last
      (keep_same (λ u. member u (level α p ks (suc (rank α p ks v)))) (λ u. ltb (rank α p ks v) (rank α p ks u)) (path v (treap p ks))
      (all_map (λ u. member u (keys (treap p ks)) ≡ true) (λ u. member u (level α p ks (suc (rank α p ks v))) ≡ ltb (rank α p ks v) (rank α p ks u))
      (λ u i. in_level_to_rank α p wide ks rising u (suc (rank α p ks v)) (treap_member u i)) (path v (treap p ks)) (path_in_tree v (treap p ks))))

  -- ---- v hangs directly below u: the path to v is that to u with v at its end
  pub Below : ℕ → ℕ → Type 0
  Below u v = (member u ks ≡ true) × (member v ks ≡ true) × (rank α p ks v ≤ rank α p ks u) × (path u (treap p ks) ≡ above u (treap p ks) ++ (u ∷ [])) × (path v (treap p ks) ≡ above u (treap p ks) ++ (u ∷ v ∷ []))

  -- a key of a rank no higher than the bound at a path's end counts for nothing
  higher_end : (n : ℕ) (xs : List ℕ) (v : ℕ) → rank α p ks v ≤ n → higher α p ks n (xs ++ (v ∷ [])) ≡ higher α p ks n xs
  unfolding higher
  higher_end n xs v h =
      keep_append (λ u. ltb n (rank α p ks u)) xs (v ∷ [])
      ∙ ap (λ b. keep (λ u. ltb n (rank α p ks u)) xs ++ cons_if b v []) (le-ltb n (rank α p ks v) h)
      ∙ append-nil (keep (λ u. ltb n (rank α p ks u)) xs)

  higher_last : (n : ℕ) (xs : List ℕ) (u : ℕ) → ltb n (rank α p ks u) ≡ true → last (higher α p ks n (xs ++ (u ∷ []))) ≡ u
  unfolding higher
  higher_last n xs u h =
      ap last (keep_append (λ x. ltb n (rank α p ks x)) xs (u ∷ []) ∙ ap (λ b. keep (λ x. ltb n (rank α p ks x)) xs ++ cons_if b u []) h)
      ∙ last_snoc (keep (λ x. ltb n (rank α p ks x)) xs) u

  end_again : (xs : List ℕ) (u v : ℕ) → xs ++ (u ∷ v ∷ []) ≡ (xs ++ (u ∷ [])) ++ (v ∷ [])
  end_again [] u v = refl
  end_again (x ∷ xs) u v = ap (λ (ys : List ℕ). x ∷ ys) (end_again xs u v)

  leader_below : (u v : ℕ) → Below u v → leader α p ks v ≡ cond (ltb (rank α p ks v) (rank α p ks u)) u (leader α p ks u)
  unfolding Below
  leader_below u v b =
      let (m, n, falls, up, down) = b in
      let t = treap p ks in
      let here : leader α p ks v ≡ last (higher α p ks (rank α p ks v) (above u t ++ (u ∷ []))) =
      leader_by_rank v n
      ∙ ap (λ (xs : List ℕ). last (higher α p ks (rank α p ks v) xs)) (down ∙ end_again (above u t) u v)
      ∙ ap last (higher_end (rank α p ks v) (above u t ++ (u ∷ [])) v (omega arith))
      in
      by_test (ltb (rank α p ks v) (rank α p ks u))
      (λ e. rw e (here ∙ higher_last (rank α p ks v) (above u t) u e))
      (λ e.
      let same : rank α p ks v ≡ rank α p ks u = let h = ltb-false (rank α p ks v) (rank α p ks u) e in omega arith in
      rw e
      (here ∙ ap (λ (i : ℕ). last (higher α p ks i (above u t ++ (u ∷ [])))) same ∙ ap (λ (xs : List ℕ). last (higher α p ks (rank α p ks u) xs)) (sym up) ∙ sym (leader_by_rank u m)))

  -- ---- the children in the treap hang directly below
  child_below : (u v : ℕ) (l r : Tree) → member u ks ≡ true → subtree u (treap p ks) ≡ node l u r → member v (keys (node l u r)) ≡ true
      → path v (node l u r) ≡ u ∷ v ∷ [] → Below u v
  unfolding Below
  child_below u v l r m s i q =
      let t = treap p ks in
      let g = treap_good p ks rising in
      let u-here : member u (keys (subtree u t)) ≡ true = ap (λ z. member u (keys z)) s ∙ keys_root l u r in
      let v-here : member v (keys (subtree u t)) ≡ true = ap (λ z. member v (keys z)) s ∙ i in
      let v-key : member v ks ≡ true = treap_member v (inside t u v v-here) in (
        m,
        v-key,
        rank_falls α p wide ks rising u v m v-key v-here,
        path_below p t u u g u-here ∙ ap (λ z. above u t ++ path u z) s ∙ ap (λ (xs : List ℕ). above u t ++ xs) (path_root l u r),
        path_below p t u v g v-here ∙ ap (λ z. above u t ++ path v z) s ∙ ap (λ (xs : List ℕ). above u t ++ xs) q,
      )

  -- the rule for the root of the left subtree and of the right one
  pub leader_of_left : (u v : ℕ) (a b r : Tree) → member u ks ≡ true → subtree u (treap p ks) ≡ node (node a v b) u r
      → leader α p ks v ≡ cond (ltb (rank α p ks v) (rank α p ks u)) u (leader α p ks u)
  leader_of_left u v a b r m s =
      let g = subst (Good p) s (good_subtree p u (treap p ks) (treap_good p ks rising)) in
      let i = keys_root a v b in
      let low : v < u = all_member (λ x. x < u) (keys (node a v b)) v (lesser_below p u (keys (node a v b)) g.0) i in
      leader_below u v
      (child_below u v (node a v b) r m s (left_member v (node a v b) u r i) (path_left (node a v b) u r v low ∙ ap (λ (xs : List ℕ). u ∷ xs) (path_root a v b)))

  pub leader_of_right : (u v : ℕ) (l a b : Tree) → member u ks ≡ true → subtree u (treap p ks) ≡ node l u (node a v b)
      → leader α p ks v ≡ cond (ltb (rank α p ks v) (rank α p ks u)) u (leader α p ks u)
  leader_of_right u v l a b m s =
      let g = subst (Good p) s (good_subtree p u (treap p ks) (treap_good p ks rising)) in
      let i = keys_root a v b in
      let high : u < v = all_member (λ x. u < x) (keys (node a v b)) v (greater_above p u (keys (node a v b)) g.1) i in
      leader_below u v
      (child_below u v l (node a v b) m s (right_member v l u (node a v b) i) (path_right l u (node a v b) v high ∙ ap (λ (xs : List ℕ). u ∷ xs) (path_root a v b)))

  -- the root has no leader
  pub leader_of_root : (l : Tree) (k : ℕ) (r : Tree) → treap p ks ≡ node l k r → leader α p ks k ≡ 0
  unfolding higher
  leader_of_root l k r s =
      leader_by_rank k (treap_member k (ap (λ t. member k (keys t)) s ∙ keys_root l k r))
      ∙ ap (λ t. last (higher α p ks (rank α p ks k) (path k t))) s
      ∙ ap (λ (xs : List ℕ). last (higher α p ks (rank α p ks k) xs)) (path_root l k r)
      ∙ ap last (higher_end (rank α p ks k) [] k (omega arith))
