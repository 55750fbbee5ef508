-- Where a leader stands: it is an ancestor of higher rank, and no deeper ancestor has a rank as high. Keys of one rank on
-- one path share their leader. Assumes an order of at least 2 and rising keys.
use mathlib.Core.Bool.{Bool, true, false, cond}
use mathlib.Core.List.{List, [], ◌∷◌, ◌++◌, append-nil}
use mathlib.Core.Logic.{◌≢◌}
use mathlib.Core.Path.{◌≡◌, refl, sym, ap, ◌∙◌, subst}
use Prim.Native.Nat.{ℕ, ◌<◌, ◌≤◌}
use lib.Dec.{eqb, ltb}
use borrow.Author.Tests.{ltb-true, le-ltb, lt-ltb}
use Rattle.lists.specs.Lists.{cons_if, keep, member, last, All, Rising}
use Rattle.lists.proofs.Tests.{Compared, compared, true_or_false}
use Rattle.lists.proofs.Tests.Compared.{less, same, more}
use Rattle.lists.proofs.Keep.{all_map, all_both, all_append_right, all_keep, kept_pass, keep_append, keep_none}
use Rattle.lists.proofs.Membership.{all_member, all_of_members, last-member}
use Rattle.treap.specs.Treap.{Tree, keys, root_key, subtree, path, treap}
use Rattle.treap.specs.Treap.Tree.{leaf, node}
use Rattle.treap.specs.Levels.{rank, leader}
use Rattle.treap_structure.proofs.Shape.{keys_root, Good, lesser_below, greater_above, treap_good}
use Rattle.treap_structure.proofs.Subtrees.{inside, root_subtree, subtree_root, subtree_left, subtree_right, path_root, path_left, path_right, member_left, member_right}
use Rattle.treap_structure.proofs.Within.{subtree_of_key}
use Rattle.treap_structure.proofs.Ranks.{rank_falls, root_rank_highest}
use Rattle.treap_structure.proofs.Paths.{above, path_in_tree, path_below}
use Rattle.treap_structure.proofs.Leaders.{treap_member, member_treap, higher, leader_by_rank}

-- a list's last element, behind another list
last-append : (xs : List ℕ) (y : ℕ) (ys : List ℕ) → last (xs ++ y ∷ ys) ≡ last (y ∷ ys)
last-append [] y ys = refl
last-append (x ∷ []) y ys = refl
last-append (x ∷ z ∷ zs) y ys = last-append (z ∷ zs) y ys

-- every key on the path to a key of the tree has it in its subtree
pub ancestors_hold : (p : ℕ → ℕ) (t : Tree) (v : ℕ) → Good p t → member v (keys t) ≡ true → All (λ x. member v (keys (subtree x t)) ≡ true) (path v t)
ancestors_hold p leaf v g m = absurd (true_or_false false m refl)
ancestors_hold p (node l k r) v g m = go (compared v k) (ancestors_hold p l v g.2) (ancestors_hold p r v g.3)
  where
    t : Tree
    t = node l k r

    Holds : ℕ → Type 0
    Holds x = member v (keys (subtree x t)) ≡ true

    root : Holds k
    root = ap (λ z. member v (keys z)) (subtree_root l k r) ∙ m

    go : Compared v k → (member v (keys l) ≡ true → All (λ x. member v (keys (subtree x l)) ≡ true) (path v l))
        → (member v (keys r) ≡ true → All (λ x. member v (keys (subtree x r)) ≡ true) (path v r)) → All Holds (path v t)
    go (less e f h q) left right =
        let i = sym (member_left v k (keys l) (keys r) q (greater_above p k (keys r) g.1)) ∙ m in
        subst (All Holds) (sym (path_left l k r v q)) (
          root,
          all_map (λ x. (member x (keys l) ≡ true) × (member v (keys (subtree x l)) ≡ true)) Holds
              (λ x b. ap (λ z. member v (keys z)) (subtree_left l k r x (all_member (λ y. y < k) (keys l) x (lesser_below p k (keys l) g.0) b.0)) ∙ b.1)
              (path v l) (all_both (λ x. member x (keys l) ≡ true) (λ x. member v (keys (subtree x l)) ≡ true) (path v l) (path_in_tree v l) (left i)),
        )
    go (same e f h q) left right = subst (λ (z : ℕ). All Holds (path z t)) (sym q) (subst (All Holds) (sym (path_root l k r)) (root, tt))
    go (more e f h q) left right =
        let i = sym (member_right v k (keys l) (keys r) q (lesser_below p k (keys l) g.0)) ∙ m in
        subst (All Holds) (sym (path_right l k r v q)) (
          root,
          all_map (λ x. (member x (keys r) ≡ true) × (member v (keys (subtree x r)) ≡ true)) Holds
              (λ x b. ap (λ z. member v (keys z)) (subtree_right l k r x (all_member (λ y. k < y) (keys r) x (greater_above p k (keys r) g.1) b.0)) ∙ b.1)
              (path v r) (all_both (λ x. member x (keys r) ≡ true) (λ x. member v (keys (subtree x r)) ≡ true) (path v r) (path_in_tree v r) (right i)),
        )

module _ (α : ℕ) (p : ℕ → ℕ) (wide : 2 ≤ α) (ks : List ℕ) (rising : Rising ks) where
  good : Good p (treap p ks)
  good = treap_good p ks rising

  -- What is known of the last key z of a rank above n on x's path, where c is such a key: it is in c's subtree.
  Deep : ℕ → ℕ → ℕ → ℕ → Type 0
  Deep n c x z = (member z (keys (subtree c (treap p ks))) ≡ true) × (n < rank α p ks z) × (member z (path x (treap p ks)) ≡ true)

  deepest : (n c x : ℕ) → member c ks ≡ true → n < rank α p ks c → member x (keys (subtree c (treap p ks))) ≡ true
      → Deep n c x (last (higher α p ks n (path x (treap p ks))))
  unfolding Deep higher
  deepest n c x m h i =
      let t = treap p ks in
      let (l, r, s) = subtree_of_key p t c good (member_treap α p wide ks rising c m) in
      let rest : List ℕ = cond (eqb x c) [] (cond (ltb x c) (path x l) (path x r)) in
      let split : path x t ≡ above c t ++ c ∷ rest = path_below p t c x good i ∙ ap (λ z. above c t ++ path x z) s in
      let test : ℕ → Bool = λ u. ltb n (rank α p ks u) in
      let found : last (keep test (path x t)) ≡ last (c ∷ keep test rest) =
      ap (λ xs. last (keep test xs)) split
      ∙ ap last (keep_append test (above c t) (c ∷ rest) ∙ ap (λ b. keep test (above c t) ++ cons_if b c (keep test rest)) (lt-ltb n (rank α p ks c) h))
      ∙ last-append (keep test (above c t)) c (keep test rest)
      in
      let in-subtree : All (λ z. member z (keys (subtree c t)) ≡ true) (c ∷ rest) =
      subst (λ w. All (λ z. member z (keys w) ≡ true) (c ∷ rest)) (sym s) (path_in_tree x (node l c r))
      in
      let in_path : All (λ z. member z (path x t) ≡ true) (c ∷ rest) =
      all_append_right (λ z. member z (path x t) ≡ true) (above c t) (c ∷ rest)
      (subst (All (λ z. member z (path x t) ≡ true)) split (all_of_members (λ z. member z (path x t) ≡ true) (path x t) (λ z j. j)))
      in
      let both : All (Deep n c x) (c ∷ keep test rest) = (
        (in-subtree.0, h, in_path.0),
        all_map (λ z. (member z (keys (subtree c t)) ≡ true) × ((member z (path x t) ≡ true) × (test z ≡ true))) (Deep n c x)
            (λ z q. (q.0, ltb-true n (rank α p ks z) q.1.1, q.1.0)) (keep test rest)
            (all_both (λ z. member z (keys (subtree c t)) ≡ true) (λ z. (member z (path x t) ≡ true) × (test z ≡ true)) (keep test rest)
            (all_keep (λ z. member z (keys (subtree c t)) ≡ true) test rest in-subtree.1)
            (all_both (λ z. member z (path x t) ≡ true) (λ z. test z ≡ true) (keep test rest) (all_keep (λ z. member z (path x t) ≡ true) test rest in_path.1) (kept_pass test rest))),
      )
      in
      subst (Deep n c x) (sym found) (all_member (Deep n c x) (c ∷ keep test rest) (last (c ∷ keep test rest)) both (last-member (keep test rest) c))

  -- ---- the leader of a key below the root
  pub record Leads (v x : ℕ) : Type 0 where
    pub key : member v ks ≡ true
    pub higher_rank : rank α p ks x < rank α p ks v
    pub ancestor : member x (keys (subtree v (treap p ks))) ≡ true

  pub root_key_lem : (x : ℕ) → member x ks ≡ true → member (root_key (treap p ks)) ks ≡ true
  root_key_lem x m = treap_member α p wide ks rising (root_key (treap p ks)) (go (treap p ks) (member_treap α p wide ks rising x m))
    where
      go : (t : Tree) → member x (keys t) ≡ true → member (root_key t) (keys t) ≡ true
      go leaf i = absurd (true_or_false false i refl)
      go (node l k r) i = keys_root l k r

  -- a leader lies in the subtree of every key above that has a higher rank than the led one
  pub leader_under : (c x : ℕ) → member c ks ≡ true → member x ks ≡ true → rank α p ks x < rank α p ks c → member x (keys (subtree c (treap p ks))) ≡ true
      → member (leader α p ks x) (keys (subtree c (treap p ks))) ≡ true
  unfolding Deep
  leader_under c x m n h i = ap (λ (z : ℕ). member z (keys (subtree c (treap p ks)))) (leader_by_rank α p wide ks rising x n) ∙ (deepest (rank α p ks x) c x m h i).0

  pub leader_leads : (x : ℕ) → member x ks ≡ true → x ≢ root_key (treap p ks) → Leads (leader α p ks x) x
  unfolding Deep
  leader_leads x m d =
      let t = treap p ks in
      let o = root_key_lem x m in
      let deep =
      deepest (rank α p ks x) (root_key t) x o (root_rank_highest α p wide ks rising x m d o)
      (ap (λ z. member x (keys z)) (root_subtree t) ∙ member_treap α p wide ks rising x m)
      in
      subst (λ (z : ℕ). Leads z x) (sym (leader_by_rank α p wide ks rising x m))
      record {
        key = treap_member α p wide ks rising (last (higher α p ks (rank α p ks x) (path x t))) (inside t (root_key t) (last (higher α p ks (rank α p ks x) (path x t))) deep.0);
        higher_rank = deep.1;
        ancestor =
            all_member (λ z. member x (keys (subtree z t)) ≡ true) (path x t) (last (higher α p ks (rank α p ks x) (path x t)))
            (ancestors_hold p t x good (member_treap α p wide ks rising x m)) deep.2;
      }

  -- ---- keys of one rank, the one in the other's subtree, have one leader
  pub same_rank_leader : (x y : ℕ) → member x ks ≡ true → member y ks ≡ true → member y (keys (subtree x (treap p ks))) ≡ true
      → rank α p ks x ≡ rank α p ks y → leader α p ks x ≡ leader α p ks y
  unfolding higher
  same_rank_leader x y m n i e =
      leader_by_rank α p wide ks rising x m
      ∙ beyond x (in_own x m)
      ∙ ap (λ (j : ℕ). last (higher α p ks j (above x t))) e
      ∙ sym beyond_y
      ∙ sym (leader_by_rank α p wide ks rising y n)
    where
      t : Tree
      t = treap p ks

      in_own : (z : ℕ) → member z ks ≡ true → member z (keys (subtree z t)) ≡ true
      in_own z j =
          let (l, r, s) = subtree_of_key p t z good (member_treap α p wide ks rising z j) in
          ap (λ w. member z (keys w)) s ∙ keys_root l z r

      -- no key in x's subtree has a higher rank than x
      none_higher : (z : ℕ) → higher α p ks (rank α p ks x) (path z (subtree x t)) ≡ []
      none_higher z =
          keep_none (λ u. ltb (rank α p ks x) (rank α p ks u)) (path z (subtree x t))
          (all_map (λ u. member u (keys (subtree x t)) ≡ true) (λ u. ltb (rank α p ks x) (rank α p ks u) ≡ false)
          (λ u j. le-ltb (rank α p ks x) (rank α p ks u) (rank_falls α p wide ks rising x u m (treap_member α p wide ks rising u (inside t x u j)) j))
          (path z (subtree x t)) (path_in_tree z (subtree x t)))

      beyond : (z : ℕ) → member z (keys (subtree x t)) ≡ true → last (higher α p ks (rank α p ks x) (path z t)) ≡ last (higher α p ks (rank α p ks x) (above x t))
      beyond z j =
          ap (λ xs. last (higher α p ks (rank α p ks x) xs)) (path_below p t x z good j)
          ∙ ap last
          (keep_append (λ u. ltb (rank α p ks x) (rank α p ks u)) (above x t) (path z (subtree x t))
          ∙ ap (λ ys. higher α p ks (rank α p ks x) (above x t) ++ ys) (none_higher z)
          ∙ append-nil (higher α p ks (rank α p ks x) (above x t)))

      beyond_y : last (higher α p ks (rank α p ks y) (path y t)) ≡ last (higher α p ks (rank α p ks y) (above x t))
      beyond_y = subst (λ (j : ℕ). last (higher α p ks j (path y t)) ≡ last (higher α p ks j (above x t))) e (beyond y i)
