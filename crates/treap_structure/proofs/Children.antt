-- The children of a key in the treap: where a search goes on from the key, which searches come by a child, and who leads it. Assumes an order
-- of at least 2, and rising keys none of which is zero.
use mathlib.Core.Bool.{true, false, cond, ◌||◌}
use mathlib.Core.List.{List, [], ◌∷◌, ◌++◌}
use mathlib.Core.Logic.{◌≢◌}
use mathlib.Core.Path.{◌≡◌, sym, ap, ◌∙◌, subst}
use Prim.Native.Nat.{ℕ, ◌<◌, ◌≤◌}
use native.Mathlib.Omega.{arith}
use lib.Dec.{eqb, ltb}
use borrow.Author.Tests.{eq-eqb, ne_eqb, lt-ltb}
use Rattle.lists.specs.Lists.{member, All, Rising}
use Rattle.lists.proofs.Tests.{by_test, true_or_false, or_true_left, or_true_right}
use Rattle.lists.proofs.Membership.{eqb_same, all_member, member-append}
use Rattle.treap.specs.Treap.{Tree, keys, root_key, left_of, right_of, subtree, path, treap}
use Rattle.treap.specs.Treap.Tree.{leaf, node}
use Rattle.treap.specs.Levels.{rank, leader}
use Rattle.treap_structure.proofs.Shape.{Good, treap_keys, treap_good}
use Rattle.treap_structure.proofs.Subtrees.{inside, good_subtree}
use Rattle.treap_structure.proofs.Within.{subtree_of_key}
use Rattle.treap_structure.proofs.Ranks.{rank_falls}
use Rattle.treap_structure.proofs.Paths.{above, path_below}
use Rattle.treap_structure.proofs.Leaders.{treap_member, member_treap, leader_of_left, leader_of_right}
use Rattle.treap_structure.proofs.Descent.{side, root_in_tree, path_begins, path_here, path_on, side_again}
use Rattle.treap_structure.proofs.PathsThrough.{member_beyond, in_path, path_through, beside_in, beside_order, root_not_beside}

-- The key to which a search for q goes on from v; zero where it ends.
abbrev pub child : (ℕ → ℕ) → List ℕ → ℕ → ℕ → ℕ
child p ks v q = root_key (side q (subtree v (treap p ks)))

module _ (α : ℕ) (p : ℕ → ℕ) (wide : 2 ≤ α) (ks : List ℕ) (rising : Rising ks) (positive : All (λ k. 1 ≤ k) ks) where
  abbrev t : Tree
  t = treap p ks

  good : Good p t
  good = treap_good p ks rising

  pub positive_in_tree : All (λ k. 1 ≤ k) (keys t)
  positive_in_tree = subst (All (λ k. 1 ≤ k)) (sym (treap_keys p ks rising)) positive

  -- a key of the treap and what hangs on one side of it
  module _ (v : ℕ) (m : member v ks ≡ true) where
    in_tree : member v (keys t) ≡ true
    in_tree = member_treap α p wide ks rising v m

    pub has_root : root_key (subtree v t) ≡ v
    has_root = let (l, r, s) = subtree_of_key p t v good in_tree in ap root_key s

    pub some_root : root_key (subtree v t) ≢ 0
    some_root e = let h = all_member (λ k. 1 ≤ k) ks v positive m in omega (arith, has_root, e)

    -- what hangs there is the subtree of its root
    pub side_is : (q : ℕ) → subtree (child p ks v q) t ≡ side q (subtree v t)
    side_is q = side_again p t good positive_in_tree v q

    good_below : Good p (subtree v t)
    good_below = good_subtree p v t good

    -- v is not below itself
    pub not_below : (q : ℕ) → member v (keys (side q (subtree v t))) ≡ true → ⊥
    not_below q i = root_not_beside p (subtree v t) q good_below (ap (λ (k : ℕ). member k (keys (side q (subtree v t)))) has_root ∙ i)

    module _ (q : ℕ) (some : child p ks v q ≢ 0) where
      abbrev c : ℕ
      c = child p ks v q

      -- the child is a key, below v
      pub child_beside : member c (keys (side q (subtree v t))) ≡ true
      child_beside = root_in_tree (side q (subtree v t)) some

      pub child_below : member c (keys (subtree v t)) ≡ true
      child_below = beside_in p (subtree v t) q c child_beside

      pub child_key : member c ks ≡ true
      child_key = treap_member α p wide ks rising c (inside t v c child_below)

      pub child_rank : rank α p ks c ≤ rank α p ks v
      child_rank = rank_falls α p wide ks rising v c m child_key child_below

      -- v leads it where its rank is lower
      pub child_led : rank α p ks c < rank α p ks v → leader α p ks c ≡ v
      unfolding side
      child_led h =
          let (l, r, s) = subtree_of_key p t v good in_tree in
          let here : c ≡ root_key (cond (ltb q v) l r) = ap (λ (u : Tree). root_key (cond (ltb q (root_key u)) (left_of u) (right_of u))) s in
          by_test (ltb q v) (λ f. on_left l r s (rw f at here)) (λ f. on_right l r s (rw f at here))
        where
          lower : leader α p ks c ≡ cond (ltb (rank α p ks c) (rank α p ks v)) v (leader α p ks v) → leader α p ks c ≡ v
          lower e = e ∙ ap (λ b. cond b v (leader α p ks v)) (lt-ltb (rank α p ks c) (rank α p ks v) h)

          Rule : ℕ → Type 0
          Rule x = leader α p ks x ≡ cond (ltb (rank α p ks x) (rank α p ks v)) v (leader α p ks v)

          on_left : (l r : Tree) → subtree v t ≡ node l v r → c ≡ root_key l → leader α p ks c ≡ v
          on_left leaf r s e = absurd (some e)
          on_left (node a x b) r s e = lower (subst Rule (sym e) (leader_of_left α p wide ks rising v x a b r m s))

          on_right : (l r : Tree) → subtree v t ≡ node l v r → c ≡ root_key r → leader α p ks c ≡ v
          on_right l leaf s e = absurd (some e)
          on_right l (node a x b) s e = lower (subst Rule (sym e) (leader_of_right α p wide ks rising v x l a b m s))

    -- ---- searches that come by v
    pub on_path : (r : ℕ) → member v (path r t) ≡ true → path r t ≡ above v t ++ path r (subtree v t)
    on_path r i = (path_through p t v v r good i (ap (λ (k : ℕ). member k (keys (subtree v t))) (sym has_root) ∙ root_in_tree (subtree v t) some_root)).0

    -- the search for v does
    pub own_path : member v (path v t) ≡ true
    own_path =
        ap (member v)
        (path_below p t v v good (ap (λ (k : ℕ). member k (keys (subtree v t))) (sym has_root) ∙ root_in_tree (subtree v t) some_root)
        ∙ ap (λ (xs : List ℕ). above v t ++ xs) (path_here (subtree v t) v some_root (sym has_root)))
        ∙ member-append v (above v t) (root_key (subtree v t) ∷ [])
        ∙ or_true_right (member v (above v t)) _ (or_true_left (eqb v (root_key (subtree v t))) false (eq-eqb v (root_key (subtree v t)) (sym has_root)))

    -- a search that comes by a key below v came by v, is not for v, and went on to that side
    pub record Way (r y : ℕ) : Type 0 where
      pub comes : member v (path r t) ≡ true
      pub other : r ≢ v
      pub beside : member y (path r (side r (subtree v t))) ≡ true

    pub way_below : (r y : ℕ) → y ≢ v → member y (path r t) ≡ true → member y (keys (subtree v t)) ≡ true → Way r y
    way_below r y apart on under =
        let (way, beyond) = path_through p t v y r good on under in
        let other : r ≢ v = λ z. past_itself z beyond in
        let next = path_on (subtree v t) r some_root (λ z. other (z ∙ has_root)) in
        record {
          comes =
              ap (member v) (way ∙ ap (λ (xs : List ℕ). above v t ++ xs) next)
              ∙ member-append v (above v t) (root_key (subtree v t) ∷ path r (side r (subtree v t)))
              ∙ or_true_right (member v (above v t)) _ (or_true_left (eqb v (root_key (subtree v t))) _ (eq-eqb v (root_key (subtree v t)) (sym has_root)));
          other = other;
          beside = member_beyond p y (root_key (subtree v t)) (path r (side r (subtree v t))) (λ z. apart (z ∙ has_root)) (ap (member y) (sym next) ∙ beyond);
        }
      where
        past_itself : r ≡ v → member y (path r (subtree v t)) ≡ true → ⊥
        past_itself z beyond =
            true_or_false (member y (root_key (subtree v t) ∷ []))
            (ap (member y) (sym (path_here (subtree v t) r some_root (z ∙ sym has_root))) ∙ beyond)
            (ap (λ b. b || false) (ne_eqb y (root_key (subtree v t)) (λ w. apart (w ∙ has_root))))

    -- searches on one side of v go on to one child
    pub same_child : (q r : ℕ) → ltb q v ≡ ltb r v → child p ks v q ≡ child p ks v r
    unfolding side
    same_child q r e = by_test (ltb r v) (λ f. rw (has_root, e, f)) (λ f. rw (has_root, e, f))

    -- the child comes by exactly in the searches that come by v and go on to its side
    module _ (q : ℕ) (some : child p ks v q ≢ 0) where
      pub goes_by : (r : ℕ) → member v (path r t) ≡ true → r ≢ v → ltb r v ≡ ltb q v → member (child p ks v q) (path r t) ≡ true
      goes_by r comes other same =
          let here = same_child r q same in
          let (xs, begins) = path_begins (side r (subtree v t)) r (λ z. some (sym here ∙ z)) in
          ap (λ (k : ℕ). member k (path r t)) (sym here)
          ∙ ap (member (child p ks v r)) (on_path r comes ∙ ap (λ (xs : List ℕ). above v t ++ xs) (path_on (subtree v t) r some_root (λ z. other (z ∙ has_root))))
          ∙ member-append (child p ks v r) (above v t) (root_key (subtree v t) ∷ path r (side r (subtree v t)))
          ∙ or_true_right (member (child p ks v r) (above v t)) _
          (or_true_right (eqb (child p ks v r) (root_key (subtree v t))) (member (child p ks v r) (path r (side r (subtree v t))))
          (ap (member (child p ks v r)) begins ∙ or_true_left (eqb (child p ks v r) (child p ks v r)) (member (child p ks v r) xs) (eqb_same (child p ks v r))))

      pub comes_by : (r : ℕ) → member (child p ks v q) (path r t) ≡ true → (member v (path r t) ≡ true) × (r ≢ v) × (ltb r v ≡ ltb q v)
      comes_by r on =
          let apart : child p ks v q ≢ v = λ z. not_below q (ap (λ (k : ℕ). member k (keys (side q (subtree v t)))) (sym z) ∙ child_beside q some) in
          let way = way_below r (child p ks v q) apart on (child_below q some) in
          let order : (z : ℕ) → member (child p ks v q) (keys (side z (subtree v t))) ≡ true → ltb z v ≡ ltb (child p ks v q) v =
          λ z i. ap (ltb z) (sym has_root) ∙ beside_order p (subtree v t) z (child p ks v q) good_below i ∙ ap (ltb (child p ks v q)) has_root
          in
          (way.comes, way.other, order r (in_path p r (child p ks v q) (side r (subtree v t)) way.beside) ∙ sym (order q (child_beside q some)))
