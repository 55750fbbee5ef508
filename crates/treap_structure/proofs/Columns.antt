-- The columns of a table in rising order of keys, as flattenings of the treap: links, ranks, counts, leaders.
-- Assumes an order of at least 2 and rising keys.
use mathlib.Core.Bool.{true, false, cond}
use mathlib.Core.List.{List, [], ◌∷◌, ◌++◌, map, map-append}
use mathlib.Core.Logic.{◌≢◌}
use mathlib.Core.Path.{◌≡◌, refl, sym, ap, ap₂, ◌∙◌, subst}
use Prim.Native.Nat.{ℕ, ◌<◌, ◌≤◌}
use native.Mathlib.Omega.{arith}
use lib.Dec.{eqb, ltb}
use borrow.Author.Tests.{eqb-true, eqb-false}
use Rattle.lists.specs.Lists.{member, Rising}
use Rattle.lists.proofs.Tests.{by_test, true_or_false}
use Rattle.lists.proofs.Keep.{map_same}
use Rattle.lists.proofs.Membership.{all_member, all_of_members}
use Rattle.treap.specs.Treap.{Tree, keys, root_key, left_of, right_of, subtree, treap, left_link, right_link}
use Rattle.treap.specs.Treap.Tree.{leaf, node}
use Rattle.treap.specs.Levels.{rank, count, leader}
use Rattle.treap_structure.proofs.Shape.{keys_root, Good, lesser_below, greater_above, treap_keys, treap_good}
use Rattle.treap_structure.proofs.Subtrees.{inside, good_subtree, subtree_root, subtree_left, subtree_right}
use Rattle.treap_structure.proofs.Fold.{Standing, standing, root_standing}
use Rattle.treap_structure.proofs.Ranks.{standing_in, standing_root, standing_other, rank_is, count_is}
use Rattle.treap_structure.proofs.Paths.{subtree_below, not_root_below, left_member, right_member}
use Rattle.treap_structure.proofs.Leaders.{treap_member, leader_of_left, leader_of_right, leader_of_root}

module _ {A : Type 0} where
  -- A value of each subtree, in the order of the keys.
  abbrev pub flat : (Tree → A) → Tree → List A
  flat f leaf = []
  flat f (node l k r) = flat f l ++ f (node l k r) ∷ flat f r

  -- The same with a value of its own for the whole tree.
  abbrev pub flat_root : (Tree → A) → (Tree → A) → Tree → List A
  flat_root f g leaf = []
  flat_root f g (node l k r) = flat f l ++ g (node l k r) ∷ flat f r

  module _ (p : ℕ → ℕ) where
    -- a function of the keys that on either side is f of the side's subtrees
    sides : (f : Tree → A) (h : ℕ → A) (l : Tree) (k : ℕ) (r : Tree) → Good p (node l k r)
        → ((v : ℕ) → v ≢ k → member v (keys (node l k r)) ≡ true → h v ≡ f (subtree v (node l k r)))
        → map (λ v. f (subtree v l)) (keys l) ≡ flat f l → map (λ v. f (subtree v r)) (keys r) ≡ flat f r
        → map h (keys (node l k r)) ≡ flat f l ++ h k ∷ flat f r
    sides f h l k r g same left right =
        map-append h (keys l) (k ∷ keys r)
        ∙ ap₂ (λ (xs ys : List A). xs ++ h k ∷ ys)
        (map_same h (λ v. f (subtree v l)) (keys l)
        (all_of_members (λ v. h v ≡ f (subtree v l)) (keys l)
        (λ v m.
        let low : v < k = all_member (λ x. x < k) (keys l) v (lesser_below p k (keys l) g.0) m in
        same v (λ e. omega arith) (left_member v l k r m) ∙ ap f (subtree_left l k r v low)))
        ∙ left)
        (map_same h (λ v. f (subtree v r)) (keys r)
        (all_of_members (λ v. h v ≡ f (subtree v r)) (keys r)
        (λ v m.
        let high : k < v = all_member (λ x. k < x) (keys r) v (greater_above p k (keys r) g.1) m in
        same v (λ e. omega arith) (right_member v l k r m) ∙ ap f (subtree_right l k r v high)))
        ∙ right)

    pub flat_subtrees : (f : Tree → A) (t : Tree) → Good p t → map (λ v. f (subtree v t)) (keys t) ≡ flat f t
    flat_subtrees f leaf g = refl
    flat_subtrees f (node l k r) g =
        sides f (λ v. f (subtree v (node l k r))) l k r g (λ v d m. refl) (flat_subtrees f l g.2) (flat_subtrees f r g.3)
        ∙ ap (λ t. flat f l ++ f t ∷ flat f r) (subtree_root l k r)

    pub flat_of_root : (f g : Tree → A) (h : ℕ → A) (t : Tree) → Good p t
        → ((v : ℕ) → v ≢ root_key t → member v (keys t) ≡ true → h v ≡ f (subtree v t)) → (member (root_key t) (keys t) ≡ true → h (root_key t) ≡ g t)
        → map h (keys t) ≡ flat_root f g t
    flat_of_root f g h leaf good other root = refl
    flat_of_root f g h (node l k r) good other root =
        sides f h l k r good other (flat_subtrees f l good.2) (flat_subtrees f r good.3)
        ∙ ap (λ (x : A). flat f l ++ x ∷ flat f r) (root (keys_root l k r))

-- The leader of a child's root: the parent x if its rank m is the higher one, else the parent's leader c.
abbrev pub handed_down : ℕ → ℕ → ℕ → ℕ → Tree → ℕ
handed_down α c m x child = cond (ltb (standing α child).rank m) x c

-- The leaders in a tree whose root has leader c and rank m, in the order of the keys.
abbrev pub leaders_from : ℕ → ℕ → ℕ → Tree → List ℕ
leaders_from α c m leaf = []
leaders_from α c m (node a x b) =
    leaders_from α (handed_down α c m x a) (standing α a).rank a ++ c ∷ leaders_from α (handed_down α c m x b) (standing α b).rank b

-- ---- links
module _ (p : ℕ → ℕ) (ks : List ℕ) (rising : Rising ks) where
  over_keys : {A : Type 0} (h : ℕ → A) (xs : List A) → map h (keys (treap p ks)) ≡ xs → map h ks ≡ xs
  over_keys {A} h xs e = ap (map h) (sym (treap_keys p ks rising)) ∙ e

  pub left_column_lem : map (left_link p ks) ks ≡ flat (λ s. root_key (left_of s)) (treap p ks)
  unfolding left_link
  left_column_lem = over_keys (left_link p ks) (flat (λ s. root_key (left_of s)) (treap p ks)) (flat_subtrees p (λ s. root_key (left_of s)) (treap p ks) (treap_good p ks rising))

  pub right_column_lem : map (right_link p ks) ks ≡ flat (λ s. root_key (right_of s)) (treap p ks)
  unfolding right_link
  right_column_lem = over_keys (right_link p ks) (flat (λ s. root_key (right_of s)) (treap p ks)) (flat_subtrees p (λ s. root_key (right_of s)) (treap p ks) (treap_good p ks rising))

  module _ (α : ℕ) (wide : 2 ≤ α) where
    -- ---- ranks and counts
    standing_at_lem : (v : ℕ) → v ≢ root_key (treap p ks) → standing_in α (treap p ks) v ≡ standing α (subtree v (treap p ks))
    standing_at_lem v d = standing_other α (treap p ks) v d

    at_root : (t : Tree) → member (root_key t) (keys t) ≡ true → standing_in α t (root_key t) ≡ root_standing α t
    at_root leaf m = absurd (true_or_false false m refl)
    at_root (node l k r) m = standing_root α l k r

    pub rank_column_lem : map (rank α p ks) ks ≡ flat_root (λ s. (standing α s).rank) (λ s. (root_standing α s).rank) (treap p ks)
    rank_column_lem =
        over_keys (rank α p ks) (flat_root (λ s. (standing α s).rank) (λ s. (root_standing α s).rank) (treap p ks))
        (flat_of_root p (λ s. (standing α s).rank) (λ s. (root_standing α s).rank) (rank α p ks) (treap p ks) (treap_good p ks rising)
        (λ v d m. rank_is α p wide ks rising v (treap_member α p wide ks rising v m) ∙ ap (λ (a : Standing). a.rank) (standing_at_lem v d))
        (λ m. rank_is α p wide ks rising (root_key (treap p ks)) (treap_member α p wide ks rising (root_key (treap p ks)) m) ∙ ap (λ (a : Standing). a.rank) (at_root (treap p ks) m)))

    pub count_column_lem : map (count α p ks) ks ≡ flat_root (λ s. (standing α s).count) (λ s. (root_standing α s).count) (treap p ks)
    count_column_lem =
        over_keys (count α p ks) (flat_root (λ s. (standing α s).count) (λ s. (root_standing α s).count) (treap p ks))
        (flat_of_root p (λ s. (standing α s).count) (λ s. (root_standing α s).count) (count α p ks) (treap p ks) (treap_good p ks rising)
        (λ v d m. count_is α p wide ks rising v (treap_member α p wide ks rising v m) ∙ ap (λ (a : Standing). a.count) (standing_at_lem v d))
        (λ m. count_is α p wide ks rising (root_key (treap p ks)) (treap_member α p wide ks rising (root_key (treap p ks)) m) ∙ ap (λ (a : Standing). a.count) (at_root (treap p ks) m)))

    -- ---- leaders
    treap_key : (v : ℕ) → member v (keys (treap p ks)) ≡ true → member v ks ≡ true
    treap_key = treap_member α p wide ks rising

    -- a key below another is not the root, so that its rank is the fold's
    pub rank_below : (x y : ℕ) (s : Tree) → subtree x (treap p ks) ≡ s → member y (keys s) ≡ true → y ≢ x → rank α p ks y ≡ (standing α (subtree y (treap p ks))).rank
    rank_below x y s e m d =
        let t = treap p ks in
        let i : member y (keys (subtree x t)) ≡ true = ap (λ z. member y (keys z)) e ∙ m in
        let apart : y ≢ root_key t =
        by_test (eqb x (root_key t)) (λ f q. d (q ∙ sym (eqb-true x (root_key t) f))) (λ f. not_root_below p t x y (treap_good p ks rising) (eqb-false x (root_key t) f) i)
        in
        rank_is α p wide ks rising y (treap_key y (inside t x y i)) ∙ ap (λ (a : Standing). a.rank) (standing_at_lem y apart)

    -- the subtree of a key that lies in the subtree of x
    pub subtree_within : (x y : ℕ) (s : Tree) → subtree x (treap p ks) ≡ s → member y (keys s) ≡ true → subtree y (treap p ks) ≡ subtree y s
    subtree_within x y s e m =
        subtree_below p (treap p ks) x y (treap_good p ks rising) (ap (λ z. member y (keys z)) e ∙ m) ∙ ap (subtree y) e

    good_within : (x : ℕ) (s : Tree) → subtree x (treap p ks) ≡ s → Good p s
    good_within x s e = subst (Good p) e (good_subtree p x (treap p ks) (treap_good p ks rising))

    leaders_under : (s : Tree) (x : ℕ) → root_key s ≡ x → member x ks ≡ true → subtree x (treap p ks) ≡ s
        → map (leader α p ks) (keys s) ≡ leaders_from α (leader α p ks x) (rank α p ks x) s
    leaders_under leaf x q m e = refl
    leaders_under (node a k b) x q m e =
        map-append (leader α p ks) (keys a) (k ∷ keys b)
        ∙ ap₂ (λ (ys zs : List ℕ). ys ++ leader α p ks k ∷ zs)
        (on_left a refl (λ y (o : root_key a ≡ y) (n : member y ks ≡ true) (f : subtree y (treap p ks) ≡ a). leaders_under a y o n f))
        (on_right b refl (λ y (o : root_key b ≡ y) (n : member y ks ≡ true) (f : subtree y (treap p ks) ≡ b). leaders_under b y o n f))
        ∙ ap (λ (z : ℕ). leaders_from α (handed_down α (leader α p ks x) (rank α p ks x) k a) (standing α a).rank a ++ z ∷ leaders_from α (handed_down α (leader α p ks x) (rank α p ks x) k b) (standing α b).rank b) (ap (leader α p ks) q)
      where
        here : subtree k (treap p ks) ≡ node a k b
        here = ap (λ (z : ℕ). subtree z (treap p ks)) q ∙ e

        key : member k ks ≡ true
        key = ap (λ (z : ℕ). member z ks) q ∙ m

        Under : Tree → ℕ → Type 0
        Under s y = root_key s ≡ y → member y ks ≡ true → subtree y (treap p ks) ≡ s → map (leader α p ks) (keys s) ≡ leaders_from α (leader α p ks y) (rank α p ks y) s

        -- the child's own rank and leader, put in terms of the parent's
        child : (s : Tree) (y : ℕ) → rank α p ks y ≡ (standing α s).rank → leader α p ks y ≡ cond (ltb (rank α p ks y) (rank α p ks k)) k (leader α p ks k)
            → leaders_from α (leader α p ks y) (rank α p ks y) s ≡ leaders_from α (handed_down α (leader α p ks x) (rank α p ks x) k s) (standing α s).rank s
        child s y r h =
            ap₂ (λ (c n : ℕ). leaders_from α c n s)
            (h ∙ ap (λ (n : ℕ). cond (ltb n (rank α p ks k)) k (leader α p ks k)) r ∙ ap (λ (z : ℕ). cond (ltb (standing α s).rank (rank α p ks z)) k (leader α p ks z)) q)
            r

        on_left : (s : Tree) → s ≡ a → ((y : ℕ) → Under s y) → map (leader α p ks) (keys s) ≡ leaders_from α (handed_down α (leader α p ks x) (rank α p ks x) k s) (standing α s).rank s
        on_left leaf o ih = refl
        on_left (node c y d) o ih =
            let whole : subtree k (treap p ks) ≡ node (node c y d) k b = here ∙ ap (λ z. node z k b) (sym o) in
            let g = good_within k (node (node c y d) k b) whole in
            let i = left_member y (node c y d) k b (keys_root c y d) in
            let low : y < k = all_member (λ z. z < k) (keys (node c y d)) y (lesser_below p k (keys (node c y d)) g.0) (keys_root c y d) in
            let f : subtree y (treap p ks) ≡ node c y d = subtree_within k y (node (node c y d) k b) whole i ∙ subtree_left (node c y d) k b y low ∙ subtree_root c y d in
            let n = treap_key y (inside (treap p ks) y y (ap (λ z. member y (keys z)) f ∙ keys_root c y d)) in
            ih y refl n f
            ∙ child (node c y d) y (rank_below k y (node (node c y d) k b) whole i (λ z. omega arith) ∙ ap (λ z. (standing α z).rank) f) (leader_of_left α p wide ks rising k y c d b key whole)

        on_right : (s : Tree) → s ≡ b → ((y : ℕ) → Under s y) → map (leader α p ks) (keys s) ≡ leaders_from α (handed_down α (leader α p ks x) (rank α p ks x) k s) (standing α s).rank s
        on_right leaf o ih = refl
        on_right (node c y d) o ih =
            let whole : subtree k (treap p ks) ≡ node a k (node c y d) = here ∙ ap (λ z. node a k z) (sym o) in
            let g = good_within k (node a k (node c y d)) whole in
            let i = right_member y a k (node c y d) (keys_root c y d) in
            let high : k < y = all_member (λ z. k < z) (keys (node c y d)) y (greater_above p k (keys (node c y d)) g.1) (keys_root c y d) in
            let f : subtree y (treap p ks) ≡ node c y d = subtree_within k y (node a k (node c y d)) whole i ∙ subtree_right a k (node c y d) y high ∙ subtree_root c y d in
            let n = treap_key y (inside (treap p ks) y y (ap (λ z. member y (keys z)) f ∙ keys_root c y d)) in
            ih y refl n f
            ∙ child (node c y d) y (rank_below k y (node a k (node c y d)) whole i (λ z. omega arith) ∙ ap (λ z. (standing α z).rank) f) (leader_of_right α p wide ks rising k y a c d key whole)

    -- the root's leader is zero and its rank that of its own rule
    pub leader_column_lem : map (leader α p ks) ks ≡ leaders_from α 0 (root_standing α (treap p ks)).rank (treap p ks)
    leader_column_lem = over_keys (leader α p ks) (leaders_from α 0 (root_standing α (treap p ks)).rank (treap p ks)) (go (treap p ks) refl)
      where
        go : (t : Tree) → treap p ks ≡ t → map (leader α p ks) (keys t) ≡ leaders_from α 0 (root_standing α t).rank t
        go leaf e = refl
        go (node l k r) e =
            let m = treap_key k (ap (λ z. member k (keys z)) e ∙ keys_root l k r) in
            leaders_under (node l k r) k refl m (ap (subtree k) e ∙ subtree_root l k r)
            ∙ ap₂ (λ (c n : ℕ). leaders_from α c n (node l k r)) (leader_of_root α p wide ks rising l k r e)
            (rank_is α p wide ks rising k m ∙ ap (λ t. (standing_in α t k).rank) e ∙ ap (λ (a : Standing). a.rank) (standing_root α l k r))
