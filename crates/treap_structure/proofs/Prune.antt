-- Pruning: dropping from a tree every key whose subtree has fewer than α keys. Levels are pruned trees with the root
-- kept, and the treap of a level is that tree. Assumes nothing.
use mathlib.Core.Bool.{Bool, true, false, cond, ◌||◌}
use mathlib.Core.List.{List, [], ◌∷◌, ◌++◌}
use mathlib.Core.Path.{◌≡◌, refl, sym, ap, ap₂, ◌∙◌}
use Prim.Native.Nat.{ℕ, zero, suc, ◌+◌, ◌<◌, ◌≤◌}
use native.Mathlib.Omega.{arith}
use lib.Dec.{eqb, ltb, leb}
use lib.ListN.{length}
use borrow.Author.Tests.{leb-true, leb-false, lt-leb, le-leb, ne_eqb}
use Rattle.lists.specs.Lists.{cons_if, keep, All, Rising}
use Rattle.lists.proofs.Tests.{by_test, or_true_left}
use Rattle.lists.proofs.Keep.{all_map, all_always, all_both, all_append, all_append_left, all_append_right, keep_append, keep_none, keep_same}
use Rattle.lists.proofs.Membership.{eqb_same}
use Rattle.treap.specs.Treap.{Tree, keys, subtree, treap}
use Rattle.treap.specs.Treap.Tree.{leaf, node}
use Rattle.treap.specs.Levels.{next_level, level}
use Rattle.treap_structure.proofs.Shape.{size, length_keys, Lesser, Greater, Good, lesser_below, greater_above, top_of_good, treap_unique, treap_keys, treap_good}
use Rattle.treap_structure.proofs.Subtrees.{subtree_root, subtree_left, subtree_right, size_subtree}

module _ (α : ℕ) where
  -- The tree without the keys whose subtree has fewer than α keys.
  abbrev pub prune : Tree → Tree
  prune leaf = leaf
  prune (node l k r) =
      let left = prune l in
      let right = prune r in
      cond (leb α (size (node l k r))) (node left k right) leaf

  -- The same, with the root kept, of a tree of more than one key.
  abbrev pub lead : Tree → Tree
  lead leaf = leaf
  lead (node l k r) = cond (ltb 1 (size (node l k r))) (node (prune l) k (prune r)) leaf

  -- Pruned i times, and led i times.
  abbrev pub pruned : ℕ → Tree → Tree
  pruned zero t = t
  pruned (suc i) t = prune (pruned i t)

  abbrev pub level_tree : Tree → ℕ → Tree
  level_tree t zero = t
  level_tree t (suc i) = lead (level_tree t i)

  pub prune_big : (l : Tree) (k : ℕ) (r : Tree) → α ≤ size (node l k r) → prune (node l k r) ≡ node (prune l) k (prune r)
  prune_big l k r h = rw (le-leb α (size (node l k r)) h)

  pub prune_small : (t : Tree) → size t < α → prune t ≡ leaf
  prune_small leaf h = refl
  prune_small (node l k r) h = rw (lt-leb α (size (node l k r)) h)

  -- what holds of a pruned tree: either nothing was left, or the root was
  pub prune_cases : (P : Tree → Type 0) (l : Tree) (k : ℕ) (r : Tree) → P (node (prune l) k (prune r)) → P leaf → P (prune (node l k r))
  prune_cases P l k r here none = by_test (leb α (size (node l k r))) (λ e. rw e here) (λ e. rw e none)

  pub size_prune : (t : Tree) → size (prune t) ≤ size t
  size_prune leaf = omega arith
  size_prune (node l k r) =
      let a = size_prune l in
      let b = size_prune r in
      prune_cases (λ s. size s ≤ size l + suc (size r)) l k r (omega arith) (omega arith)

  pub all_prune : (P : ℕ → Type 0) (t : Tree) → All P (keys t) → All P (keys (prune t))
  all_prune P leaf h = tt
  all_prune P (node l k r) h =
      let right = all_append_right P (keys l) (k ∷ keys r) h in
      prune_cases (λ s. All P (keys s)) l k r
      (all_append P (keys (prune l)) (k ∷ keys (prune r)) (all_prune P l (all_append_left P (keys l) (k ∷ keys r) h)) (right.0, all_prune P r right.1))
      tt

  pub all_led : (P : ℕ → Type 0) (t : Tree) (i : ℕ) → All P (keys t) → All P (keys (level_tree t i))
  all_led P t zero h = h
  all_led P t (suc i) h = all_lead (level_tree t i) (all_led P t i h)
    where
      all_lead : (u : Tree) → All P (keys u) → All P (keys (lead u))
      all_lead leaf a = tt
      all_lead (node l k r) a =
          let right = all_append_right P (keys l) (k ∷ keys r) a in
          by_test (ltb 1 (size (node l k r)))
          (λ e. rw e (all_append P (keys (prune l)) (k ∷ keys (prune r)) (all_prune P l (all_append_left P (keys l) (k ∷ keys r) a)) (right.0, all_prune P r right.1)))
          (λ e. rw e tt)

  -- ---- the keys of a pruned tree are those whose subtree is large enough
  big : Tree → ℕ → Bool
  big t v = leb α (size (subtree v t))

  big_left : (l : Tree) (k : ℕ) (r : Tree) → All (λ x. x < k) (keys l) → All (λ x. big (node l k r) x ≡ big l x) (keys l)
  unfolding big
  big_left l k r h = all_map (λ x. x < k) (λ x. big (node l k r) x ≡ big l x) (λ x q. ap (λ s. leb α (size s)) (subtree_left l k r x q)) (keys l) h

  big_right : (l : Tree) (k : ℕ) (r : Tree) → All (λ x. k < x) (keys r) → All (λ x. big (node l k r) x ≡ big r x) (keys r)
  unfolding big
  big_right l k r h = all_map (λ x. k < x) (λ x. big (node l k r) x ≡ big r x) (λ x q. ap (λ s. leb α (size s)) (subtree_right l k r x q)) (keys r) h

  big_root : (l : Tree) (k : ℕ) (r : Tree) → α ≤ size (node l k r) → big (node l k r) k ≡ true
  unfolding big
  big_root l k r h = ap (λ s. leb α (size s)) (subtree_root l k r) ∙ le-leb α (size (node l k r)) h

  none_big : (t : Tree) → size t < α → All (λ x. big t x ≡ false) (keys t)
  unfolding big
  none_big t h = all_always (λ x. big t x ≡ false) (λ x. lt-leb α (size (subtree x t)) (omega (arith, size_subtree x t))) (keys t)

  module _ (p : ℕ → ℕ) where
    -- a test that on either side is that of the side, and passes at the root
    keep_sides : (f : ℕ → Bool) (l : Tree) (k : ℕ) (r : Tree) → All (λ x. f x ≡ big l x) (keys l) → f k ≡ true → All (λ x. f x ≡ big r x) (keys r)
        → keep f (keys (node l k r)) ≡ keep (big l) (keys l) ++ k ∷ keep (big r) (keys r)
    keep_sides f l k r a e b =
        keep_append f (keys l) (k ∷ keys r)
        ∙ ap₂ (λ (xs ys : List ℕ). xs ++ ys) (keep_same f (big l) (keys l) a)
        (ap₂ (λ c ys. cons_if c k ys) e (keep_same f (big r) (keys r) b))

    keep_big : (t : Tree) → Good p t → keep (big t) (keys t) ≡ keys (prune t)
    keep_big leaf g = refl
    keep_big (node l k r) g =
        let left = keep_big l g.2 in
        let right = keep_big r g.3 in
        by_test (leb α (size (node l k r)))
        (λ e.
        let h = leb-true α (size (node l k r)) e in
        keep_sides (big (node l k r)) l k r (big_left l k r (lesser_below p k (keys l) g.0)) (big_root l k r h) (big_right l k r (greater_above p k (keys r) g.1))
        ∙ ap₂ (λ (xs ys : List ℕ). xs ++ k ∷ ys) left right
        ∙ ap keys (sym (prune_big l k r h)))
        (λ e.
        let h = leb-false α (size (node l k r)) e in
        keep_none (big (node l k r)) (keys (node l k r)) (none_big (node l k r) h) ∙ ap keys (sym (prune_small (node l k r) h)))

    pub good_prune : (t : Tree) → Good p t → Good p (prune t)
    good_prune leaf g = tt
    good_prune (node l k r) g =
        prune_cases (Good p) l k r
        (all_prune (Lesser p k) l g.0, all_prune (Greater p k) r g.1, good_prune l g.2, good_prune r g.3)
        tt

    pub good_pruned : (i : ℕ) (t : Tree) → Good p t → Good p (pruned i t)
    good_pruned zero t g = g
    good_pruned (suc i) t g = good_prune (pruned i t) (good_pruned i t g)

    -- ---- levels are led trees
    good_lead : (t : Tree) → Good p t → Good p (lead t)
    good_lead leaf g = tt
    good_lead (node l k r) g =
        by_test (ltb 1 (size (node l k r)))
        (λ e. rw e (all_prune (Lesser p k) l g.0, all_prune (Greater p k) r g.1, good_prune l g.2, good_prune r g.3))
        (λ e. rw e tt)

    -- the next level's test at a tree's keys: the root's key, or a large subtree
    leads : Tree → ℕ → ℕ → Bool
    leads t k v = eqb v k || big t v

    keep_leads : (l : Tree) (k : ℕ) (r : Tree) → Good p (node l k r) → keep (leads (node l k r) k) (keys (node l k r)) ≡ keys (node (prune l) k (prune r))
    unfolding leads
    keep_leads l k r g =
        keep_sides (leads (node l k r) k) l k r (on l (big_left l k r below) (apart_below below)) (or_true_left (eqb k k) (big (node l k r) k) (eqb_same k)) (on r (big_right l k r above) (apart_above above))
        ∙ ap₂ (λ (xs ys : List ℕ). xs ++ k ∷ ys) (keep_big l g.2) (keep_big r g.3)
      where
        below : All (λ x. x < k) (keys l)
        below = lesser_below p k (keys l) g.0

        above : All (λ x. k < x) (keys r)
        above = greater_above p k (keys r) g.1

        apart_below : All (λ x. x < k) (keys l) → All (λ x. eqb x k ≡ false) (keys l)
        apart_below h = all_map (λ x. x < k) (λ x. eqb x k ≡ false) (λ x (q : x < k). ne_eqb x k (λ e. omega arith)) (keys l) h

        apart_above : All (λ x. k < x) (keys r) → All (λ x. eqb x k ≡ false) (keys r)
        apart_above h = all_map (λ x. k < x) (λ x. eqb x k ≡ false) (λ x (q : k < x). ne_eqb x k (λ e. omega arith)) (keys r) h

        on : (s : Tree) → All (λ x. big (node l k r) x ≡ big s x) (keys s) → All (λ x. eqb x k ≡ false) (keys s) → All (λ x. leads (node l k r) k x ≡ big s x) (keys s)
        on s a b =
            all_map (λ x. (eqb x k ≡ false) × (big (node l k r) x ≡ big s x)) (λ x. leads (node l k r) k x ≡ big s x) (λ x q. rw q.0 q.1) (keys s)
            (all_both (λ x. eqb x k ≡ false) (λ x. big (node l k r) x ≡ big s x) (keys s) b a)

    next_is_lead : (t : Tree) → Good p t → next_level α p (keys t) ≡ keys (lead t)
    unfolding next_level leads big
    next_is_lead leaf g = refl
    next_is_lead (node l k r) g =
        let t = node l k r in
        ap₂ (λ (m : ℕ) (s : Tree). cond (ltb 1 (length (keys t))) (keep (λ v. eqb v m || leb α (length (keys (subtree v s)))) (keys t)) []) (top_of_good p l k r g) (treap_unique p t g)
        ∙ ap₂ (λ (n : ℕ) (xs : List ℕ). cond (ltb 1 n) xs []) (length_keys t)
        (keep_same (λ v. eqb v k || leb α (length (keys (subtree v t)))) (leads t k) (keys t)
        (all_always (λ v. (eqb v k || leb α (length (keys (subtree v t)))) ≡ leads t k v) (λ v. ap (λ (n : ℕ). eqb v k || leb α n) (length_keys (subtree v t))) (keys t))
        ∙ keep_leads l k r g)
        ∙ choose (ltb 1 (size t))
      where
        choose : (b : Bool) → cond b (keys (node (prune l) k (prune r))) [] ≡ keys (cond b (node (prune l) k (prune r)) leaf)
        choose true = refl
        choose false = refl

    pub good_level_tree : (t : Tree) → Good p t → (i : ℕ) → Good p (level_tree t i)
    good_level_tree t g zero = g
    good_level_tree t g (suc i) = good_lead (level_tree t i) (good_level_tree t g i)

    -- Li is the keys of the treap led i times
    pub level_is_led : (ks : List ℕ) → Rising ks → (i : ℕ) → level α p ks i ≡ keys (level_tree (treap p ks) i)
    level_is_led ks s zero = sym (treap_keys p ks s)
    level_is_led ks s (suc i) =
        ap (next_level α p) (level_is_led ks s i) ∙ next_is_lead (level_tree (treap p ks) i) (good_level_tree (treap p ks) (treap_good p ks s) i)

    -- and the treap of Li is that tree
    pub treap_of_level : (ks : List ℕ) → Rising ks → (i : ℕ) → treap p (level α p ks i) ≡ level_tree (treap p ks) i
    treap_of_level ks s i =
        ap (treap p) (level_is_led ks s i) ∙ treap_unique p (level_tree (treap p ks) i) (good_level_tree (treap p ks) (treap_good p ks s) i)
