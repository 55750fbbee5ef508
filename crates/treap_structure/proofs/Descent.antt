-- The subtrees that a search goes down through, each the subtree of the key at its root. Assumes nothing; a law that needs a
-- heap-ordered search tree, or keys none of which is zero, says so.
use mathlib.Core.Bool.{true, cond}
use mathlib.Core.List.{List, [], ◌∷◌}
use mathlib.Core.Logic.{◌≢◌}
use mathlib.Core.Path.{◌≡◌, refl, sym, ap, ◌∙◌, subst}
use Prim.Native.Nat.{ℕ, ◌<◌, ◌≤◌}
use native.Mathlib.Omega.{arith}
use lib.Dec.{eqb, ltb}
use borrow.Author.Tests.{ne_eqb}
use Rattle.lists.specs.Lists.{member, All}
use Rattle.lists.proofs.Tests.{Compared, compared, by_test}
use Rattle.lists.proofs.Tests.Compared.{less, same, more}
use Rattle.lists.proofs.Keep.{all_append_left}
use Rattle.lists.proofs.Membership.{all_member}
use Rattle.treap.specs.Treap.{Tree, keys, root_key, left_of, right_of, subtree, path}
use Rattle.treap.specs.Treap.Tree.{leaf, node}
use Rattle.treap_structure.proofs.Shape.{size, keys_root, Good, lesser_below, greater_above}
use Rattle.treap_structure.proofs.Subtrees.{subtree_root, subtree_left, subtree_right, path_root, good_subtree, member_left, member_right}
use Rattle.treap_structure.proofs.Paths.{left_member, right_member, subtree_below}

-- ---- any tree
-- zero, no key, has no subtree
pub zero_subtree : (t : Tree) → All (λ k. 1 ≤ k) (keys t) → subtree 0 t ≡ leaf
zero_subtree leaf h = refl
zero_subtree (node l k r) h =
    subtree_left l k r 0 (all_member (λ k. 1 ≤ k) (keys (node l k r)) k h (keys_root l k r))
    ∙ zero_subtree l (all_append_left (λ k. 1 ≤ k) (keys l) (k ∷ keys r) h)

-- The side of a tree on which a search for `v` goes on.
unfoldable pub side : ℕ → Tree → Tree
side v t = cond (ltb v (root_key t)) (left_of t) (right_of t)

-- ---- one step down, from a tree that has a root
pub root_in_tree : (t : Tree) → root_key t ≢ 0 → member (root_key t) (keys t) ≡ true
root_in_tree leaf d = absurd (d refl)
root_in_tree (node l k r) d = keys_root l k r

-- a path begins with the root
pub path_begins : (t : Tree) (v : ℕ) → root_key t ≢ 0 → (rest : List ℕ) × (path v t ≡ root_key t ∷ rest)
path_begins leaf v d = absurd (d refl)
path_begins (node l k r) v d = (cond (eqb v k) [] (cond (ltb v k) (path v l) (path v r)), refl)

-- it ends there for the root itself, and goes on in the side for any other key
pub path_here : (t : Tree) (v : ℕ) → root_key t ≢ 0 → v ≡ root_key t → path v t ≡ root_key t ∷ []
path_here leaf v d e = absurd (d refl)
path_here (node l k r) v d e = ap (λ (n : ℕ). path n (node l k r)) e ∙ path_root l k r

pub path_on : (t : Tree) (v : ℕ) → root_key t ≢ 0 → v ≢ root_key t → path v t ≡ root_key t ∷ path v (side v t)
unfolding side
path_on leaf v d e = absurd (d refl)
path_on (node l k r) v d e = by_test (ltb v k) (λ f. rw (ne_eqb v k e, f)) (λ f. rw (ne_eqb v k e, f))

pub side_smaller : (t : Tree) (v : ℕ) → root_key t ≢ 0 → size (side v t) < size t
unfolding side
side_smaller leaf v d = absurd (d refl)
side_smaller (node l k r) v d = by_test (ltb v k) (λ f. rw f (omega arith)) (λ f. rw f (omega arith))

module _ (p : ℕ → ℕ) where
  -- the key is in the tree when it is in the side
  pub member_on : (t : Tree) (v : ℕ) → Good p t → root_key t ≢ 0 → v ≢ root_key t → member v (keys (side v t)) ≡ member v (keys t)
  unfolding side
  member_on leaf v g d e = absurd (d refl)
  member_on (node l k r) v g d e = go (compared v k)
    where
      go : Compared v k → member v (keys (cond (ltb v k) l r)) ≡ member v (keys (node l k r))
      go (less _ f _ q) = rw f (sym (member_left v k (keys l) (keys r) q (greater_above p k (keys r) g.1)))
      go (same _ _ _ q) = absurd (e q)
      go (more _ f _ q) = rw f (sym (member_right v k (keys l) (keys r) q (lesser_below p k (keys l) g.0)))

  -- ---- a subtree's sides, found again by their roots' keys
  module _ (t : Tree) (good : Good p t) (some : All (λ k. 1 ≤ k) (keys t)) (at : ℕ) where
    left_again : (s : Tree) → subtree at t ≡ s → subtree (root_key (left_of s)) t ≡ left_of s
    left_again leaf e = zero_subtree t some
    left_again (node leaf k r) e = zero_subtree t some
    left_again (node (node a x b) k r) e =
        let g = subst (Good p) e (good_subtree p at t good) in
        let low : x < k = all_member (λ y. y < k) (keys (node a x b)) x (lesser_below p k (keys (node a x b)) g.0) (keys_root a x b) in
        subtree_below p t at x good (ap (λ z. member x (keys z)) e ∙ left_member x (node a x b) k r (keys_root a x b))
        ∙ ap (subtree x) e
        ∙ subtree_left (node a x b) k r x low
        ∙ subtree_root a x b

    right_again : (s : Tree) → subtree at t ≡ s → subtree (root_key (right_of s)) t ≡ right_of s
    right_again leaf e = zero_subtree t some
    right_again (node l k leaf) e = zero_subtree t some
    right_again (node l k (node a x b)) e =
        let g = subst (Good p) e (good_subtree p at t good) in
        let high : k < x = all_member (λ y. k < y) (keys (node a x b)) x (greater_above p k (keys (node a x b)) g.1) (keys_root a x b) in
        subtree_below p t at x good (ap (λ z. member x (keys z)) e ∙ right_member x l k (node a x b) (keys_root a x b))
        ∙ ap (subtree x) e
        ∙ subtree_right l k (node a x b) x high
        ∙ subtree_root a x b

    pub side_again : (v : ℕ) → subtree (root_key (side v (subtree at t))) t ≡ side v (subtree at t)
    unfolding side
    side_again v =
        by_test (ltb v (root_key (subtree at t)))
        (λ f. rw f (left_again (subtree at t) refl))
        (λ f. rw f (right_again (subtree at t) refl))
