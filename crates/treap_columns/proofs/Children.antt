-- The children of a key in a heap-ordered search tree: each is the root of its own subtree and outranked by its parent,
-- and every key but the root is a child. Zero stands for no key. Assumes that zero is no key of the tree.
use mathlib.Core.Bool.{true, false}
use mathlib.Core.List.{◌∷◌}
use mathlib.Core.Logic.{◌⊎◌, ◌≢◌, inl, inr, ⊎_elim}
use mathlib.Core.Path.{◌≡◌, refl, sym, ap, ◌∙◌, subst}
use Prim.Native.Nat.{ℕ, ◌<◌}
use native.Mathlib.Omega.{arith}
use lib.Dec.{eqb}
use borrow.Author.Tests.{eqb-true, eqb-false}
use Rattle.lists.specs.Lists.{All, member}
use Rattle.lists.proofs.Tests.{Compared, compared, by_test, true_or_false}
use Rattle.lists.proofs.Tests.Compared.{less, same, more}
use Rattle.lists.proofs.Keep.{all_map, all_append_left, all_append_right}
use Rattle.lists.proofs.Membership.{all_member}
use Rattle.treap.specs.Treap.{Tree, keys, root_key, left_of, right_of, subtree, outranks}
use Rattle.treap.specs.Treap.Tree.{leaf, node}
use Rattle.treap_structure.proofs.Shape.{keys_root, Good, Lesser, Greater, lesser_below, greater_above}
use Rattle.treap_structure.proofs.Subtrees.{inside, good_subtree, subtree_root, subtree_left, subtree_right, all_subtree, member_left, member_right}
use Rattle.treap_structure.proofs.Within.{subtree_of_key}
use Rattle.treap_structure.proofs.Paths.{subtree_below, left_member, right_member}
use Rattle.treap_structure.proofs.Outranking.{outranks_one_way}

-- Zero is no key of the tree.
abbrev pub Positive : Tree → Type 0
Positive t = All (λ x. 0 < x) (keys t)

pub subtree_of_zero : (t : Tree) → Positive t → subtree 0 t ≡ leaf
subtree_of_zero leaf h = refl
subtree_of_zero (node l k r) h =
    subtree_left l k r 0 (all_append_right (λ x. 0 < x) (keys l) (k ∷ keys r) h).0
    ∙ subtree_of_zero l (all_append_left (λ x. 0 < x) (keys l) (k ∷ keys r) h)

-- v is the root of the subtree left or right of the root of s.
abbrev pub ChildOf : Tree → ℕ → Type 0
ChildOf s v = (root_key (left_of s) ≡ v) ⊎ (root_key (right_of s) ≡ v)

module _ (p : ℕ → ℕ) where
  -- ---- the subtree of a child
  left_part : (s : Tree) → Good p s → Positive s → subtree (root_key (left_of s)) s ≡ left_of s
  left_part leaf g h = refl
  left_part (node leaf k r) g h = subtree_of_zero (node leaf k r) h
  left_part (node (node a c b) k r) g h =
      let low : c < k = all_member (λ x. x < k) (keys (node a c b)) c (lesser_below p k (keys (node a c b)) g.0) (keys_root a c b) in
      subtree_left (node a c b) k r c low ∙ subtree_root a c b

  right_part : (s : Tree) → Good p s → Positive s → subtree (root_key (right_of s)) s ≡ right_of s
  right_part leaf g h = refl
  right_part (node l k leaf) g h = subtree_of_zero (node l k leaf) h
  right_part (node l k (node a c b)) g h =
      let high : k < c = all_member (λ x. k < x) (keys (node a c b)) c (greater_above p k (keys (node a c b)) g.1) (keys_root a c b) in
      subtree_right l k (node a c b) c high ∙ subtree_root a c b

  -- a part of a subtree is the same part of the tree
  part_again : (t : Tree) (u : ℕ) (s : Tree) → Good p t → Positive t → subtree (root_key s) (subtree u t) ≡ s → subtree (root_key s) t ≡ s
  part_again t u leaf g h e = subtree_of_zero t h
  part_again t u (node a c b) g h e =
      subtree_below p t u c g (inside (subtree u t) c c (ap (λ z. member c (keys z)) e ∙ keys_root a c b)) ∙ e

  module _ (t : Tree) (g : Good p t) (positive : Positive t) (u : ℕ) where
    good : Good p (subtree u t)
    good = good_subtree p u t g

    still_positive : Positive (subtree u t)
    still_positive = all_subtree (λ x. 0 < x) u t positive

    pub subtree_of_left : subtree (root_key (left_of (subtree u t))) t ≡ left_of (subtree u t)
    subtree_of_left = part_again t u (left_of (subtree u t)) g positive (left_part (subtree u t) good still_positive)

    pub subtree_of_right : subtree (root_key (right_of (subtree u t))) t ≡ right_of (subtree u t)
    subtree_of_right = part_again t u (right_of (subtree u t)) g positive (right_part (subtree u t) good still_positive)

  -- a child is a key of the tree
  part_member : (t s : Tree) → subtree (root_key s) t ≡ s → 0 < root_key s → member (root_key s) (keys t) ≡ true
  part_member t leaf e some = absurd (omega arith)
  part_member t (node a c b) e some = inside t c c (ap (λ z. member c (keys z)) e ∙ keys_root a c b)

  pub child_member : (t : Tree) → Good p t → Positive t → (u v : ℕ) → ChildOf (subtree u t) v → 0 < v → member v (keys t) ≡ true
  child_member t g positive u v q some =
      ⊎_elim (among (left_of (subtree u t)) (subtree_of_left t g positive u)) (among (right_of (subtree u t)) (subtree_of_right t g positive u)) q
    where
      among : (s : Tree) → subtree (root_key s) t ≡ s → root_key s ≡ v → member v (keys t) ≡ true
      among s e w = subst (λ (x : ℕ). member x (keys t) ≡ true) w (part_member t s e (rw w some))

  -- ---- a parent outranks its children
  root_outranked : (u v : ℕ) (s : Tree) → All (λ x. outranks p u x ≡ true) (keys s) → root_key s ≡ v → 0 < v → outranks p u v ≡ true
  root_outranked u v leaf h e some = absurd (omega arith)
  root_outranked u v (node a c b) h e some =
      subst (λ (x : ℕ). outranks p u x ≡ true) e (all_member (λ x. outranks p u x ≡ true) (keys (node a c b)) c h (keys_root a c b))

  pub child_outranked : (t : Tree) (u v : ℕ) → Good p t → member u (keys t) ≡ true → ChildOf (subtree u t) v → 0 < v → outranks p u v ≡ true
  child_outranked t u v g m q some =
      let (l, r, e) = subtree_of_key p t u g m in
      let good = subst (Good p) e (good_subtree p u t g) in
      let lesser = all_map (Lesser p u) (λ x. outranks p u x ≡ true) (λ x z. z.1) (keys l) good.0 in
      let greater = all_map (Greater p u) (λ x. outranks p u x ≡ true) (λ x z. z.1) (keys r) good.1 in
      ⊎_elim
      (λ w. root_outranked u v l lesser (sym (ap (λ s. root_key (left_of s)) e) ∙ w) some)
      (λ w. root_outranked u v r greater (sym (ap (λ s. root_key (right_of s)) e) ∙ w) some)
      q

  -- ---- the root outranks every other key, and is no child
  pub root_outranks : (t : Tree) (u : ℕ) → Good p t → member u (keys t) ≡ true → u ≢ root_key t → outranks p (root_key t) u ≡ true
  root_outranks leaf u g m d = absurd (true_or_false false m refl)
  root_outranks (node l k r) u g m d = go (compared u k)
    where
      go : Compared u k → outranks p k u ≡ true
      go (less e f h q) =
          let i = sym (member_left u k (keys l) (keys r) q (greater_above p k (keys r) g.1)) ∙ m in
          (all_member (Lesser p k) (keys l) u g.0 i).1
      go (same e f h q) = absurd (d q)
      go (more e f h q) =
          let i = sym (member_right u k (keys l) (keys r) q (lesser_below p k (keys l) g.0)) ∙ m in
          (all_member (Greater p k) (keys r) u g.1 i).1

  pub root_not_outranked : (t : Tree) (u : ℕ) → Good p t → member u (keys t) ≡ true → outranks p u (root_key t) ≡ true → ⊥
  root_not_outranked t u g m o =
      by_test (eqb u (root_key t))
      (λ e. let self = subst (λ (x : ℕ). outranks p u x ≡ true) (sym (eqb-true u (root_key t) e)) o in outranks_one_way p u u self self)
      (λ e. outranks_one_way p u (root_key t) o (root_outranks t u g m (eqb-false u (root_key t) e)))

  -- ---- every key but the root has a parent
  Parent : Tree → ℕ → Type 0
  Parent t v = (u : ℕ) × (member u (keys t) ≡ true) × ChildOf (subtree u t) v

  -- a parent in a part of the tree is one in the tree
  lifted : (t s : Tree) (v : ℕ) → ((u : ℕ) → member u (keys s) ≡ true → (member u (keys t) ≡ true) × (subtree u t ≡ subtree u s))
      → Parent s v → Parent t v
  unfolding Parent
  lifted t s v up (u, m, q) = (u, (up u m).0, subst (λ z. ChildOf z v) (sym (up u m).1) q)

  pub parent_of : (t : Tree) (v : ℕ) → Good p t → member v (keys t) ≡ true → v ≢ root_key t
      → (u : ℕ) × (member u (keys t) ≡ true) × ChildOf (subtree u t) v
  unfolding Parent
  parent_of leaf v g m d = absurd (true_or_false false m refl)
  parent_of (node l k r) v g m d = go (compared v k) (parent_of l v g.2) (parent_of r v g.3)
    where
      t : Tree
      t = node l k r

      here : ChildOf t v → Parent t v
      here q = (k, keys_root l k r, subst (λ z. ChildOf z v) (sym (subtree_root l k r)) q)

      from_left : (u : ℕ) → member u (keys l) ≡ true → (member u (keys t) ≡ true) × (subtree u t ≡ subtree u l)
      from_left u i = (left_member u l k r i, subtree_left l k r u (all_member (λ x. x < k) (keys l) u (lesser_below p k (keys l) g.0) i))

      from_right : (u : ℕ) → member u (keys r) ≡ true → (member u (keys t) ≡ true) × (subtree u t ≡ subtree u r)
      from_right u i = (right_member u l k r i, subtree_right l k r u (all_member (λ x. k < x) (keys r) u (greater_above p k (keys r) g.1) i))

      go : Compared v k → (member v (keys l) ≡ true → v ≢ root_key l → Parent l v) → (member v (keys r) ≡ true → v ≢ root_key r → Parent r v)
          → Parent t v
      go (less e f h q) left right =
          let i = sym (member_left v k (keys l) (keys r) q (greater_above p k (keys r) g.1)) ∙ m in
          by_test (eqb v (root_key l))
          (λ z. here (inl (sym (eqb-true v (root_key l) z))))
          (λ z. lifted t l v from_left (left i (eqb-false v (root_key l) z)))
      go (same e f h q) left right = absurd (d q)
      go (more e f h q) left right =
          let i = sym (member_right v k (keys l) (keys r) q (lesser_below p k (keys l) g.0)) ∙ m in
          by_test (eqb v (root_key r))
          (λ z. here (inr (sym (eqb-true v (root_key r) z))))
          (λ z. lifted t r v from_right (right i (eqb-false v (root_key r) z)))
