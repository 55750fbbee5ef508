-- Subtrees and search paths in a search tree: at the root, on its left and on its right. Assumes nothing.
use mathlib.Core.Bool.{true, false, ◌||◌, or-false}
use mathlib.Core.List.{List, [], ◌∷◌, ◌++◌}
use mathlib.Core.Logic.{◌≢◌}
use mathlib.Core.Path.{◌≡◌, refl, ap, ap₂, ◌∙◌}
use Prim.Native.Nat.{ℕ, suc, ◌+◌, ◌<◌, ◌≤◌}
use native.Mathlib.Omega.{arith}
use lib.Dec.{eqb, ltb}
use borrow.Author.Tests.{lt-ltb, le-ltb, ne_eqb}
use Rattle.lists.specs.Lists.{member, All}
use Rattle.lists.proofs.Tests.{by_test, true_or_false}
use Rattle.lists.proofs.Keep.{all_map, all_append_left, all_append_right}
use Rattle.lists.proofs.Membership.{eqb_same, all_member, all_of_members, member-append, not-member}
use Rattle.treap.specs.Treap.{Tree, keys, root_key, subtree, path}
use Rattle.treap.specs.Treap.Tree.{leaf, node}
use Rattle.treap_structure.proofs.Shape.{size, Good}

module _ (l : Tree) (k : ℕ) (r : Tree) where
  pub subtree_root : subtree k (node l k r) ≡ node l k r
  subtree_root = rw (eqb_same k)

  pub subtree_left : (v : ℕ) → v < k → subtree v (node l k r) ≡ subtree v l
  subtree_left v h = rw (ne_eqb v k (λ e. omega arith), lt-ltb v k h)

  pub subtree_right : (v : ℕ) → k < v → subtree v (node l k r) ≡ subtree v r
  subtree_right v h = rw (ne_eqb v k (λ e. omega arith), le-ltb v k (omega arith))

  pub path_root : path k (node l k r) ≡ k ∷ []
  path_root = rw (eqb_same k)

  pub path_left : (v : ℕ) → v < k → path v (node l k r) ≡ k ∷ path v l
  path_left v h = rw (ne_eqb v k (λ e. omega arith), lt-ltb v k h)

  pub path_right : (v : ℕ) → k < v → path v (node l k r) ≡ k ∷ path v r
  path_right v h = rw (ne_eqb v k (λ e. omega arith), le-ltb v k (omega arith))

-- a tree is the subtree of its root
pub root_subtree : (t : Tree) → subtree (root_key t) t ≡ t
root_subtree leaf = refl
root_subtree (node l k r) = subtree_root l k r

-- what holds of a tree's subtree holds of one of three
pub subtree_cases : (P : Tree → Type 0) (v : ℕ) (l : Tree) (k : ℕ) (r : Tree) → P (node l k r) → P (subtree v l) → P (subtree v r) → P (subtree v (node l k r))
subtree_cases P v l k r here left right =
    by_test (eqb v k) (λ e. rw e here) (λ e. by_test (ltb v k) (λ f. rw (e, f) left) (λ f. rw (e, f) right))

pub size_subtree : (v : ℕ) (t : Tree) → size (subtree v t) ≤ size t
size_subtree v leaf = omega arith
size_subtree v (node l k r) =
    let a = size_subtree v l in
    let b = size_subtree v r in
    subtree_cases (λ s. size s ≤ size l + suc (size r)) v l k r (omega arith) (omega arith) (omega arith)

-- the keys of a subtree are keys of the tree
pub all_subtree : (P : ℕ → Type 0) (v : ℕ) (t : Tree) → All P (keys t) → All P (keys (subtree v t))
all_subtree P v leaf h = tt
all_subtree P v (node l k r) h =
    subtree_cases (λ s. All P (keys s)) v l k r h
    (all_subtree P v l (all_append_left P (keys l) (k ∷ keys r) h))
    (all_subtree P v r (all_append_right P (keys l) (k ∷ keys r) h).1)

pub inside : (t : Tree) (u v : ℕ) → member v (keys (subtree u t)) ≡ true → member v (keys t) ≡ true
inside t u v m =
    all_member (λ x. member x (keys t) ≡ true) (keys (subtree u t)) v
    (all_subtree (λ x. member x (keys t) ≡ true) u t (all_of_members (λ x. member x (keys t) ≡ true) (keys t) (λ x i. i))) m

-- a subtree of a heap-ordered search tree is one
pub good_subtree : (p : ℕ → ℕ) (v : ℕ) (t : Tree) → Good p t → Good p (subtree v t)
good_subtree p v leaf g = tt
good_subtree p v (node l k r) g = subtree_cases (Good p) v l k r g (good_subtree p v l g.2) (good_subtree p v r g.3)

-- a tree that has a key has a size
pub some_key : (t : Tree) (v : ℕ) → member v (keys t) ≡ true → 0 < size t
some_key leaf v m = absurd (true_or_false false m refl)
some_key (node l k r) v m = omega arith

-- a key left of k among keys that k separates, and a key right of it
pub member_left : (v k : ℕ) (xs ys : List ℕ) → v < k → All (λ y. k < y) ys → member v (xs ++ k ∷ ys) ≡ member v xs
member_left v k xs ys h a =
    member-append v xs (k ∷ ys)
    ∙ ap (λ b. member v xs || b) (not-member v (k ∷ ys) ((λ e. omega arith), all_map (λ y. k < y) (λ y. v ≢ y) (λ y (q : k < y) e. omega arith) ys a))
    ∙ or-false (member v xs)

pub member_right : (v k : ℕ) (xs ys : List ℕ) → k < v → All (λ x. x < k) xs → member v (xs ++ k ∷ ys) ≡ member v ys
member_right v k xs ys h a =
    member-append v xs (k ∷ ys)
    ∙ ap₂ (λ b c. b || c) (not-member v xs (all_map (λ x. x < k) (λ x. v ≢ x) (λ x (q : x < k) e. omega arith) xs a))
    (ap (λ b. b || member v ys) (ne_eqb v k (λ e. omega arith)))
