-- Search paths and subtrees: what lies below a key is found through it. Assumes nothing.
use mathlib.Core.Bool.{true, false, cond}
use mathlib.Core.List.{List, [], ◌∷◌, ◌++◌}
use mathlib.Core.Logic.{◌≢◌}
use mathlib.Core.Path.{◌≡◌, refl, sym, ap, ap₂, ◌∙◌, subst}
use Prim.Native.Nat.{ℕ, ◌<◌}
use native.Mathlib.Omega.{arith}
use lib.Dec.{eqb, ltb}
use borrow.Author.Tests.{lt-ltb, le-ltb, ne_eqb}
use Rattle.lists.specs.Lists.{member, All, Pairwise}
use Rattle.lists.proofs.Tests.{Compared, compared, by_test, true_or_false, or_true_left, or_true_right}
use Rattle.lists.proofs.Tests.Compared.{less, same, more}
use Rattle.lists.proofs.Keep.{all_map}
use Rattle.lists.proofs.Membership.{eqb_same, all_member, member-append}
use Rattle.lists.proofs.Pairwise.{pairwise_map}
use Rattle.treap.specs.Treap.{Tree, keys, root_key, subtree, path}
use Rattle.treap.specs.Treap.Tree.{leaf, node}
use Rattle.treap_structure.proofs.Shape.{keys_root, Good, lesser_below, greater_above}
use Rattle.treap_structure.proofs.Subtrees.{subtree_root, subtree_left, subtree_right, path_left, path_right, all_subtree}

-- The ancestors of u, itself left out.
abbrev pub above : ℕ → Tree → List ℕ
above u leaf = []
above u (node l k r) =
    let in_left = above u l in
    let in_right = above u r in
    cond (eqb u k) [] (k ∷ cond (ltb u k) in_left in_right)

pub above_root : (l : Tree) (k : ℕ) (r : Tree) → above k (node l k r) ≡ []
above_root l k r = rw (eqb_same k)

pub above_left : (u : ℕ) (l : Tree) (k : ℕ) (r : Tree) → u < k → above u (node l k r) ≡ k ∷ above u l
above_left u l k r h = rw (ne_eqb u k (λ e. omega arith), lt-ltb u k h)

pub above_right : (u : ℕ) (l : Tree) (k : ℕ) (r : Tree) → k < u → above u (node l k r) ≡ k ∷ above u r
above_right u l k r h = rw (ne_eqb u k (λ e. omega arith), le-ltb u k (omega arith))

-- ---- a tree's sides
pub left_member : (x : ℕ) (l : Tree) (k : ℕ) (r : Tree) → member x (keys l) ≡ true → member x (keys (node l k r)) ≡ true
left_member x l k r m = member-append x (keys l) (k ∷ keys r) ∙ or_true_left (member x (keys l)) (member x (k ∷ keys r)) m

pub right_member : (x : ℕ) (l : Tree) (k : ℕ) (r : Tree) → member x (keys r) ≡ true → member x (keys (node l k r)) ≡ true
right_member x l k r m =
    member-append x (keys l) (k ∷ keys r) ∙ or_true_right (member x (keys l)) (member x (k ∷ keys r)) (or_true_right (eqb x k) (member x (keys r)) m)

-- the keys on a path are keys of the tree
pub path_in_tree : (v : ℕ) (t : Tree) → All (λ x. member x (keys t) ≡ true) (path v t)
path_in_tree v leaf = tt
path_in_tree v (node l k r) = (
  keys_root l k r,
  by_test (eqb v k) (λ e. rw e tt)
      (λ e.
      by_test (ltb v k)
      (λ f. rw (e, f) (all_map (λ x. member x (keys l) ≡ true) (λ x. member x (keys (node l k r)) ≡ true) (λ x m. left_member x l k r m) (path v l) (path_in_tree v l)))
      (λ f. rw (e, f) (all_map (λ x. member x (keys r) ≡ true) (λ x. member x (keys (node l k r)) ≡ true) (λ x m. right_member x l k r m) (path v r) (path_in_tree v r)))),
)

module _ (p : ℕ → ℕ) where
  pub keys_below : (l : Tree) (k : ℕ) (r : Tree) → Good p (node l k r) → (u v : ℕ) → member v (keys (subtree u l)) ≡ true → v < k
  keys_below l k r g u v m = all_member (λ x. x < k) (keys (subtree u l)) v (all_subtree (λ x. x < k) u l (lesser_below p k (keys l) g.0)) m

  pub keys_above : (l : Tree) (k : ℕ) (r : Tree) → Good p (node l k r) → (u v : ℕ) → member v (keys (subtree u r)) ≡ true → k < v
  keys_above l k r g u v m = all_member (λ x. k < x) (keys (subtree u r)) v (all_subtree (λ x. k < x) u r (greater_above p k (keys r) g.1)) m

  -- the root lies in no subtree but its own
  pub not_root_below : (t : Tree) (u v : ℕ) → Good p t → u ≢ root_key t → member v (keys (subtree u t)) ≡ true → v ≢ root_key t
  not_root_below leaf u v g d m = absurd (true_or_false false m refl)
  not_root_below (node l k r) u v g d m = go (compared u k)
    where
      go : Compared u k → v ≢ k
      go (less e f h q) i = let low = keys_below l k r g u v (ap (λ (z : Tree). member v (keys z)) (sym (subtree_left l k r u q)) ∙ m) in omega arith
      go (same e f h q) i = d q
      go (more e f h q) i = let high = keys_above l k r g u v (ap (λ (z : Tree). member v (keys z)) (sym (subtree_right l k r u q)) ∙ m) in omega arith

  -- ---- what lies in u's subtree has the same subtree there, and its path goes through u
  pub subtree_below : (t : Tree) (u v : ℕ) → Good p t → member v (keys (subtree u t)) ≡ true → subtree v t ≡ subtree v (subtree u t)
  subtree_below leaf u v g m = refl
  subtree_below (node l k r) u v g m = go (compared u k) (subtree_below l u v g.2) (subtree_below r u v g.3)
    where
      t : Tree
      t = node l k r

      go : Compared u k → (member v (keys (subtree u l)) ≡ true → subtree v l ≡ subtree v (subtree u l))
          → (member v (keys (subtree u r)) ≡ true → subtree v r ≡ subtree v (subtree u r)) → subtree v t ≡ subtree v (subtree u t)
      go (less e f h q) left right =
          let s = subtree_left l k r u q in
          let i : member v (keys (subtree u l)) ≡ true = ap (λ (z : Tree). member v (keys z)) (sym s) ∙ m in
          subtree_left l k r v (keys_below l k r g u v i) ∙ left i ∙ ap (subtree v) (sym s)
      go (same e f h q) left right = ap (subtree v) (sym (ap (λ (z : ℕ). subtree z t) q ∙ subtree_root l k r))
      go (more e f h q) left right =
          let s = subtree_right l k r u q in
          let i : member v (keys (subtree u r)) ≡ true = ap (λ (z : Tree). member v (keys z)) (sym s) ∙ m in
          subtree_right l k r v (keys_above l k r g u v i) ∙ right i ∙ ap (subtree v) (sym s)

  pub path_below : (t : Tree) (u v : ℕ) → Good p t → member v (keys (subtree u t)) ≡ true → path v t ≡ above u t ++ path v (subtree u t)
  path_below leaf u v g m = absurd (true_or_false false m refl)
  path_below (node l k r) u v g m = go (compared u k) (path_below l u v g.2) (path_below r u v g.3)
    where
      t : Tree
      t = node l k r

      go : Compared u k → (member v (keys (subtree u l)) ≡ true → path v l ≡ above u l ++ path v (subtree u l))
          → (member v (keys (subtree u r)) ≡ true → path v r ≡ above u r ++ path v (subtree u r)) → path v t ≡ above u t ++ path v (subtree u t)
      go (less e f h q) left right =
          let s = subtree_left l k r u q in
          let i : member v (keys (subtree u l)) ≡ true = ap (λ (z : Tree). member v (keys z)) (sym s) ∙ m in
          path_left l k r v (keys_below l k r g u v i) ∙ ap (λ (xs : List ℕ). k ∷ xs) (left i)
          ∙ sym (ap₂ (λ (xs : List ℕ) (z : Tree). xs ++ path v z) (above_left u l k r q) s)
      go (same e f h q) left right =
          sym (ap₂ (λ (xs : List ℕ) (z : Tree). xs ++ path v z) (ap (λ (z : ℕ). above z t) q ∙ above_root l k r) (ap (λ (z : ℕ). subtree z t) q ∙ subtree_root l k r))
      go (more e f h q) left right =
          let s = subtree_right l k r u q in
          let i : member v (keys (subtree u r)) ≡ true = ap (λ (z : Tree). member v (keys z)) (sym s) ∙ m in
          path_right l k r v (keys_above l k r g u v i) ∙ ap (λ (xs : List ℕ). k ∷ xs) (right i)
          ∙ sym (ap₂ (λ (xs : List ℕ) (z : Tree). xs ++ path v z) (above_right u l k r q) s)

  -- ---- every key on a path lies in the subtree of those before it
  abbrev pub InSubtree : Tree → ℕ → ℕ → Type 0
  InSubtree t x y = member y (keys (subtree x t)) ≡ true

  pub path_nested : (t : Tree) (v : ℕ) → Good p t → Pairwise (InSubtree t) (path v t)
  path_nested leaf v g = tt
  path_nested (node l k r) v g = (
    subst (λ s. All (λ y. member y (keys s) ≡ true) rest) (sym (subtree_root l k r)) (path_in_tree v t).1,
    by_test (eqb v k) (λ e. rw e tt) (λ e. by_test (ltb v k) (λ f. rw (e, f) (in_left_lem (path_nested l v g.2))) (λ f. rw (e, f) (in_right_lem (path_nested r v g.3)))),
  )
    where
      t : Tree
      t = node l k r

      rest : List ℕ
      rest = cond (eqb v k) [] (cond (ltb v k) (path v l) (path v r))

      in_left_lem : Pairwise (InSubtree l) (path v l) → Pairwise (InSubtree t) (path v l)
      in_left_lem h =
          pairwise_map (λ x. x < k) (InSubtree l) (InSubtree t) (λ x y q _ m. ap (λ (z : Tree). member y (keys z)) (subtree_left l k r x q) ∙ m) (path v l)
          (all_map (λ x. member x (keys l) ≡ true) (λ x. x < k) (λ x m. all_member (λ x. x < k) (keys l) x (lesser_below p k (keys l) g.0) m) (path v l) (path_in_tree v l)) h

      in_right_lem : Pairwise (InSubtree r) (path v r) → Pairwise (InSubtree t) (path v r)
      in_right_lem h =
          pairwise_map (λ x. k < x) (InSubtree r) (InSubtree t) (λ x y q _ m. ap (λ (z : Tree). member y (keys z)) (subtree_right l k r x q) ∙ m) (path v r)
          (all_map (λ x. member x (keys r) ≡ true) (λ x. k < x) (λ x m. all_member (λ x. k < x) (keys r) x (greater_above p k (keys r) g.1) m) (path v r) (path_in_tree v r)) h
