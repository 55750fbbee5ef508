-- Searches that come by a key: their paths go through it, and those for keys between two such keys come by it too. Assumes a search tree.
use mathlib.Core.Bool.{true, false, ◌||◌}
use mathlib.Core.List.{List, [], ◌∷◌, ◌++◌}
use mathlib.Core.Logic.{◌⊎◌, ◌≢◌, inl, inr, ⊎_elim}
use mathlib.Core.Path.{◌≡◌, refl, sym, ap, ap₂, ◌∙◌}
use Prim.Native.Nat.{ℕ, ◌<◌, ◌≤◌}
use native.Mathlib.Omega.{arith}
use lib.Dec.{eqb, ltb}
use borrow.Author.Tests.{eqb-false, ne_eqb, lt-ltb, le-ltb}
use Rattle.lists.specs.Lists.{member}
use Rattle.lists.proofs.Tests.{Compared, compared, by_test, true_or_false, or_true_left, or_true_right}
use Rattle.lists.proofs.Tests.Compared.{less, same, more}
use Rattle.lists.proofs.Membership.{all_member}
use Rattle.treap.specs.Treap.{Tree, keys, root_key, subtree, path}
use Rattle.treap.specs.Treap.Tree.{leaf, node}
use Rattle.treap_structure.proofs.Shape.{Good, lesser_below, greater_above}
use Rattle.treap_structure.proofs.Subtrees.{subtree_root, subtree_left, subtree_right, path_root, path_left, path_right}
use Rattle.treap_structure.proofs.Paths.{above, above_root, above_left, above_right, keys_below, keys_above, left_member, right_member, path_in_tree}
use Rattle.treap_structure.proofs.Descent.{side}

module _ (p : ℕ → ℕ) where
  -- a path with a key of v's subtree goes through v, and has that key beyond
  abbrev pub Through : ℕ → ℕ → ℕ → Tree → Type 0
  Through v y q t = (path q t ≡ above v t ++ path q (subtree v t)) × (member y (path q (subtree v t)) ≡ true)

  -- the part of a path beyond the root
  pub member_beyond : (y k : ℕ) (xs : List ℕ) → y ≢ k → member y (k ∷ xs) ≡ true → member y xs ≡ true
  member_beyond y k xs d m = ap (λ b. b || member y xs) (sym (ne_eqb y k d)) ∙ m

  pub in_path : (q y : ℕ) (t : Tree) → member y (path q t) ≡ true → member y (keys t) ≡ true
  in_path q y t m = all_member (λ x. member x (keys t) ≡ true) (path q t) y (path_in_tree q t) m

  -- a key on no side of the root is the root
  only_root : (l : Tree) (k : ℕ) (r : Tree) (y q : ℕ) → q ≡ k → y ≢ k → member y (path q (node l k r)) ≡ true → ⊥
  only_root l k r y q e d m =
      true_or_false (member y (k ∷ [])) (ap (member y) (sym (ap (λ (z : ℕ). path z (node l k r)) e ∙ path_root l k r)) ∙ m) (ap (λ b. b || false) (ne_eqb y k d))

  pub path_through : (t : Tree) (v y q : ℕ) → Good p t → member y (path q t) ≡ true → member y (keys (subtree v t)) ≡ true → Through v y q t
  path_through leaf v y q g m n = absurd (true_or_false false m refl)
  path_through (node l k r) v y q g m n = go (compared v k) (path_through l v y q g.2) (path_through r v y q g.3)
    where
      t : Tree
      t = node l k r

      go : Compared v k → (member y (path q l) ≡ true → member y (keys (subtree v l)) ≡ true → Through v y q l)
          → (member y (path q r) ≡ true → member y (keys (subtree v r)) ≡ true → Through v y q r) → Through v y q t
      go (less e f h d) left right =
          let s = subtree_left l k r v d in
          let i : member y (keys (subtree v l)) ≡ true = ap (λ (z : Tree). member y (keys z)) (sym s) ∙ n in
          on (compared q k) s i (keys_below p l k r g v y i)
        where
          on : Compared q k → subtree v t ≡ subtree v l → member y (keys (subtree v l)) ≡ true → y < k → Through v y q t
          on (less _ _ _ c) s i low =
              let way = path_left l k r q c in
              let (w, z) = left (member_beyond y k (path q l) (λ e. omega arith) (ap (member y) (sym way) ∙ m)) i in (
                way ∙ ap (λ (xs : List ℕ). k ∷ xs) w ∙ sym (ap₂ (λ (xs : List ℕ) (u : Tree). xs ++ path q u) (above_left v l k r d) s),
                ap (λ (u : Tree). member y (path q u)) s ∙ z,
              )
          on (same _ _ _ c) s i low = absurd (only_root l k r y q c (λ e. omega arith) m)
          on (more _ _ _ c) s i low =
              let beyond = member_beyond y k (path q r) (λ e. omega arith) (ap (member y) (sym (path_right l k r q c)) ∙ m) in
              let high = all_member (λ x. k < x) (keys r) y (greater_above p k (keys r) g.1) (in_path q y r beyond) in
              absurd (omega arith)
      go (same e f h d) left right =
          let s : subtree v t ≡ t = ap (λ (z : ℕ). subtree z t) d ∙ subtree_root l k r in (
            sym (ap₂ (λ (xs : List ℕ) (u : Tree). xs ++ path q u) (ap (λ (z : ℕ). above z t) d ∙ above_root l k r) s),
            ap (λ (u : Tree). member y (path q u)) s ∙ m,
          )
      go (more e f h d) left right =
          let s = subtree_right l k r v d in
          let i : member y (keys (subtree v r)) ≡ true = ap (λ (z : Tree). member y (keys z)) (sym s) ∙ n in
          on (compared q k) s i (keys_above p l k r g v y i)
        where
          on : Compared q k → subtree v t ≡ subtree v r → member y (keys (subtree v r)) ≡ true → k < y → Through v y q t
          on (less _ _ _ c) s i high =
              let beyond = member_beyond y k (path q l) (λ e. omega arith) (ap (member y) (sym (path_left l k r q c)) ∙ m) in
              let low = all_member (λ x. x < k) (keys l) y (lesser_below p k (keys l) g.0) (in_path q y l beyond) in
              absurd (omega arith)
          on (same _ _ _ c) s i high = absurd (only_root l k r y q c (λ e. omega arith) m)
          on (more _ _ _ c) s i high =
              let way = path_right l k r q c in
              let (w, z) = right (member_beyond y k (path q r) (λ e. omega arith) (ap (member y) (sym way) ∙ m)) i in (
                way ∙ ap (λ (xs : List ℕ). k ∷ xs) w ∙ sym (ap₂ (λ (xs : List ℕ) (u : Tree). xs ++ path q u) (above_right v l k r d) s),
                ap (λ (u : Tree). member y (path q u)) s ∙ z,
              )

  -- what is beside a tree's root is in the tree, and the root is not
  pub beside_in : (s : Tree) (q x : ℕ) → member x (keys (side q s)) ≡ true → member x (keys s) ≡ true
  unfolding side
  beside_in leaf q x i = by_test (ltb q 0) (λ f. rw f at i) (λ f. rw f at i)
  beside_in (node l k r) q x i = by_test (ltb q k) (λ f. left_member x l k r (rw f at i)) (λ f. right_member x l k r (rw f at i))

  -- it is on the side of the search that goes there
  pub beside_order : (s : Tree) (q x : ℕ) → Good p s → member x (keys (side q s)) ≡ true → ltb q (root_key s) ≡ ltb x (root_key s)
  unfolding side
  beside_order leaf q x g i = by_test (ltb q 0) (λ f. absurd (true_or_false false (rw f at i) refl)) (λ f. absurd (true_or_false false (rw f at i) refl))
  beside_order (node l k r) q x g i =
      by_test (ltb q k)
      (λ f. f ∙ sym (lt-ltb x k (all_member (λ y. y < k) (keys l) x (lesser_below p k (keys l) g.0) (rw f at i))))
      (λ f. let h = all_member (λ y. k < y) (keys r) x (greater_above p k (keys r) g.1) (rw f at i) in f ∙ sym (le-ltb x k (omega arith)))

  pub root_not_beside : (s : Tree) (q : ℕ) → Good p s → member (root_key s) (keys (side q s)) ≡ true → ⊥
  unfolding side
  root_not_beside leaf q g i = by_test (ltb q 0) (λ f. true_or_false false (rw f at i) refl) (λ f. true_or_false false (rw f at i) refl)
  root_not_beside (node l k r) q g i =
      by_test (ltb q k)
      (λ f. let h = all_member (λ x. x < k) (keys l) k (lesser_below p k (keys l) g.0) (rw f at i) in absurd (omega arith))
      (λ f. let h = all_member (λ x. k < x) (keys r) k (greater_above p k (keys r) g.1) (rw f at i) in absurd (omega arith))

  -- searches for lesser and greater keys that come by v have those between them come by v
  pub path_between : (t : Tree) (v lo q hi : ℕ) → Good p t → lo ≤ q → q ≤ hi → member v (path lo t) ≡ true → member v (path hi t) ≡ true → member v (path q t) ≡ true
  path_between leaf v lo q hi g a b m n = m
  path_between (node l k r) v lo q hi g a b m n =
      by_test (eqb v k) (λ e. or_true_left (eqb v k) _ e)
      (λ e. go (eqb-false v k e) (compared q k) (path_between l v lo q hi g.2 a b) (path_between r v lo q hi g.3 a b))
    where
      t : Tree
      t = node l k r

      on_left : v ≢ k → (z : ℕ) → z < k → member v (path z t) ≡ true → member v (path z l) ≡ true
      on_left d z h i = member_beyond v k (path z l) d (ap (member v) (sym (path_left l k r z h)) ∙ i)

      on_right : v ≢ k → (z : ℕ) → k < z → member v (path z t) ≡ true → member v (path z r) ≡ true
      on_right d z h i = member_beyond v k (path z r) d (ap (member v) (sym (path_right l k r z h)) ∙ i)

      low : (z : ℕ) → member v (path z l) ≡ true → v < k
      low z i = all_member (λ x. x < k) (keys l) v (lesser_below p k (keys l) g.0) (in_path z v l i)

      high : (z : ℕ) → member v (path z r) ≡ true → k < v
      high z i = all_member (λ x. k < x) (keys r) v (greater_above p k (keys r) g.1) (in_path z v r i)

      -- which side a search that comes by v takes
      turn : v ≢ k → (z : ℕ) → member v (path z t) ≡ true → ((z < k) × (v < k)) ⊎ ((k < z) × (k < v))
      turn d z i = sides (compared z k)
        where
          sides : Compared z k → ((z < k) × (v < k)) ⊎ ((k < z) × (k < v))
          sides (less _ _ _ c) = inl (c, low z (on_left d z c i))
          sides (same _ _ _ c) = absurd (only_root l k r v z c d i)
          sides (more _ _ _ c) = inr (c, high z (on_right d z c i))

      go : v ≢ k → Compared q k → (member v (path lo l) ≡ true → member v (path hi l) ≡ true → member v (path q l) ≡ true)
          → (member v (path lo r) ≡ true → member v (path hi r) ≡ true → member v (path q r) ≡ true) → member v (path q t) ≡ true
      go d (less _ _ _ c) left right =
          ⊎_elim
          (λ w.
          ⊎_elim
          (λ z. ap (member v) (path_left l k r q c) ∙ or_true_right (eqb v k) (member v (path q l)) (left (on_left d lo w.0 m) (on_left d hi z.0 n)))
          (λ z. absurd (omega (arith, w.1, z.1))) (turn d hi n))
          (λ w. absurd (omega (arith, w.0))) (turn d lo m)
      go d (same _ _ _ c) left right = ⊎_elim (λ w. ⊎_elim (λ z. absurd (omega (arith, z.0))) (λ z. absurd (omega (arith, w.1, z.1))) (turn d hi n)) (λ w. absurd (omega (arith, w.0))) (turn d lo m)
      go d (more _ _ _ c) left right =
          ⊎_elim
          (λ z. absurd (omega (arith, z.0)))
          (λ z.
          ⊎_elim
          (λ w. absurd (omega (arith, w.1, z.1)))
          (λ w. ap (member v) (path_right l k r q c) ∙ or_true_right (eqb v k) (member v (path q r)) (right (on_right d lo w.0 m) (on_right d hi z.0 n)))
          (turn d lo m))
          (turn d hi n)
