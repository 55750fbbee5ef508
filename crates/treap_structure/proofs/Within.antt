-- What is left of a subtree in a pruned tree is the subtree pruned. Assumes nothing.
use mathlib.Core.Bool.{true, false}
use mathlib.Core.List.{List, [], ◌∷◌, ◌++◌, append-nil}
use mathlib.Core.Logic.{◌≢◌, ⊎_elim}
use mathlib.Core.Path.{◌≡◌, refl, sym, ap, ap₂, ◌∙◌, subst}
use Prim.Native.Nat.{ℕ, zero, suc, ◌<◌, ◌≤◌}
use native.Mathlib.Omega.{arith}
use lib.ListN.{length}
use Rattle.lists.specs.Lists.{keep, member, All}
use Rattle.lists.proofs.Tests.{Compared, compared, true_or_false}
use Rattle.lists.proofs.Tests.Compared.{less, same, more}
use Rattle.lists.proofs.Keep.{all_map, keep_append, keep_all, keep_none}
use Rattle.lists.proofs.Membership.{all_of_members, not-member}
use Rattle.treap.specs.Treap.{Tree, keys, subtree}
use Rattle.treap.specs.Treap.Tree.{leaf, node}
use Rattle.treap_structure.proofs.Shape.{size, length_keys, Good, lesser_below, greater_above}
use Rattle.treap_structure.proofs.Subtrees.{subtree_root, subtree_left, subtree_right, all_subtree, member_left, member_right}
use Rattle.treap_structure.proofs.Prune.{pruned, all_prune}
use Rattle.treap_structure.proofs.Fold.{Over, pruned_leaf, pruned_over}

-- a list of no elements is the empty one
pub none_left : (xs : List ℕ) → length xs ≡ 0 → xs ≡ []
none_left [] h = refl
none_left (x ∷ xs) h = absurd (omega arith)

pub no_keys : (t : Tree) → size t ≡ 0 → keys t ≡ []
no_keys t h = none_left (keys t) (length_keys t ∙ h)

module _ (p : ℕ → ℕ) where
  -- a key of a search tree is the root of its subtree
  pub subtree_of_key : (t : Tree) (v : ℕ) → Good p t → member v (keys t) ≡ true → (a : Tree) × (b : Tree) × (subtree v t ≡ node a v b)
  subtree_of_key leaf v g m = absurd (true_or_false false m refl)
  subtree_of_key (node l k r) v g m = go (compared v k) (subtree_of_key l v g.2) (subtree_of_key r v g.3)
    where
      Found : Tree → Type 0
      Found s = (a : Tree) × (b : Tree) × (s ≡ node a v b)

      go : Compared v k → (member v (keys l) ≡ true → Found (subtree v l)) → (member v (keys r) ≡ true → Found (subtree v r)) → Found (subtree v (node l k r))
      go (less e f h q) left right = rw (subtree_left l k r v q) (left (sym (member_left v k (keys l) (keys r) q (greater_above p k (keys r) g.1)) ∙ m))
      go (same e f h q) left right = (l, r, subst (λ (x : ℕ). subtree x (node l k r) ≡ node l x r) (sym q) (subtree_root l k r))
      go (more e f h q) left right = rw (subtree_right l k r v q) (right (sym (member_right v k (keys l) (keys r) q (lesser_below p k (keys l) g.0)) ∙ m))

  module _ (α : ℕ) where
    pub all_pruned : (P : ℕ → Type 0) (i : ℕ) (t : Tree) → All P (keys t) → All P (keys (pruned α i t))
    all_pruned P zero t h = h
    all_pruned P (suc i) t h = all_prune α P (pruned α i t) (all_pruned P i t h)

    -- the keys of a list that lie in a tree
    abbrev pub within : Tree → List ℕ → List ℕ
    within s xs = keep (λ u. member u (keys s)) xs

    -- of a tree over pruned children, what lies in a part of the left one, and of the right one
    pub within_left : (i : ℕ) (s : Tree) (l : Tree) (k : ℕ) (r : Tree) (part : Tree) → Good p (node l k r) → Over α i s l k r → All (λ x. x < k) (keys part)
        → within part (keys (pruned α i l)) ≡ keys (pruned α i part) → within part (keys s) ≡ keys (pruned α i part)
    unfolding Over
    within_left i s l k r part g over low ih =
        ⊎_elim
        (λ e.
        ap (λ t. within part (keys t)) e
        ∙ keep_append (λ u. member u (keys part)) (keys (pruned α i l)) (k ∷ keys (pruned α i r))
        ∙ ap₂ (λ (xs ys : List ℕ). xs ++ ys) ih
        (keep_none (λ u. member u (keys part)) (k ∷ keys (pruned α i r))
        (outside k (omega arith), all_pruned (λ u. member u (keys part) ≡ false) i r (all_map (λ x. k < x) (λ u. member u (keys part) ≡ false) (λ u (q : k < u). outside u (omega arith)) (keys r) (greater_above p k (keys r) g.1))))
        ∙ append-nil (keys (pruned α i part)))
        (λ e. ap (λ t. within part (keys t)) e.0 ∙ ap (within part) (sym (no_keys (pruned α i l) e.1)) ∙ ih)
        over
      where
        outside : (u : ℕ) → k ≤ u → member u (keys part) ≡ false
        outside u h = not-member u (keys part) (all_map (λ x. x < k) (λ x. u ≢ x) (λ x (q : x < k) e. omega arith) (keys part) low)

    pub within_right : (i : ℕ) (s : Tree) (l : Tree) (k : ℕ) (r : Tree) (part : Tree) → Good p (node l k r) → Over α i s l k r → All (λ x. k < x) (keys part)
        → within part (keys (pruned α i r)) ≡ keys (pruned α i part) → within part (keys s) ≡ keys (pruned α i part)
    unfolding Over
    within_right i s l k r part g over high ih =
        ⊎_elim
        (λ e.
        ap (λ t. within part (keys t)) e
        ∙ keep_append (λ u. member u (keys part)) (keys (pruned α i l)) (k ∷ keys (pruned α i r))
        ∙ ap₂ (λ (xs ys : List ℕ). xs ++ ys)
        (keep_none (λ u. member u (keys part)) (keys (pruned α i l))
        (all_pruned (λ u. member u (keys part) ≡ false) i l (all_map (λ x. x < k) (λ u. member u (keys part) ≡ false) (λ u (q : u < k). outside u (omega arith)) (keys l) (lesser_below p k (keys l) g.0))))
        (rw (outside k (omega arith)) ih))
        (λ e. ap (λ t. within part (keys t)) e.0 ∙ ap (within part) (sym (no_keys (pruned α i r) e.2)) ∙ ih)
        over
      where
        outside : (u : ℕ) → u ≤ k → member u (keys part) ≡ false
        outside u h = not-member u (keys part) (all_map (λ x. k < x) (λ x. u ≢ x) (λ x (q : k < x) e. omega arith) (keys part) high)

    -- what is left of v's subtree after i prunings is v's subtree pruned i times
    pub within_pruned : (i : ℕ) (t : Tree) (v : ℕ) → Good p t → within (subtree v t) (keys (pruned α i t)) ≡ keys (pruned α i (subtree v t))
    within_pruned i leaf v g = rw (pruned_leaf α i)
    within_pruned i (node l k r) v g = go (compared v k) (within_pruned i l v g.2) (within_pruned i r v g.3)
      where
        Left : Tree → Type 0
        Left part = within part (keys (pruned α i (node l k r))) ≡ keys (pruned α i part)

        go : Compared v k → within (subtree v l) (keys (pruned α i l)) ≡ keys (pruned α i (subtree v l))
            → within (subtree v r) (keys (pruned α i r)) ≡ keys (pruned α i (subtree v r)) → Left (subtree v (node l k r))
        go (less e f h q) left right =
            rw (subtree_left l k r v q)
            (within_left i (pruned α i (node l k r)) l k r (subtree v l) g (pruned_over α i l k r) (all_subtree (λ x. x < k) v l (lesser_below p k (keys l) g.0)) left)
        go (same e f h q) left right =
            subst Left (sym (subtree_root l k r) ∙ ap (λ (z : ℕ). subtree z (node l k r)) (sym q))
            (keep_all (λ u. member u (keys (node l k r))) (keys (pruned α i (node l k r)))
            (all_pruned (λ u. member u (keys (node l k r)) ≡ true) i (node l k r) (all_of_members (λ u. member u (keys (node l k r)) ≡ true) (keys (node l k r)) (λ x m. m))))
        go (more e f h q) left right =
            rw (subtree_right l k r v q)
            (within_right i (pruned α i (node l k r)) l k r (subtree v r) g (pruned_over α i l k r) (all_subtree (λ x. k < x) v r (greater_above p k (keys r) g.1)) right)
