-- The treap of the positions under given weights: its keys, its children, and their places in the order of outranking.
-- Assumes nothing.
use mathlib.Core.Bool.{true, false}
use mathlib.Core.List.{List}
use mathlib.Core.Logic.{◌≢◌}
use mathlib.Core.Path.{◌≡◌, refl, sym, ap, ◌∙◌, subst}
use Prim.Native.Nat.{ℕ, zero, suc, ◌+◌, ◌<◌, ◌≤◌}
use native.Mathlib.Omega.{arith}
use lib.Dec.{eqb}
use lib.ListN.{length, get_or, take, drop}
use borrow.Author.Tests.{eqb-true, eqb-false}
use Rattle.lists.specs.Lists.{All, Rising, member, up_from}
use Rattle.lists.proofs.Tests.{by_test, true_or_false}
use Rattle.lists.proofs.Keep.{all_map, all_at}
use Rattle.lists.proofs.Membership.{all_member}
use Rattle.lists.proofs.UpFrom.{up_from-length, up_from_within, up_from_rising, up_from-member}
use Rattle.treap.specs.Treap.{Tree, keys, root_key, left_of, right_of, subtree, outranks, treap}
use Rattle.treap_structure.proofs.Outranking.{outranks_one_way}
use Rattle.treap_structure.proofs.Shape.{size, length_keys, Good, treap_keys, treap_good}
use Rattle.treap_columns.specs.Positions.{positions, weight_at, InOrder}
use Rattle.treap_columns.proofs.Children.{Positive, ChildOf, child_member, child_outranked, parent_of}
use Rattle.lists.proofs.Ordered.{pairwise_at, after_place, before_place}

-- The treap of the positions of the weights.
abbrev pub tree_of : List ℕ → Tree
tree_of weights = treap (weight_at weights) (positions (length weights))

-- Its root's position; zero for none.
abbrev pub root_of : List ℕ → ℕ
root_of weights = root_key (tree_of weights)

-- The children of the position of an index; zero for none.
abbrev pub left_child : List ℕ → ℕ → ℕ
left_child weights i = root_key (left_of (subtree (suc i) (tree_of weights)))

abbrev pub right_child : List ℕ → ℕ → ℕ
right_child weights i = root_key (right_of (subtree (suc i) (tree_of weights)))

abbrev pub ChildAt : List ℕ → ℕ → ℕ → Type 0
ChildAt weights i v = ChildOf (subtree (suc i) (tree_of weights)) v

pub positions_rising : (n : ℕ) → Rising (positions n)
positions_rising n = up_from_rising 1 n

module _ (weights : List ℕ) where
  pub tree_good : Good (weight_at weights) (tree_of weights)
  tree_good = treap_good (weight_at weights) (positions (length weights)) (positions_rising (length weights))

  tree_keys : keys (tree_of weights) ≡ positions (length weights)
  tree_keys = treap_keys (weight_at weights) (positions (length weights)) (positions_rising (length weights))

  pub tree_size : size (tree_of weights) ≡ length weights
  tree_size = sym (length_keys (tree_of weights)) ∙ ap length tree_keys ∙ up_from-length 1 (length weights)

  tree_within : All (λ v. (1 ≤ v) × (v < 1 + length weights)) (keys (tree_of weights))
  tree_within = subst (All (λ v. (1 ≤ v) × (v < 1 + length weights))) (sym tree_keys) (up_from_within 1 (length weights))

  pub tree_positive : Positive (tree_of weights)
  tree_positive = all_map (λ v. (1 ≤ v) × (v < 1 + length weights)) (λ v. 0 < v) (λ v q. q.0) (keys (tree_of weights)) tree_within

  -- the keys are the positions
  pub position_member : (i : ℕ) → i < length weights → member (suc i) (positions (length weights)) ≡ true
  position_member i h = up_from-member 1 (length weights) (suc i) (omega arith) (omega arith)

  pub position_in_tree : (i : ℕ) → i < length weights → member (suc i) (keys (tree_of weights)) ≡ true
  position_in_tree i h = ap (member (suc i)) tree_keys ∙ position_member i h

  pub key_within : (i : ℕ) → member (suc i) (keys (tree_of weights)) ≡ true → i < length weights
  key_within i m = let q = all_member (λ v. (1 ≤ v) × (v < 1 + length weights)) (keys (tree_of weights)) (suc i) tree_within m in omega arith

  -- a child is a position, or none
  pub child_within : (i v : ℕ) → i < length weights → ChildAt weights i v → v ≤ length weights
  child_within i zero h q = omega arith
  child_within i (suc k) h q = key_within k (child_member (weight_at weights) (tree_of weights) tree_good tree_positive (suc i) (suc k) q (omega arith))

  -- a position but the root has a parent
  pub parent_index : (i : ℕ) → i < length weights → suc i ≢ root_of weights → (k : ℕ) × (k < length weights) × ChildAt weights k (suc i)
  parent_index i h d = let (u, m, q) = parent_of (weight_at weights) (tree_of weights) (suc i) tree_good (position_in_tree i h) d in found u m q
    where
      found : (u : ℕ) → member u (keys (tree_of weights)) ≡ true → ChildOf (subtree u (tree_of weights)) (suc i)
          → (k : ℕ) × (k < length weights) × ChildAt weights k (suc i)
      found zero m q = let none : 0 < 0 = all_member (λ x. 0 < x) (keys (tree_of weights)) 0 tree_positive m in absurd (omega arith)
      found (suc k) m q = (k, key_within k m, q)

  -- ---- places in the order of outranking
  module _ (order : List ℕ) (in_order : InOrder weights order) where
    abbrev Before : ℕ → ℕ → Type 0
    Before i k = outranks (weight_at weights) (suc i) (suc k) ≡ true

    one_way : (i k : ℕ) → Before i k → Before k i → ⊥
    one_way i k = outranks_one_way (weight_at weights) (suc i) (suc k)

    pub order_member : (i : ℕ) → i < length weights → member i order ≡ true
    order_member i h =
        all_member (λ k. member k order ≡ true) (up_from 0 (length weights)) i in_order.complete
        (up_from-member 0 (length weights) i (omega arith) (omega arith))

    -- i is the index at place j
    module _ (j i : ℕ) (low : j < length weights) (here : i ≡ get_or order j 0) where
      place_within : j < length order
      place_within = let e = in_order.many in omega arith

      pub index_within : i < length weights
      index_within = rw here (all_at (λ k. k < length weights) order j 0 in_order.indices place_within)

      -- the children of a position come after it
      pub child_after : (k : ℕ) → ChildAt weights i (suc k) → member k (drop (suc j) order) ≡ true
      child_after k q =
          after_place Before one_way order in_order.ranked j k place_within (order_member k (child_within i (suc k) index_within q))
          (subst (λ (x : ℕ). Before x k) here
          (child_outranked (weight_at weights) (tree_of weights) (suc i) (suc k) tree_good (position_in_tree i index_within) q (omega arith)))

      -- a position is the root, or its parent comes before it
      pub parent_before : suc i ≢ root_of weights → (k : ℕ) × (member k (take j order) ≡ true) × ChildAt weights k (suc i)
      parent_before d =
          let (k, h, q) = parent_index i index_within d in (
            k,
            before_place Before one_way order in_order.ranked j k place_within (order_member k h)
                (subst (Before k) here
                (child_outranked (weight_at weights) (tree_of weights) (suc k) (suc i) tree_good (position_in_tree k h) q (omega arith))),
            q,
          )

    -- the root comes first, and only there
    pub first_is_root : (i : ℕ) → 0 < length weights → i ≡ get_or order 0 0 → suc i ≡ root_of weights
    first_is_root i some here =
        by_test (eqb (suc i) (root_of weights))
        (λ e. eqb-true (suc i) (root_of weights) e)
        (λ e. let (k, m, q) = parent_before 0 i some here (eqb-false (suc i) (root_of weights) e) in absurd (true_or_false false m refl))

    pub later_not_root : (j i : ℕ) → 0 < j → j < length weights → i ≡ get_or order j 0 → suc i ≢ root_of weights
    later_not_root j i some low here e =
        let first = first_is_root (get_or order 0 0) (omega arith) refl in
        let r = pairwise_at Before order 0 j in_order.ranked some (place_within j i low here) in
        let self = subst (λ (v : ℕ). outranks (weight_at weights) v (suc i) ≡ true) (first ∙ sym e) (subst (Before (get_or order 0 0)) (sym here) r) in
        outranks_one_way (weight_at weights) (suc i) (suc i) self self
