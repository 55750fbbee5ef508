-- One more position's children led: a position that has its leader hands it down to its children, or itself where it has
-- the higher rank. Assumes an order of at least 2.
use mathlib.Core.Bool.{true, cond}
use mathlib.Core.List.{List, [], ◌∷◌, ◌++◌}
use mathlib.Core.Logic.{inl, inr, ⊎_elim}
use mathlib.Core.Path.{◌≡◌, refl, sym, ap, ◌∙◌, subst}
use Prim.Native.Nat.{ℕ, zero, suc, ◌<◌, ◌≤◌}
use native.Mathlib.Omega.{arith}
use lib.Dec.{eqb, ltb}
use lib.ListN.{length, get_or, set, take, drop}
use lib.Seq.{take-suc}
use borrow.Author.Tests.{eqb-true, eqb-false}
use Rattle.lists.specs.Lists.{All, Rising, member}
use Rattle.lists.proofs.Tests.{by_test}
use Rattle.lists.proofs.Keep.{all_map, all_append}
use Rattle.lists.proofs.Membership.{all_member}
use Rattle.treap.specs.Treap.{Tree, root_key, left_of, right_of, subtree}
use Rattle.treap.specs.Treap.Tree.{leaf, node}
use Rattle.treap.specs.Levels.{rank, leader}
use Rattle.treap_structure.proofs.Within.{subtree_of_key}
use Rattle.treap_structure.proofs.Leaders.{leader_of_left, leader_of_right, leader_of_root}
use Rattle.treap_columns.specs.Positions.{positions, weight_at, InOrder}
use Rattle.treap_columns.specs.Columns.{leader_column}
use Rattle.treap_leaders.specs.Steps.{handed_down}
use Rattle.treap_columns.proofs.PositionTree.{tree_of, root_of, left_child, right_child, ChildAt, tree_good, position_in_tree, position_member}
use Rattle.treap_columns.proofs.PositionTree.{positions_rising, child_within, index_within, order_member, parent_index, parent_before, first_is_root}
use Rattle.treap_columns.proofs.Filled.{Filled, Kept, filled_stored, filled_store, filled_whole}

-- The rank and the leader of a position.
abbrev pub rank_of : ℕ → List ℕ → ℕ → ℕ
rank_of α weights = rank α (weight_at weights) (positions (length weights))

abbrev pub leader_of : ℕ → List ℕ → ℕ → ℕ
leader_of α weights = leader α (weight_at weights) (positions (length weights))

-- The column has the leaders of the children of a position, given by its index.
pub record Leads (α : ℕ) (weights column : List ℕ) (i : ℕ) : Type 0 where
  pub child : (v : ℕ) → ChildAt weights i v → Filled (leader_of α weights) column v

-- The column has the root's leader, and those of the children of the positions of these indices.
pub record Led (α : ℕ) (weights indices column : List ℕ) : Type 0 where
  pub root : Filled (leader_of α weights) column (root_of weights)
  pub children : All (Leads α weights column) indices

module _ (α : ℕ) (weights : List ℕ) (wide : 2 ≤ α) where
  -- ---- the leader rule over links
  HandsDown : ℕ → ℕ → Type 0
  HandsDown u v = leader_of α weights v ≡ cond (ltb (rank_of α weights v) (rank_of α weights u)) u (leader_of α weights u)

  child_leader : (i v : ℕ) → i < length weights → ChildAt weights i v → 0 < v → HandsDown (suc i) v
  unfolding HandsDown
  child_leader i v h q some =
      let (l, r, e) = subtree_of_key (weight_at weights) (tree_of weights) (suc i) (tree_good weights) (position_in_tree weights i h) in
      ⊎_elim (λ w. on_left l r e (sym (ap (λ s. root_key (left_of s)) e) ∙ w)) (λ w. on_right l r e (sym (ap (λ s. root_key (right_of s)) e) ∙ w)) q
    where
      ks : List ℕ
      ks = positions (length weights)

      rising : Rising ks
      rising = positions_rising (length weights)

      m : member (suc i) ks ≡ true
      m = position_member weights i h

      on_left : (l r : Tree) → subtree (suc i) (tree_of weights) ≡ node l (suc i) r → root_key l ≡ v → HandsDown (suc i) v
      on_left leaf r e w = absurd (omega arith)
      on_left (node a c b) r e w =
          subst (HandsDown (suc i)) w (leader_of_left α (weight_at weights) wide ks rising (suc i) c a b r m e)

      on_right : (l r : Tree) → subtree (suc i) (tree_of weights) ≡ node l (suc i) r → root_key r ≡ v → HandsDown (suc i) v
      on_right l leaf e w = absurd (omega arith)
      on_right l (node a c b) e w =
          subst (HandsDown (suc i)) w (leader_of_right α (weight_at weights) wide ks rising (suc i) c l a b m e)

  root_leader : (v : ℕ) → v ≡ root_of weights → 0 < v → leader_of α weights v ≡ 0
  root_leader v e some = go (tree_of weights) refl e
    where
      go : (t : Tree) → tree_of weights ≡ t → v ≡ root_key t → leader_of α weights v ≡ 0
      go leaf f w = absurd (omega arith)
      go (node l k r) f w = rw w (leader_of_root α (weight_at weights) wide (positions (length weights)) (positions_rising (length weights)) l k r f)

  -- ---- what is handed down, at an index i whose position has its leader
  -- the later column has the leader of v too, and all that the earlier has
  record Handed (column column' : List ℕ) (v : ℕ) : Type 0 where
    child : Filled (leader_of α weights) column' v
    others : (w : ℕ) → Filled (leader_of α weights) column w → Filled (leader_of α weights) column' w

  module _ (rank' column : List ℕ) (ranked : (k : ℕ) → k < length weights → get_or rank' k 0 ≡ rank_of α weights (suc k))
      (room : length weights ≤ length column) (i : ℕ) (low : i < length weights) (own : Filled (leader_of α weights) column (suc i)) where
    -- the number that is stored for a child
    abbrev given : ℕ → ℕ
    given k = cond (ltb (get_or rank' k 0) (get_or rank' i 0)) (suc i) (get_or column i 0)

    given_right : (k : ℕ) → ChildAt weights i (suc k) → given k ≡ leader_of α weights (suc k)
    unfolding HandsDown
    given_right k q =
        let inside = child_within weights i (suc k) low q in
        rw (ranked k inside, ranked i low, own.at (omega arith)) (sym (child_leader i (suc k) low q (omega arith)))

    handed : (v : ℕ) → ChildAt weights i v → Handed column (handed_down i v rank' column) v
    handed zero q = record { child = record { at = λ none. absurd (omega arith) }; others = λ w f. f }
    handed (suc k) q =
        let inside = child_within weights i (suc k) low q in
        record {
          child = filled_stored (leader_of α weights) column k (given k) (given_right k q) (omega arith);
          others = filled_store (leader_of α weights) column k (given k) (given_right k q) (omega arith);
        }

  -- ---- a turn
  -- a column that has all that another has is led as far
  led_more : (indices column column' : List ℕ) → ((w : ℕ) → Filled (leader_of α weights) column w → Filled (leader_of α weights) column' w)
      → Led α weights indices column → Led α weights indices column'
  led_more indices column column' more led = record {
    root = more (root_of weights) led.root;
    children =
        all_map (Leads α weights column) (Leads α weights column') (λ i q. record { child = λ v c. more v (q.child v c) }) indices led.children;
  }

  module _ (order : List ℕ) (in_order : InOrder weights order) where
    -- i is the index at place j of the order
    module _ (j i : ℕ) (low : j < length weights) (here : i ≡ get_or order j 0) where
      own_leader : (column : List ℕ) → Led α weights (take j order) column → Filled (leader_of α weights) column (suc i)
      own_leader column led =
          by_test (eqb (suc i) (root_of weights))
          (λ e. subst (Filled (leader_of α weights) column) (sym (eqb-true (suc i) (root_of weights) e)) led.root)
          (λ e.
          let (k, m, q) = parent_before weights order in_order j i low here (eqb-false (suc i) (root_of weights) e) in
          (all_member (Leads α weights column) (take j order) k led.children m).child (suc i) q)

      one_more : (column : List ℕ) → Led α weights (take j order) column → Leads α weights column i → Led α weights (take (suc j) order) column
      one_more column led leads =
          let many = in_order.many in
          record {
            root = led.root;
            children =
                rw (take-suc order j 0 (omega arith), ← here)
                (all_append (Leads α weights column) (take j order) (i ∷ []) led.children (leads, tt));
          }

      pub led_turn : (rank' column column' : List ℕ) → ((k : ℕ) → k < length weights → get_or rank' k 0 ≡ rank_of α weights (suc k))
          → length weights ≤ length column → length weights ≤ length column' → column' ≡ handed_down i (left_child weights i) rank' column
          → Led α weights (take j order) column → Led α weights (take (suc j) order) (handed_down i (right_child weights i) rank' column')
      led_turn rank' column column' ranked room room' e led =
          let inside = index_within weights order in_order j i low here in
          let own = own_leader column led in
          let l = left_child weights i in
          let r = right_child weights i in
          let first : Handed column column' l =
          subst (λ (c : List ℕ). Handed column c l) (sym e) (handed rank' column ranked room i inside own l (inl refl))
          in
          let last = handed_down i r rank' column' in
          let second = handed rank' column' ranked room' i inside (first.others (suc i) own) r (inr refl) in
          one_more last (led_more (take j order) column' last second.others (led_more (take j order) column column' first.others led))
          (record {
            child =
                λ v q.
                ⊎_elim (λ w. subst (Filled (leader_of α weights) last) w (second.others l first.child))
                (λ w. subst (Filled (leader_of α weights) last) w second.child) q;
          })

    -- ---- the first store, and the last column
    pub led_first : (column : List ℕ) (i : ℕ) → i ≡ get_or order 0 0 → 0 < length weights → length weights ≤ length column
        → Led α weights [] (set column i 0)
    led_first column i here some room =
        let inside = index_within weights order in_order 0 i some here in
        let e = first_is_root weights order in_order i some here in
        record {
          root =
              subst (Filled (leader_of α weights) (set column i 0)) e
              (filled_stored (leader_of α weights) column i 0 (sym (root_leader (suc i) e (omega arith))) (omega arith));
          children = tt;
        }

    pub led_all : (before column : List ℕ) → length weights ≤ length before → Kept (length weights) before column → Led α weights order column
        → column ≡ leader_column α weights (length weights) ++ drop (length weights) before
    led_all before column room kept led =
        filled_whole (leader_of α weights) (length weights) before column room kept
        (λ i low.
        by_test (eqb (suc i) (root_of weights))
        (λ e. subst (Filled (leader_of α weights) column) (sym (eqb-true (suc i) (root_of weights) e)) led.root)
        (λ e.
        let (k, h, q) = parent_index weights i low (eqb-false (suc i) (root_of weights) e) in
        (all_member (Leads α weights column) order k led.children (order_member weights order in_order k h)).child (suc i) q))
