-- What is prepared: the order of priorities is an order of outranking, and links and leaders are positions.
-- Assumes an order of at least 2.
use mathlib.Core.Bool.{true, ◌||◌, ◌&&◌}
use mathlib.Core.List.{List, map}
use mathlib.Core.Logic.{inl, inr}
use mathlib.Core.Path.{◌≡◌, refl, sym, ap, ap₂, ◌∙◌, subst, subst₂}
use Prim.Native.Nat.{ℕ, zero, suc, ◌+◌, ◌<◌, ◌≤◌}
use native.Mathlib.Omega.{arith}
use lib.Dec.{eqb, ltb, leb-suc-suc}
use lib.ListN.{length, get_or, take, replicate, length-map, length-take, length-replicate}
use borrow.Author.Tests.{eqb-true, eqb-false}
use Rattle.lists.specs.Lists.{member, up_from, sort_by, Rising}
use Rattle.lists.proofs.Tests.{by_test, true_or_false}
use Rattle.lists.proofs.Keep.{all_map, all_always}
use Rattle.lists.proofs.Membership.{all_member}
use Rattle.lists.proofs.Pairwise.{pairwise_map}
use Rattle.lists.proofs.UpFrom.{up_from_within, up_from_rising, up_from-member}
use Rattle.priority.specs.Priority.{priority_with, home_of}
use Rattle.sorting.specs.ByWeight.{heavier, by_weight}
use Rattle.sorting.proofs.ByWeight.{by_weight-length, by_weight_within, by_weight-member, by_weight_ordered}
use Rattle.treap.specs.Treap.{Tree, keys, root_key, outranks, top, treap, left_link, right_link}
use Rattle.treap.specs.Treap.Tree.{leaf, node}
use Rattle.treap.specs.Levels
use Rattle.treap.specs.Levels.{leader}
use Rattle.treap.specs.Slots.{slots_of}
use Rattle.treap_structure.proofs.Shape.{top_member, treap_keys}
use Rattle.treap_structure.proofs.Leaders.{leader_of_root}
use Rattle.treap_structure.proofs.Ancestors.{leader_leads}
use Rattle.treap_columns.specs.Positions.{positions, weight_at, InOrder}
use Rattle.treap_columns.specs.declared.Columns.{Columns}
use Rattle.treap_columns.proofs.Filled.{column_length}
use Rattle.treap_columns.proofs.PositionTree.{child_within}
use Rattle.table_slots.proofs.Placing.{place_all-length}
use Rattle.table_prepare.specs.Prepared.{Filled, Prepared}

-- ---- positions by falling weight stand in outranking order
heavier_outranks : (ws : List ℕ) (i j : ℕ) → outranks (weight_at ws) (suc i) (suc j) ≡ heavier ws i j
unfolding outranks heavier
heavier_outranks ws i j = ap (λ b. ltb (get_or ws j 0) (get_or ws i 0) || (eqb (get_or ws i 0) (get_or ws j 0) && b)) (leb-suc-suc (suc i) j)

pub in_order : (ws : List ℕ) → InOrder ws (by_weight ws)
in_order ws =
    record {
      many = by_weight-length ws;
      indices = by_weight_within ws;
      complete = all_map (λ i. (0 ≤ i) × (i < 0 + length ws)) (λ i. member i (by_weight ws) ≡ true) (λ i h. by_weight-member ws i (omega arith)) (up_from 0 (length ws)) (up_from_within 0 (length ws));
      ranked =
          pairwise_map (λ _. Unit {0}) (λ i j. heavier ws i j ≡ true) (λ i j. outranks (weight_at ws) (suc i) (suc j) ≡ true) (λ i j _ _ h. heavier_outranks ws i j ∙ h) (by_weight ws) (all_always (λ _. Unit {0}) (λ _. tt) (by_weight ws)) (by_weight_ordered ws);
    }

-- ---- links and leaders are positions or zero
module _ (ws : List ℕ) where
  pub left_low_lem : (i : ℕ) → i < length ws → left_link (weight_at ws) (positions (length ws)) (suc i) ≤ length ws
  unfolding left_link
  left_low_lem i h = child_within ws i (left_link (weight_at ws) (positions (length ws)) (suc i)) h (inl refl)

  pub right_low_lem : (i : ℕ) → i < length ws → right_link (weight_at ws) (positions (length ws)) (suc i) ≤ length ws
  unfolding right_link
  right_low_lem i h = child_within ws i (right_link (weight_at ws) (positions (length ws)) (suc i)) h (inr refl)

  position_low : (v : ℕ) → member v (positions (length ws)) ≡ true → v ≤ length ws
  position_low v m = let b = all_member (λ x. (1 ≤ x) × (x < 1 + length ws)) (positions (length ws)) v (up_from_within 1 (length ws)) m in omega arith

  pub leader_low : (order : ℕ) → 2 ≤ order → (i : ℕ) → i < length ws → leader order (weight_at ws) (positions (length ws)) (suc i) ≤ length ws
  leader_low order wide i h = go (treap q is) refl
    where
      q : ℕ → ℕ
      q = weight_at ws

      is : List ℕ
      is = positions (length ws)

      here : member (suc i) is ≡ true
      here = up_from-member 1 (length ws) (suc i) (omega arith) (omega arith)

      rise : Rising is
      rise = up_from_rising 1 (length ws)

      go : (t : Tree) → treap q is ≡ t → leader order q is (suc i) ≤ length ws
      go leaf e = absurd (true_or_false (member (suc i) is) here (ap (member (suc i)) (sym (treap_keys q is rise) ∙ ap keys e)))
      go (node l k r) e =
          by_test (eqb (suc i) k)
          (λ t. let z = ap (leader order q is) (eqb-true (suc i) k t) ∙ leader_of_root order q wide is rise l k r e in omega arith)
          (λ t. position_low (leader order q is (suc i)) (leader_leads order q wide is rise (suc i) here (λ x. eqb-false (suc i) k t (x ∙ ap root_key e))).key)

-- ---- what the parts yield together
-- a list that begins with so many numbers has room for them
pub room : (column new : List ℕ) (n : ℕ) → take n column ≡ new → length new ≡ n → n ≤ length column
room column new n e h = let m = length-take n column in let l = ap length e in omega arith

module _ (salt : ℕ) (ks weights : List ℕ) (weights-are : take (length ks) weights ≡ map (priority_with salt) ks) where
  pub many_weights : length (take (length ks) weights) ≡ length ks
  many_weights = ap length weights-are ∙ length-map ks (priority_with salt)

  pub ranking_in_order : (ranking : List ℕ) → take (length ks) ranking ≡ by_weight (map (priority_with salt) ks)
      → InOrder (take (length ks) weights) (take (length ks) ranking)
  ranking_in_order ranking e = subst₂ InOrder (sym weights-are) (sym e) (in_order (map (priority_with salt) ks))

  pub placed_many : (slots : List ℕ) (many : ℕ)
      → slots ≡ slots_of (weight_at (take (length ks) weights)) (λ i. home_of (weight_at (take (length ks) weights) i) many) many (positions (length (take (length ks) weights)))
      → length slots ≡ many
  unfolding slots_of
  placed_many slots many s =
      ap length s
      ∙ place_all-length (λ i. home_of (weight_at (take (length ks) weights) i) many) (replicate many 0)
      (sort_by (outranks (weight_at (take (length ks) weights))) (positions (length (take (length ks) weights))))
      ∙ length-replicate many 0

  pub prepared_from : (order : ℕ) (columns : Columns) (slots : List ℕ) (many root : ℕ)
      → root ≡ top (weight_at (take (length ks) weights)) (positions (length (take (length ks) weights)))
      → Filled order (take (length ks) weights) columns
      → slots ≡ slots_of (weight_at (take (length ks) weights)) (λ i. home_of (weight_at (take (length ks) weights) i) many) many (positions (length (take (length ks) weights)))
      → Prepared order salt ks columns slots root
  prepared_from order columns slots many root r f s =
      let ws = map (priority_with salt) ks in
      let n = length ks in
      let same = placed_many slots many s in
      let filled : Filled order ws columns = subst (λ (w : List ℕ). Filled order w columns) weights-are f in
      let space : (column : List ℕ) (g : ℕ → ℕ) → take (length ws) column ≡ map g (positions (length ws)) → n ≤ length column =
      λ column g e. let h = room column (map g (positions (length ws))) (length ws) e (column_length g (length ws)) in let m = length-map ks (priority_with salt) in omega arith
      in
      record {
        root_is = r ∙ ap₂ (λ (w : List ℕ) (m : ℕ). top (weight_at w) (positions m)) weights-are many_weights;
        filled = filled;
        placed =
            s
            ∙ ap₂ (λ (w : List ℕ) (m : ℕ). slots_of (weight_at w) (λ i. home_of (weight_at w i) many) many (positions m)) weights-are many_weights
            ∙ ap (λ (m : ℕ). slots_of (weight_at ws) (λ i. home_of (weight_at ws i) m) m (positions n)) (sym same);
        left_room = space columns.left (left_link (weight_at ws) (positions (length ws))) filled.lefts;
        right_room = space columns.right (right_link (weight_at ws) (positions (length ws))) filled.rights;
        rank_room = space columns.rank (Levels.rank order (weight_at ws) (positions (length ws))) filled.ranks;
        count_room = space columns.count (Levels.count order (weight_at ws) (positions (length ws))) filled.counts;
        leader_room = space columns.leader (leader order (weight_at ws) (positions (length ws))) filled.leaders;
      }

-- the root is a position or zero
pub root_low : (q : ℕ → ℕ) (n : ℕ) → top q (positions n) ≤ n
unfolding top
root_low q zero = omega arith
root_low q (suc n) =
    let b = all_member (λ x. (1 ≤ x) × (x < 1 + suc n)) (positions (suc n)) (top q (positions (suc n))) (up_from_within 1 (suc n)) (top_member q 1 (up_from 2 n)) in
    omega arith
