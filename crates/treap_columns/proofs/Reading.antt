-- What the code reads of its columns: the index at a place of the order, and the links of an index. Assumes nothing.
use mathlib.Core.List.{List, map}
use mathlib.Core.Logic.{inl, inr}
use mathlib.Core.Path.{◌≡◌, sym, ap, ◌∙◌}
use Prim.Native.Nat.{ℕ, suc, ◌<◌, ◌≤◌}
use native.Mathlib.Omega.{arith}
use lib.ListN.{length, get_or, take}
use lib.Seq.{get_or-take}
use Rattle.treap.specs.Treap.{left_link, right_link}
use Rattle.treap_columns.specs.Positions.{positions, weight_at}
use Rattle.treap_columns.specs.Columns.{Ready}
use Rattle.treap_columns.proofs.Filled.{column_at}
use Rattle.treap_columns.proofs.PositionTree.{left_child, right_child, child_within, index_within}

module _ (weights : List ℕ) (α n : ℕ) (order left right : List ℕ) (ready : Ready weights α n order left right) where
  -- ---- the order
  pub place : (j : ℕ) → j < n → get_or order j 0 ≡ get_or (take n order) j 0
  place j h = sym (get_or-take n order j 0 h)

  pub index_low : (j : ℕ) → j < n → get_or order j 0 < length weights
  index_low j h =
      let whole = ready.whole in
      index_within weights (take n order) ready.in_order j (get_or order j 0) (omega arith) (place j h)

  -- ---- the links
  module _ (i : ℕ) (h : i < length weights) where
    link_at : (f : List ℕ → ℕ → ℕ) (column : List ℕ) → take n column ≡ map (f (positions n)) (positions n)
        → get_or column i 0 ≡ f (positions (length weights)) (suc i)
    link_at f column e =
        let whole = ready.whole in
        column_at (f (positions n)) n column e i (omega arith) ∙ ap (λ (k : ℕ). f (positions k) (suc i)) whole

    pub left_link_lem : get_or left i 0 ≡ left_child weights i
    unfolding left_link
    left_link_lem = link_at (left_link (weight_at weights)) left ready.lefts

    pub right_link_lem : get_or right i 0 ≡ right_child weights i
    unfolding right_link
    right_link_lem = link_at (right_link (weight_at weights)) right ready.rights

-- ---- a turn of a loop over the order: what it reads, and that it is in range
pub record Turn (weights : List ℕ) (α n : ℕ) (order left right : List ℕ) (j : ℕ) : Type 0 where
  pub ready : Ready weights α n order left right
  pub here : j < n
  pub index : get_or order j 0 < length weights
  pub lefts : get_or left (get_or order j 0) 0 ≡ left_child weights (get_or order j 0)
  pub rights : get_or right (get_or order j 0) 0 ≡ right_child weights (get_or order j 0)
  pub left_low : get_or left (get_or order j 0) 0 ≤ length weights
  pub right_low : get_or right (get_or order j 0) 0 ≤ length weights

pub turn_at : (weights : List ℕ) (α n : ℕ) (order left right : List ℕ) → Ready weights α n order left right → (j : ℕ) → j < n
    → Turn weights α n order left right j
turn_at weights α n order left right ready j h =
    let low = index_low weights α n order left right ready j h in
    let on_left = left_link_lem weights α n order left right ready (get_or order j 0) low in
    let on_right = right_link_lem weights α n order left right ready (get_or order j 0) low in
    record {
      ready = ready;
      here = h;
      index = low;
      lefts = on_left;
      rights = on_right;
      left_low = child_within weights (get_or order j 0) (get_or left (get_or order j 0) 0) low (inl (sym on_left));
      right_low = child_within weights (get_or order j 0) (get_or right (get_or order j 0) 0) low (inr (sym on_right));
    }
