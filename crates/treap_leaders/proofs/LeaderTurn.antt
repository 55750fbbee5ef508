-- A turn of the loop that hands leaders down, in the code's terms. Assumes nothing.
use mathlib.Core.List.{List, ◌++◌}
use mathlib.Core.Logic.{◌≢◌}
use mathlib.Core.Path.{◌≡◌, sym, ap, ◌∙◌, subst}
use Prim.Native.Nat.{ℕ, zero, suc, ◌+◌, ◌≤◌}
use native.Mathlib.Numerals.{add-one}
use native.Mathlib.Omega.{arith}
use lib.ListN.{length, get_or, set, take, drop}
use lib.Seq.{take_all, length-take-le}
use Rattle.std.proofs.lemmas.List.{take-take}
use Rattle.treap_columns.specs.Positions.{InOrder}
use Rattle.treap_columns.specs.Columns.{rank_column, leader_column, Ready}
use Rattle.treap_leaders.specs.Steps.{handed_down}
use Rattle.treap_columns.proofs.Filled.{Kept, kept_store, column_at}
use Rattle.treap_columns.proofs.Reading.{Turn, place}
use Rattle.treap_leaders.proofs.Leading.{Led, rank_of, led_turn, led_first, led_all}

-- ---- one store, as the code makes it
module _ (parent : ℕ) (rank leader : List ℕ) where
  pub handed_kept : (n : ℕ) (before : List ℕ) (child : ℕ) → child ≤ n → Kept n before leader → Kept n before (handed_down parent child rank leader)
  handed_kept n before zero low kept = kept
  handed_kept n before (suc k) low kept = kept_store n before leader k _ low kept

-- ---- no position
module _ (weights : List ℕ) (α n : ℕ) (order left right : List ℕ) (ready : Ready weights α n order left right) where
  -- ---- what is ready with an order is ready with its first n entries
  pub ready_taken : Ready weights α n (take n order) left right
  ready_taken = record {
    wide = ready.wide;
    narrow = ready.narrow;
    whole = ready.whole;
    few = ready.few;
    order_room = omega (arith, length-take-le n order ready.order_room);
    left_room = ready.left_room;
    right_room = ready.right_room;
    in_order = subst (InOrder weights) (sym (take-take n n order (omega arith))) ready.in_order;
    lefts = ready.lefts;
    rights = ready.rights;
  }

  -- ---- the first store
  pub led_at_first : (column : List ℕ) → n ≢ 0 → n ≤ length column → Led α weights (take 0 (take n order)) (set column (get_or order 0 0) 0)
  led_at_first column some room =
      let whole = ready.whole in
      let here = place weights α n order left right ready 0 (omega arith) in
      led_first α weights ready.wide (take n order) ready.in_order column (get_or order 0 0) here (omega arith) (omega arith)

  -- ---- a turn
  pub led_next : (rank' column column' column'' : List ℕ) (j : ℕ) → Turn weights α n order left right j
      → take n rank' ≡ rank_column α weights n
      → n ≤ length column → n ≤ length column'
      → column' ≡ handed_down (get_or order j 0) (get_or left (get_or order j 0) 0) rank' column
      → column'' ≡ handed_down (get_or order j 0) (get_or right (get_or order j 0) 0) rank' column'
      → Led α weights (take j (take n order)) column → Led α weights (take (j + 1) (take n order)) column''
  led_next rank' column column' column'' j t ranks room room' first second led =
      let whole = ready.whole in
      let here = t.here in
      let i = get_or order j 0 in
      let ranked : take (length weights) rank' ≡ rank_column α weights (length weights) =
      subst (λ (k : ℕ). take k rank' ≡ rank_column α weights k) whole ranks
      in
      let next =
      led_turn α weights ready.wide (take n order) ready.in_order j i (omega arith) (place weights α n order left right ready j here)
      rank' column column' (column_at (rank_of α weights) (length weights) rank' ranked) (omega arith) (omega arith)
      (first ∙ ap (λ (v : ℕ). handed_down i v rank' column) t.lefts) led in
      rw (add-one, second, t.rights) next

  -- ---- the whole column
  pub led_at_last : (before column : List ℕ) (j : ℕ) → n ≤ j → n ≤ length before → Kept (length weights) before column
      → Led α weights (take j (take n order)) column → column ≡ leader_column α weights n ++ drop n before
  led_at_last before column j last room kept led =
      let whole = ready.whole in
      let short : length (take n order) ≤ j = omega (arith, length-take-le n order ready.order_room) in
      subst (λ (k : ℕ). column ≡ leader_column α weights k ++ drop k before) (sym whole)
      (led_all α weights ready.wide (take n order) ready.in_order before column (omega arith) kept
      (subst (λ (done : List ℕ). Led α weights done column) (take_all j (take n order) short) led))
