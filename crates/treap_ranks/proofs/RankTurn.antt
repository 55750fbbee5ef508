-- A turn of the loop that ranks the positions, in the code's terms. Assumes nothing.
use mathlib.Core.List.{List, ◌++◌}
use mathlib.Core.Logic.{◌⊎◌, ◌≢◌, inl, inr, ⊎_elim}
use mathlib.Core.Path.{◌≡◌, sym, ap, ap₂, ◌∙◌, subst}
use Prim.Native.Nat.{ℕ, suc, ◌-◌, ◌<◌, ◌≤◌}
use native.Mathlib.Omega.{arith}
use lib.ListN.{length, get_or, set, take, drop}
use Rattle.treap_structure.proofs.Fold.{Standing, raise}
use Rattle.treap_columns.specs.Columns.{rank_column, count_column, Ready}
use Rattle.treap_ranks.specs.Steps.{entry_at, Small, raise_root}
use Rattle.treap_columns.proofs.Reading.{Turn, turn_at, place}
use Rattle.treap_columns.proofs.PositionTree.{left_child, right_child, ChildAt}
use Rattle.treap_ranks.proofs.Ranking.{Ranked, folded, folded_small, child_read, root_standing_lem, other_standing}
use Rattle.treap_ranks.proofs.Ranking.{ranked_store, ranked_all}
use Rattle.treap_columns.proofs.Filled.{Kept}

-- The columns have this rank and this count for a position.
abbrev pub Has : List ℕ → List ℕ → ℕ → Standing → Type 0
Has rank count v s = (s.rank ≡ entry_at rank v) × (s.count ≡ entry_at count v)

-- What is known in a turn at place j.
pub record RankTurn (weights : List ℕ) (α n : ℕ) (order left right rank count : List ℕ) (j : ℕ) : Type 0 where
  pub turn : Turn weights α n order left right j
  pub rank_room : length weights ≤ length rank
  pub count_room : length weights ≤ length count
  pub done : Ranked α weights (drop (suc j) (take n order)) rank count

pub rank_turn : (weights : List ℕ) (α n : ℕ) (order left right rank count : List ℕ) (j : ℕ) → Ready weights α n order left right → 0 < j → j ≤ n
    → n ≤ length rank → n ≤ length count → Ranked α weights (drop j (take n order)) rank count
    → RankTurn weights α n order left right rank count (j - 1)
rank_turn weights α n order left right rank count j ready some most rank_room count_room done =
    let whole = ready.whole in
    let before : j ≡ suc (j - 1) = omega arith in
    record {
      turn = turn_at weights α n order left right ready (j - 1) (omega arith);
      rank_room = omega arith;
      count_room = omega arith;
      done = subst (λ (k : ℕ). Ranked α weights (drop k (take n order)) rank count) before done;
    }

module _ (weights : List ℕ) (α n : ℕ) (order left right rank count : List ℕ) (j : ℕ) (t : RankTurn weights α n order left right rank count j) where
  -- the index of the turn
  abbrev index : ℕ
  index = get_or order j 0

  low : j < length weights
  low = let here = t.turn.here in let whole = t.turn.ready.whole in omega arith

  here : index ≡ get_or (take n order) j 0
  here = place weights α n order left right t.turn.ready j t.turn.here

  -- what is read for a child is the fold at its subtree
  pub child_folded : (v : ℕ) (s : Standing) → ChildAt weights index v → Has rank count v s → s ≡ folded α weights v
  child_folded v s q has =
      ap₂ (λ (r k : ℕ). record { rank = r; count = k }) has.0 has.1
      ∙ child_read α weights t.turn.ready.wide (take n order) t.turn.ready.in_order j index low here rank count t.done v q

  -- a and b are what is read for the children
  module _ (a b : Standing) (below : Has rank count (get_or left index 0) a) (above : Has rank count (get_or right index 0) b) where
    left_folded : a ≡ folded α weights (get_or left index 0)
    left_folded = child_folded (get_or left index 0) a (inl (sym t.turn.lefts)) below

    right_folded : b ≡ folded α weights (get_or right index 0)
    right_folded = child_folded (get_or right index 0) b (inr (sym t.turn.rights)) above

    small : (s : Standing) (v : ℕ) → s ≡ folded α weights v → Small s
    small s v e =
        let q = folded_small α weights t.turn.ready.wide v in
        let ready = t.turn.ready in
        rw e (omega arith)

    pub children_small : Small a × Small b
    children_small = (small a (get_or left index 0) left_folded, small b (get_or right index 0) right_folded)

    -- the standing that is made of them is stored
    pub turn_stored : (s : Standing) → ((j ≡ 0) × (s ≡ raise_root n a b)) ⊎ ((j ≢ 0) × (s ≡ raise α a b))
        → Ranked α weights (drop j (take n order)) (set rank index s.rank) (set count index s.count)
    turn_stored s made =
        let wide = t.turn.ready.wide in
        let in_order = t.turn.ready.in_order in
        let on_left : a ≡ folded α weights (left_child weights index) = left_folded ∙ ap (folded α weights) t.turn.lefts in
        let on_right : b ≡ folded α weights (right_child weights index) = right_folded ∙ ap (folded α weights) t.turn.rights in
        ranked_store α weights wide (take n order) in_order j index low here rank count t.done s
        (⊎_elim
        (λ m.
        m.1 ∙ ap (λ (k : ℕ). raise_root k a b) t.turn.ready.whole ∙ ap₂ (raise_root (length weights)) on_left on_right
        ∙ sym (root_standing_lem α weights wide (take n order) in_order j index low here m.0))
        (λ m. m.1 ∙ ap₂ (raise α) on_left on_right ∙ sym (other_standing α weights wide (take n order) in_order j index low here m.0))
        made)
        t.rank_room t.count_room

-- After the last turn every position is ranked.
pub ranked_at_last : (weights : List ℕ) (α n : ℕ) (order left right rank₀ count₀ rank' count' : List ℕ) (j : ℕ)
    → Ready weights α n order left right → j ≤ 0 → n ≤ length rank₀ → n ≤ length count₀
    → Kept (length weights) rank₀ rank' → Kept (length weights) count₀ count' → Ranked α weights (drop j (take n order)) rank' count'
    → (rank' ≡ rank_column α weights n ++ drop n rank₀) × (count' ≡ count_column α weights n ++ drop n count₀)
ranked_at_last weights α n order left right rank₀ count₀ rank' count' j ready last rank_room count_room rank_kept count_kept done =
    let none : j ≡ 0 = omega arith in
    let whole = ready.whole in
    let all : Ranked α weights (take n order) rank' count' = subst (λ (k : ℕ). Ranked α weights (drop k (take n order)) rank' count') none done in
    subst (λ (k : ℕ). (rank' ≡ rank_column α weights k ++ drop k rank₀) × (count' ≡ count_column α weights k ++ drop k count₀)) (sym whole)
    (ranked_all α weights ready.wide (take n order) ready.in_order rank₀ count₀ rank' count' all (omega arith) (omega arith) rank_kept count_kept)
