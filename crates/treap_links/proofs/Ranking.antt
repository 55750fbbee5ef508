-- Outranking among indices: the laws of the order, what a comparison of weights tells, and that an index which outranks the
-- rest of a part is its root. Assumes nothing.
use mathlib.Core.Bool.{true, ◌||◌}
use mathlib.Core.List.{List}
use mathlib.Core.Logic.{inl, inr}
use mathlib.Core.Path.{◌≡◌, sym, subst}
use Prim.Native.Nat.{ℕ, zero, suc, ◌-◌, ◌<◌, ◌≤◌}
use native.Mathlib.Omega.{arith}
use lib.Dec.{eqb, ltb}
use lib.ListN.{get_or}
use borrow.Author.Tests.{ltb-true, ltb-false}
use Rattle.lists.proofs.Keep.{all_map}
use Rattle.lists.proofs.Tests.{by_test, or_true_left, or_true_right, Compared, compared}
use Rattle.lists.proofs.Tests.Compared.{less, same, more}
use Rattle.lists.proofs.UpFrom.{up_from-member}
use Rattle.treap.specs.Treap.{outranks, top}
use Rattle.treap_structure.proofs.Outranking.{Outranks, outranks_one_way, outranks_trans, outranks_when}
use Rattle.treap_structure.proofs.Split.{top_unique}
use Rattle.treap_columns.specs.Positions.{weight_at}
use Rattle.treap_links.specs.Links.{between}
use Rattle.treap_links.specs.Nearest.{Over}
use Rattle.treap_links.proofs.Segments.{between_within}

module _ (ws : List ℕ) where
  pub over_trans : (i j k : ℕ) → Over ws i j → Over ws j k → Over ws i k
  over_trans i j k h l = outranks_trans (weight_at ws) (suc i) (suc j) (suc k) h l

  pub over_one_way : (i j : ℕ) → Over ws i j → Over ws j i → ⊥
  over_one_way i j h l = outranks_one_way (weight_at ws) (suc i) (suc j) h l

  -- a greater weight outranks; so does the earlier of two indices, unless the later has the greater weight
  pub greater_over : (i j : ℕ) → get_or ws j 0 < get_or ws i 0 → Over ws i j
  unfolding Outranks
  greater_over i j h = outranks_when (weight_at ws) (suc i) (suc j) (inl h)

  pub earlier_over : (i j : ℕ) → i < j → get_or ws j 0 ≤ get_or ws i 0 → Over ws i j
  unfolding Outranks
  earlier_over i j h k =
      by_test (ltb (get_or ws j 0) (get_or ws i 0))
      (λ e. greater_over i j (ltb-true (get_or ws j 0) (get_or ws i 0) e))
      (λ e. let f = ltb-false (get_or ws j 0) (get_or ws i 0) e in outranks_when (weight_at ws) (suc i) (suc j) (inr (omega arith, omega arith)))

  -- what outranks an index outranks all that the index does, and itself
  pub over_through : (u m x : ℕ) → Over ws u m → (x < m → Over ws m x) → (m < x → Over ws m x) → Over ws u x
  over_through u m x o before after = go (compared x m)
    where
      go : Compared x m → Over ws u x
      go (less _ _ _ q) = over_trans u m x o (before q)
      go (same _ _ _ q) = subst (Over ws u) (sym q) o
      go (more _ _ _ q) = over_trans u m x o (after q)

  pub root_outranks : (lo hi i : ℕ) → lo ≤ i → i < hi → ((x : ℕ) → lo ≤ x → x < i → Over ws i x) → ((x : ℕ) → i < x → x < hi → Over ws i x)
      → suc i ≡ top (weight_at ws) (between lo hi)
  root_outranks lo hi i h k before after =
      sym (top_unique (weight_at ws) (between lo hi) (suc i) (up_from-member (suc lo) (hi - lo) (suc i) (omega arith) (omega arith))
      (all_map (λ x. (lo < x) × (x ≤ hi)) (λ x. (eqb x (suc i) || outranks (weight_at ws) (suc i) x) ≡ true) (λ x q. outranked x q (compared x (suc i))) (between lo hi) (between_within lo hi (omega arith))))
    where
      outranked : (x : ℕ) → (lo < x) × (x ≤ hi) → Compared x (suc i) → (eqb x (suc i) || outranks (weight_at ws) (suc i) x) ≡ true
      outranked zero q c = absurd (omega arith)
      outranked (suc x) q (less _ _ _ l) = or_true_right (eqb (suc x) (suc i)) (outranks (weight_at ws) (suc i) (suc x)) (before x (omega arith) (omega arith))
      outranked (suc x) q (same e _ _ _) = or_true_left (eqb (suc x) (suc i)) (outranks (weight_at ws) (suc i) (suc x)) e
      outranked (suc x) q (more _ _ _ l) = or_true_right (eqb (suc x) (suc i)) (outranks (weight_at ws) (suc i) (suc x)) (after x (omega arith) (omega arith))
