-- An `InOrder` list is the positions in outranking order, less one. Assumes nothing.
use mathlib.Core.Bool.{true}
use mathlib.Core.List.Permᴰ
use mathlib.Core.List.{List, map, Permᴰ}
use mathlib.Core.Path.{◌≡◌, subst}
use Prim.Native.Nat.{ℕ, suc, ◌<◌}
use native.Mathlib.Omega.{arith}
use lib.ListN.{length}
use Rattle.lists.specs.Lists.{All, member, up_from, sort_by}
use Rattle.lists.proofs.Keep.{all_map, all_mapped, all_always}
use Rattle.lists.proofs.Membership.{all_member, all_of_members, member-map}
use Rattle.lists.proofs.Pairwise.{pairwise_map, pairwise_mapped, pairwise_unique}
use Rattle.lists.proofs.Sorting.{all_permuted, sort_by_permutes, sort_by_ordered, Either}
use Rattle.lists.proofs.UpFrom.{up_from_rising, up_from-member, up_from_shifted}
use Rattle.treap.specs.Treap.{outranks}
use Rattle.treap_structure.proofs.Outranking.{outranks_one_way, outranks_trans, outranks_total}
use Rattle.treap_columns.specs.Positions.{positions, weight_at, InOrder}

module _ (ws order : List ℕ) (sorted : InOrder ws order) where
  Ahead : ℕ → ℕ → Type 0
  Ahead x y = outranks (weight_at ws) x y ≡ true

  in_sort : List ℕ
  in_sort = sort_by (outranks (weight_at ws)) (positions (length ws))

  permuted : Permᴰ in_sort (positions (length ws))
  unfolding in_sort
  permuted = sort_by_permutes (outranks (weight_at ws)) (positions (length ws))

  pub order_is_sorted : sort_by (outranks (weight_at ws)) (positions (length ws)) ≡ map suc order
  unfolding in_sort Ahead
  order_is_sorted =
      let q = weight_at ws in
      let ps = positions (length ws) in
      pairwise_unique Ahead (λ x y h k. outranks_one_way q x y h k) in_sort (map suc order)
      (sort_by_ordered (outranks q) (λ x y z h k. outranks_trans q x y z h k) ps
      (pairwise_map (λ _. Unit {0}) ◌<◌ (Either (outranks q)) (λ x y _ _ (h : x < y) e. outranks_total q x y (λ i. omega arith) e) ps (all_always (λ _. Unit {0}) (λ _. tt) ps) (up_from_rising 1 (length ws))))
      (pairwise_mapped Ahead suc order sorted.ranked)
      (all_permuted (λ x. member x (map suc order) ≡ true) (Permᴰ.symm permuted)
      (subst (All (λ x. member x (map suc order) ≡ true)) (up_from_shifted 0 (length ws))
      (all_mapped (λ x. member x (map suc order) ≡ true) suc (up_from 0 (length ws)) (all_map (λ i. member i order ≡ true) (λ i. member (suc i) (map suc order) ≡ true) (λ i m. member-map suc order i m) (up_from 0 (length ws)) sorted.complete))))
      (all_mapped (λ y. member y in_sort ≡ true) suc order
      (all_map (λ i. i < length ws) (λ i. member (suc i) in_sort ≡ true)
      (λ i (h : i < length ws).
      all_member (λ y. member y in_sort ≡ true) ps (suc i)
      (all_permuted (λ y. member y in_sort ≡ true) permuted (all_of_members (λ y. member y in_sort ≡ true) in_sort (λ y m. m)))
      (up_from-member 1 (length ws) (suc i) (omega arith) (omega arith)))
      order sorted.indices))
