-- The slots after the first positions of the order are placed: the loop's invariant of `place`, its steps and its end.
-- Assumes an order as `InOrder` says, and no more positions than slots.
use mathlib.Core.List.{List, [], ◌∷◌, map, map-append}
use mathlib.Core.Logic.{◌≢◌}
use mathlib.Core.Path.{◌≡◌, refl, sym, ap, ◌∙◌, subst}
use Prim.Native.Nat.{ℕ, suc, ◌<◌, ◌≤◌}
use native.Mathlib.Omega.{arith}
use lib.ListN.{length, get_or, take, set, replicate, length-set, length-map, length-replicate}
use lib.Seq.{take-suc, take-length, length-take-le}
use Rattle.lists.proofs.Keep.{all_always, all_mapped, all_at}
use Rattle.treap.specs.Slots.{first_empty, place_all, slots_of}
use Rattle.priority.specs.Priority.{home_of}
use Rattle.priority.proofs.Bounds.{home_of_below}
use Rattle.treap_columns.specs.Positions.{positions, weight_at, InOrder}
use Rattle.treap_columns.proofs.Ordering.{order_is_sorted}
use Rattle.table_slots.proofs.Placing.{empties, first_empty_is, empties_replicate, place_all-append, place_all_empties}

-- The home of a position.
abbrev pub home_at : List ℕ → ℕ → ℕ → ℕ
home_at ws many i = home_of (weight_at ws i) many

module _ (ws order : List ℕ) (many : ℕ) where
  abbrev placed : ℕ → List ℕ
  placed j = place_all (home_at ws many) (replicate many 0) (map suc (take j order))

  pub record Placed (slots : List ℕ) (j : ℕ) : Type 0 where
    pub upto : j ≤ length order
    pub size : length slots ≡ many
    pub holds : slots ≡ placed j

  pub placed_start : Placed (replicate many 0) 0
  placed_start = record { upto = omega arith; size = length-replicate many 0; holds = refl }

  module _ (sorted : InOrder ws order) (some : 0 < many) (room : length ws ≤ many) (slots : List ℕ) (j : ℕ) (state : Placed slots j) (more : j < length order) where
    index_below : get_or order j 0 < length ws
    index_below = all_at (λ i. i < length ws) order j 0 sorted.indices more

    has_room : first_empty slots (home_at ws many (suc (get_or order j 0))) < length slots
    has_room =
        let many-placed : length (map suc (take j order)) ≡ j = length-map (take j order) suc ∙ length-take-le j order state.upto in
        let used =
        place_all_empties (home_at ws many) (replicate many 0) (map suc (take j order)) (omega (arith, many-placed, empties_replicate many, sorted.many))
        (all_mapped (λ x. x ≢ 0) suc (take j order) (all_always (λ i. suc i ≢ 0) (λ i e. omega arith) (take j order)))
        (all_mapped (λ x. home_at ws many x < length (replicate many 0)) suc (take j order)
        (all_always (λ i. home_at ws many (suc i) < length (replicate many 0)) (λ i. omega (arith, home_of_below (weight_at ws (suc i)) some, length-replicate {A = ℕ} many 0)) (take j order)))
        in
        let left : 0 < empties slots = omega (arith, used, many-placed, empties_replicate many, sorted.many, ap empties state.holds) in
        (first_empty_is slots (home_at ws many (suc (get_or order j 0))) (omega (arith, home_of_below (weight_at ws (suc (get_or order j 0))) some, state.size)) left).0

    placed_next : Placed (set slots (first_empty slots (home_at ws many (suc (get_or order j 0)))) (suc (get_or order j 0))) (suc j)
    placed_next =
        let i = get_or order j 0 in
        let at = first_empty slots (home_at ws many (suc i)) in
        record {
          upto = more;
          size = length-set slots at (suc i) ∙ state.size;
          holds =
              ap (λ (s : List ℕ). set s (first_empty s (home_at ws many (suc i))) (suc i)) state.holds
              ∙ sym (place_all-append (home_at ws many) (replicate many 0) (map suc (take j order)) (suc i ∷ []))
              ∙ ap (place_all (home_at ws many) (replicate many 0)) (sym (ap (map suc) (take-suc order j 0 more) ∙ map-append suc (take j order) (i ∷ [])));
        }

  -- one turn: the index is one of the weights', a slot is free for it, and it is placed
  pub record Turn (slots : List ℕ) (j : ℕ) : Type 0 where
    pub listed : get_or order j 0 < length ws
    pub free : first_empty slots (home_at ws many (suc (get_or order j 0))) < length slots
    pub next : Placed (set slots (first_empty slots (home_at ws many (suc (get_or order j 0)))) (suc (get_or order j 0))) (suc j)

  pub turn : InOrder ws order → 0 < many → length ws ≤ many → (slots : List ℕ) (j : ℕ) → Placed slots j → j < length order → Turn slots j
  turn sorted some room slots j state more =
      record {
        listed = index_below sorted some room slots j state more;
        free = has_room sorted some room slots j state more;
        next = placed_next sorted some room slots j state more;
      }

  -- all are placed
  pub placed_end : InOrder ws order → (slots : List ℕ) (j : ℕ) → Placed slots j → length order ≤ j → slots ≡ slots_of (weight_at ws) (home_at ws many) many (positions (length ws))
  unfolding slots_of
  placed_end sorted slots j state h =
      let whole : j ≡ length order = let u = state.upto in omega arith in
      state.holds
      ∙ ap (λ (xs : List ℕ). place_all (home_at ws many) (replicate many 0) (map suc xs)) (ap (λ (n : ℕ). take n order) whole ∙ take-length order)
      ∙ ap (place_all (home_at ws many) (replicate many 0)) (sym (order_is_sorted ws order sorted))

-- ---- the call's own words
pub all_zero : (xs : List ℕ) (n : ℕ) → xs ≡ replicate n 0 → xs ≡ replicate (length xs) 0
all_zero xs n e = e ∙ ap (λ (m : ℕ). replicate m 0) (sym (ap length e ∙ length-replicate n 0))

pub starts : (ws order xs : List ℕ) (n : ℕ) → xs ≡ replicate n 0 → Placed ws order (length xs) xs 0
starts ws order xs n e = subst (λ (s : List ℕ). Placed ws order (length xs) s 0) (sym (all_zero xs n e)) (placed_start ws order (length xs))
