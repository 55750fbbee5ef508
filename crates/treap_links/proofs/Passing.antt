-- The pass that finds for each index the nearest on either side that outranks it: index after index overtakes those before it.
-- Assumes nothing.
use mathlib.Core.List.{List}
use mathlib.Core.Path.{◌≡◌, refl, sym, ◌∙◌, subst}
use Prim.Native.Nat.{ℕ, suc, ◌+◌, ◌<◌, ◌≤◌}
use native.Mathlib.Numerals.{add-one}
use native.Mathlib.Omega.{arith}
use lib.ListN.{length, get_or, set, drop, length-set}
use lib.Seq.{get_or-set_same, drop-set-lt}
use Rattle.lists.proofs.Tests.{Compared, compared}
use Rattle.lists.proofs.Tests.Compared.{less, same, more}
use Rattle.treap_links.specs.Nearest.{NearestBefore, NearestAfter, Nearest}
use Rattle.treap_links.proofs.Untouched.{set_after, nearest_kept}

module _ (ws : List ℕ) where
  -- the loop's invariant: the nearest of the indices before i are found
  pub record Passing (left₀ right₀ left right : List ℕ) (i : ℕ) : Type 0 where
    pub upto : i ≤ length ws
    pub found : Nearest ws i 0 i left right
    pub left_same : length left ≡ length left₀
    pub right_same : length right ≡ length right₀
    pub left_rest : drop (length ws) left ≡ drop (length ws) left₀
    pub right_rest : drop (length ws) right ≡ drop (length ws) right₀

  module _ (left₀ right₀ : List ℕ) (left_room_lem : length ws ≤ length left₀) (right_room_lem : length ws ≤ length right₀) where
    pub passing_start : Passing left₀ right₀ left₀ right₀ 0
    unfolding Nearest
    passing_start =
        record { upto = omega arith; found = λ x h k. absurd (omega arith); left_same = refl; right_same = refl; left_rest = refl; right_rest = refl }

    module _ (left right : List ℕ) (i : ℕ) (state : Passing left₀ right₀ left right i) where
      found_one : i < length ws → (b : ℕ) (right' : List ℕ) → NearestBefore ws i b → Nearest ws (suc i) 0 i left right' → length right' ≡ length right
          → Nearest ws (suc i) 0 (suc i) (set left i b) (set right' i (length ws))
      unfolding Nearest
      found_one inside b right' before after e x h k = go (compared x i)
        where
          go : Compared x i → NearestBefore ws x (get_or (set left i b) x 0) × NearestAfter ws (suc i) x (get_or (set right' i (length ws)) x 0)
          go (less _ _ _ q) =
              nearest_kept ws (suc i) 0 i left right' after 0 i (omega arith) (omega arith) (set left i b) (set right' i (length ws))
              (set_after left i b 0 i (omega arith)) (set_after right' i (length ws) 0 i (omega arith)) x h q
          go (same _ _ _ q) =
              let l = state.left_same in
              let r = state.right_same in
              subst (λ (y : ℕ). NearestBefore ws y (get_or (set left i b) y 0) × NearestAfter ws (suc i) y (get_or (set right' i (length ws)) y 0)) (sym q) (
                subst (NearestBefore ws i) (sym (get_or-set_same left i b 0 (omega arith))) before,
                subst (NearestAfter ws (suc i) i) (sym (get_or-set_same right' i (length ws) 0 (omega arith)))
                    (record { on = inside; upto = omega arith; passed = λ y m n o. absurd (omega arith); outranked = λ m. absurd (omega arith) }),
              )
          go (more _ _ _ q) = absurd (omega arith)

      -- `overtake` gave b and left `right'`
      pub passing_turn : i < length ws → (b : ℕ) (right' : List ℕ) → NearestBefore ws i b → Nearest ws (suc i) 0 i left right' → length right' ≡ length right
          → drop (length ws) right' ≡ drop (length ws) right → Passing left₀ right₀ (set left i b) (set right' i (length ws)) (i + 1)
      passing_turn inside b right' before after e f =
          let l = state.left_same in
          let r = state.right_same in
          record {
            upto = omega arith;
            found = subst (λ (k : ℕ). Nearest ws k 0 k (set left i b) (set right' i (length ws))) (sym (add-one i)) (found_one inside b right' before after e);
            left_same = length-set left i b ∙ l;
            right_same = length-set right' i (length ws) ∙ e ∙ r;
            left_rest = drop-set-lt (length ws) left i b inside ∙ state.left_rest;
            right_rest = drop-set-lt (length ws) right' i (length ws) inside ∙ f ∙ state.right_rest;
          }
