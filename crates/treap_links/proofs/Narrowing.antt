-- The root of a part, found from both of its ends: the first index reached outranks all before it in the part, the last all
-- after it, so the root lies between them. Assumes nothing.
use mathlib.Core.List.{List}
use mathlib.Core.Path.{◌≡◌, ◌∙◌, subst}
use Prim.Native.Nat.{ℕ, suc, ◌+◌, ◌-◌, ◌<◌, ◌≤◌}
use native.Mathlib.Numerals.{add-one}
use native.Mathlib.Omega.{arith}
use lib.Dec.{ltb}
use lib.ListN.{length, get_or}
use borrow.Author.Tests.{ltb-true, ltb-false}
use Rattle.lists.proofs.Tests.{by_test}
use Rattle.treap.specs.Treap.{top}
use Rattle.treap_columns.specs.Positions.{weight_at}
use Rattle.treap_links.specs.Links.{between}
use Rattle.treap_links.specs.Nearest.{Over, NearestBefore, NearestAfter, Nearest}
use Rattle.treap_links.proofs.Ranking.{over_one_way, over_through, root_outranks}

module _ (ws : List ℕ) (lo hi : ℕ) where
  -- the loop's invariant: `a` is an index, `b` a position
  pub record Narrowed (a b : ℕ) : Type 0 where
    pub from : lo ≤ a
    pub below : a < hi
    pub above : lo < b
    pub upto : b ≤ hi
    pub first : (x : ℕ) → lo ≤ x → x < a → Over ws a x
    pub last : (x : ℕ) → b ≤ x → x < hi → Over ws (b - 1) x

  module _ (a b : ℕ) (state : Narrowed a b) where
    -- the ends do not pass each other: each would outrank the other
    narrowed_apart : a < b
    narrowed_apart =
        let f = state.from in
        let g = state.below in
        let k = state.above in
        let l = state.upto in
        by_test (ltb a b) (λ t. ltb-true a b t)
        (λ t.
        let p = ltb-false a b t in
        absurd (over_one_way ws a (b - 1) (state.first (b - 1) (omega arith) (omega arith)) (state.last a p g)))

    module _ (left right : List ℕ) (whole : hi ≤ length ws) (near : Nearest ws (length ws) lo hi left right) where
      pub first_after : NearestAfter ws (length ws) a (get_or right a 0)
      unfolding Nearest
      first_after = (near a state.from state.below).1

      pub last_before : NearestBefore ws (b - 1) (get_or left (b - 1) 0)
      unfolding Nearest
      last_before =
          let k = state.above in
          let l = state.upto in
          (near (b - 1) (omega arith) (omega arith)).0

      -- nothing in the part outranks the first, or the last; or they are one
      pub first_is_root : hi ≤ get_or right a 0 → a + 1 ≡ top (weight_at ws) (between lo hi)
      first_is_root far = add-one a ∙ root_outranks ws lo hi a state.from state.below state.first (λ x h k. first_after.passed x h (omega arith) (omega arith))

      pub last_is_root : get_or left (b - 1) 0 ≤ lo → b ≡ top (weight_at ws) (between lo hi)
      last_is_root far =
          let m = state.above in
          let l = state.upto in
          let back : b ≡ suc (b - 1) = omega arith in
          back ∙ root_outranks ws lo hi (b - 1) (omega arith) (omega arith) (λ x h k. last_before.passed x (omega arith) k) (λ x h k. state.last x (omega arith) k)

      pub ends_meet : b ≤ a + 1 → a + 1 ≡ top (weight_at ws) (between lo hi)
      ends_meet met =
          let p = narrowed_apart in
          let one : b - 1 ≡ a = omega arith in
          add-one a ∙ root_outranks ws lo hi a state.from state.below state.first (λ x h k. subst (λ (y : ℕ). Over ws y x) one (state.last x (omega arith) k))

      -- both ends go on to what outranks them
      pub narrowed_turn : get_or right a 0 < hi → lo < get_or left (b - 1) 0 → Narrowed (get_or right a 0) (get_or left (b - 1) 0)
      narrowed_turn h k =
          let up = first_after.on in
          let down = last_before.back in
          let f = state.from in
          let l = state.upto in
          let over = (first_after.outranked (omega arith)).1 in
          let under = last_before.outranked (omega arith) in
          record {
            from = omega arith;
            below = h;
            above = k;
            upto = omega arith;
            first = λ x m n. over_through ws (get_or right a 0) a x over (λ q. state.first x m q) (λ q. first_after.passed x q n (omega arith));
            last = λ x m n. over_through ws (get_or left (b - 1) 0 - 1) (b - 1) x under (λ q. last_before.passed x m q) (λ q. state.last x (omega arith) n);
          }
