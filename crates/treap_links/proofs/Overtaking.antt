-- An index overtakes those before it: it goes from each that it outranks to the nearest before that outranks this one, up to
-- one that it does not outrank itself. Of those that had no nearest after and are outranked, it is the nearest. Assumes nothing.
use mathlib.Core.Bool.{true, false}
use mathlib.Core.List.{List}
use mathlib.Core.Logic.{◌≢◌}
use mathlib.Core.Path.{◌≡◌, refl, sym, ◌∙◌, subst}
use Prim.Native.Nat.{ℕ, suc, ◌-◌, ◌<◌, ◌≤◌}
use native.Mathlib.Omega.{arith}
use lib.Dec.{ltb}
use lib.ListN.{length, get_or, set, drop, length-set}
use lib.Seq.{get_or-set_same, get_or-set_other, drop-set-lt}
use borrow.Author.Tests.{ltb-true, ltb-false}
use Rattle.lists.proofs.Tests.{by_test, Compared, compared}
use Rattle.lists.proofs.Tests.Compared.{less, same, more}
use Rattle.treap_links.specs.Nearest.{Over, NearestBefore, NearestAfter, Nearest}
use Rattle.treap_links.proofs.Ranking.{over_trans, over_one_way, greater_over, earlier_over, over_through}

module _ (ws : List ℕ) where
  -- one index more is seen, and outranks only what already has its nearest
  seen_more : (i x a : ℕ) → NearestAfter ws i x a → (length ws ≤ a → Over ws x i) → NearestAfter ws (suc i) x a
  seen_more i x a near none =
      record {
        on = near.on;
        upto = near.upto;
        passed = λ y h k l. go y h k l (compared y i);
        outranked = λ h. let o = near.outranked h in (omega arith, o.1);
      }
    where
      go : (y : ℕ) → x < y → y < a → y < suc i → Compared y i → Over ws x y
      go y h k l (less e f g q) = near.passed y h k q
      go y h k l (more e f g q) = absurd (omega arith)
      go y h k l (same e f g q) =
          subst (Over ws x) (sym q)
          (none (by_test (ltb a (length ws)) (λ t. let o = (near.outranked (ltb-true a (length ws) t)).0 in absurd (omega arith)) (λ t. ltb-false a (length ws) t)))

  -- ---- the loop's invariant: all from b up to i are overtaken by i, and the index before b outranks them
  pub record Overtaking (i : ℕ) (right₀ right : List ℕ) (b : ℕ) : Type 0 where
    pub back : b ≤ i
    pub overtaken : (x : ℕ) → b ≤ x → x < i → Over ws i x
    pub ahead : 0 < b → (x : ℕ) → b ≤ x → x < i → Over ws (b - 1) x
    pub before : (x : ℕ) → x < b → NearestAfter ws i x (get_or right x 0)
    pub after : (x : ℕ) → b ≤ x → x < i → NearestAfter ws (suc i) x (get_or right x 0)
    pub same_length : length right ≡ length right₀
    pub same_rest : drop (length ws) right ≡ drop (length ws) right₀

  module _ (i : ℕ) (left right₀ : List ℕ) (inside : i < length ws) (room : length ws ≤ length right₀) (near : Nearest ws i 0 i left right₀) where
    pub overtaking_start : Overtaking i right₀ right₀ i
    unfolding Nearest
    overtaking_start =
        record {
          back = omega arith;
          overtaken = λ x h k. absurd (omega arith);
          ahead = λ some x h k. absurd (omega arith);
          before = λ x h. (near x (omega arith) h).1;
          after = λ x h k. absurd (omega arith);
          same_length = refl;
          same_rest = refl;
        }

    module _ (right : List ℕ) (b : ℕ) (state : Overtaking i right₀ right b) where
      -- ---- a turn
      module _ (some : 0 < b) (lower : ltb (get_or ws (b - 1) 0) (get_or ws i 0) ≡ true) where
        here : Over ws i (b - 1)
        here = greater_over ws i (b - 1) (ltb-true (get_or ws (b - 1) 0) (get_or ws i 0) lower)

        pub lower_before : NearestBefore ws (b - 1) (get_or left (b - 1) 0)
        unfolding Nearest
        lower_before = let k = state.back in (near (b - 1) (omega arith) (omega arith)).0

        -- what is passed over has its nearest, at most the one before b
        has_nearest : (x : ℕ) → get_or left (b - 1) 0 ≤ x → x < b - 1 → length ws ≤ get_or right x 0 → Over ws x i
        has_nearest x h k none =
            let q = state.back in
            absurd (over_one_way ws (b - 1) x (lower_before.passed x h k) ((state.before x (omega arith)).passed (b - 1) k (omega arith) (omega arith)))

        kept : (seen x : ℕ) → x ≢ b - 1 → NearestAfter ws seen x (get_or right x 0) → NearestAfter ws seen x (get_or (set right (b - 1) i) x 0)
        kept seen x d n = subst (NearestAfter ws seen x) (sym (get_or-set_other right (b - 1) x i 0 d)) n

        -- the one before b outranks those passed over and those overtaken, and what outranks it does too
        over_here : (u : ℕ) → Over ws u (b - 1) → (x : ℕ) → get_or left (b - 1) 0 ≤ x → x < i → Over ws u x
        over_here u o x h k = over_through ws u (b - 1) x o (λ q. lower_before.passed x h q) (λ q. state.ahead some x (omega arith) k)

        found_after : (x : ℕ) → get_or left (b - 1) 0 ≤ x → x < i → NearestAfter ws (suc i) x (get_or (set right (b - 1) i) x 0)
        found_after x h k = go (compared x (b - 1))
          where
            q : b ≤ i
            q = state.back

            go : Compared x (b - 1) → NearestAfter ws (suc i) x (get_or (set right (b - 1) i) x 0)
            go (less _ _ _ l) = kept (suc i) x (λ e. omega arith) (seen_more i x (get_or right x 0) (state.before x (omega arith)) (has_nearest x h l))
            go (same _ _ _ l) =
                subst (λ (y : ℕ). NearestAfter ws (suc i) y (get_or (set right (b - 1) i) y 0)) (sym l)
                (subst (NearestAfter ws (suc i) (b - 1)) (sym (get_or-set_same right (b - 1) i 0 (let w = state.same_length in omega arith)))
                (record { on = omega arith; upto = omega arith; passed = λ y m n o. state.ahead some y (omega arith) n; outranked = λ m. (omega arith, here) }))
            go (more _ _ _ l) = kept (suc i) x (λ e. omega arith) (state.after x (omega arith) k)

        pub overtaking_turn : Overtaking i right₀ (set right (b - 1) i) (get_or left (b - 1) 0)
        overtaking_turn =
            let q = state.back in
            let down = lower_before.back in
            record {
              back = omega arith;
              overtaken = over_here i here;
              ahead = λ more. over_here (get_or left (b - 1) 0 - 1) (lower_before.outranked more);
              before = λ x h. kept i x (λ e. omega arith) (state.before x (omega arith));
              after = found_after;
              same_length = length-set right (b - 1) i ∙ state.same_length;
              same_rest = drop-set-lt (length ws) right (b - 1) i (omega arith) ∙ state.same_rest;
            }

      -- ---- the end: the index before b, if there is one, is not outranked
      module _ (higher : 0 < b → ltb (get_or ws (b - 1) 0) (get_or ws i 0) ≡ false) where
        stays : 0 < b → Over ws (b - 1) i
        stays some = let q = state.back in earlier_over ws (b - 1) i (omega arith) (ltb-false (get_or ws (b - 1) 0) (get_or ws i 0) (higher some))

        still_over : (x : ℕ) → x < b → length ws ≤ get_or right x 0 → Over ws x i
        still_over x h none = go (compared x (b - 1))
          where
            go : Compared x (b - 1) → Over ws x i
            go (less e f g q) = let k = state.back in over_trans ws x (b - 1) i ((state.before x h).passed (b - 1) q (omega arith) (omega arith)) (stays (omega arith))
            go (same e f g q) = subst (λ (y : ℕ). Over ws y i) (sym q) (stays (omega arith))
            go (more e f g q) = absurd (omega arith)

        all_after : Nearest ws (suc i) 0 i left right
        unfolding Nearest
        all_after x h k = (
          (near x h k).0,
          by_test (ltb x b)
              (λ t. let l = ltb-true x b t in seen_more i x (get_or right x 0) (state.before x l) (still_over x l))
              (λ t. state.after x (ltb-false x b t) k),
        )

        pub overtaking_end : NearestBefore ws i b × (Nearest ws (suc i) 0 i left right × (drop (length ws) right ≡ drop (length ws) right₀))
        overtaking_end = (record { back = state.back; passed = state.overtaken; outranked = stays }, (all_after, state.same_rest))
