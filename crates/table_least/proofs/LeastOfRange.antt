-- The least key of a range among rising keys, and the keys of the range after it. Assumes nothing.
use mathlib.Core.Bool.{Bool, true}
use mathlib.Core.List.{List, [], ◌∷◌}
use mathlib.Core.Path.{◌≡◌, refl, sym, ap, ◌∙◌, subst}
use Prim.Native.Nat.{ℕ, ◌+◌, ◌<◌}
use native.Mathlib.Omega.{arith}
use Rattle.lists.specs.Lists.{All, Rising, cons_if, first, keep, lies}
use Rattle.lists.proofs.Tests.{by_test, lies_below, lies_when, lies_says}
use Rattle.lists.proofs.Keep.{all_map, all_both, all_always, all_keep, kept_pass, keep_after, keep_all}
use Rattle.lists.proofs.Pairwise.{pairwise_keep}
use Rattle.intervals.specs.Intervals.{within}
use Rattle.table_least.specs.LeastKey.{least_within}

-- The first number of a list, or the number given where it has none.
abbrev head_or : ℕ → List ℕ → ℕ
head_or d [] = d
head_or d (x ∷ xs) = x

first_is_head : (d : ℕ) (f : ℕ → Bool) (xs : List ℕ) → first d f xs ≡ head_or d (keep f xs)
first_is_head d f [] = refl
first_is_head d f (x ∷ xs) = by_test (f x) (λ e. rw e) (λ e. rw e (first_is_head d f xs))

module _ (low high : ℕ) (keys : List ℕ) where
  pub least_none : within low high keys ≡ [] → least_within low high keys ≡ 0
  unfolding within least_within
  least_none e = first_is_head 0 (lies low high) keys ∙ ap (head_or 0) e

  module _ (k : ℕ) (rest : List ℕ) (starts : within low high keys ≡ k ∷ rest) where
    pub least_first : least_within low high keys ≡ k
    unfolding within least_within
    least_first = first_is_head 0 (lies low high) keys ∙ ap (head_or 0) starts

    -- what holds of every key holds of those of the range
    pub within_all : (P : ℕ → Type 0) → All P keys → All P (k ∷ rest)
    unfolding within
    within_all P h = subst (All P) starts (all_keep P (lies low high) keys h)

    lie_there : All (λ x. lies low high x ≡ true) (k ∷ rest)
    unfolding within
    lie_there = subst (All (λ x. lies low high x ≡ true)) starts (kept_pass (lies low high) keys)

    module _ (rising : Rising keys) where
      rest_rises : Rising (k ∷ rest)
      unfolding within
      rest_rises = subst Rising starts (pairwise_keep ◌<◌ (lies low high) keys rising)

      pub above : All (λ x. k < x) rest
      above = rest_rises.0

      -- the keys of the range from one more on
      pub within_after : within (k + 1) high keys ≡ rest
      unfolding within
      within_after =
          let least = lies_says low high k lie_there.0 in
          sym
          (keep_after (lies (k + 1) high) (lies low high) keys
          (all_always (λ x. lies (k + 1) high x ≡ true → lies low high x ≡ true)
          (λ x t. let there = lies_says (k + 1) high x t in lies_when low high x (omega arith) there.1) keys))
          ∙ ap (keep (lies (k + 1) high)) starts
          ∙ ap (λ b. cons_if b k (keep (lies (k + 1) high) rest)) (lies_below (k + 1) high k (omega arith))
          ∙ keep_all (lies (k + 1) high) rest
          (all_map (λ x. (k < x) × (lies low high x ≡ true)) (λ x. lies (k + 1) high x ≡ true)
          (λ x h. lies_when (k + 1) high x (omega arith) (lies_says low high x h.1).1) rest
          (all_both (λ x. k < x) (λ x. lies low high x ≡ true) rest above lie_there.1))
