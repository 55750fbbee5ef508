-- The test of a list of keys: that it rises and has no zero. Assumes nothing.
use mathlib.Core.Bool.{true, false, ◌&&◌}
use mathlib.Core.List.{List, [], ◌∷◌}
use mathlib.Core.Logic.{◌≢◌}
use mathlib.Core.Path.{◌≡◌, refl, sym, ap, ◌∙◌}
use Prim.Native.Nat.{ℕ, ◌<◌, ◌≤◌}
use native.Mathlib.Omega.{arith}
use lib.ListN.{length, get_or}
use Rattle.lists.specs.Lists.{nonzero, All, Rising, rises_b, every}
use Rattle.lists.proofs.Tests.{by_test, and_false_right, and_both, and_left, and_right, nonzero_when, nonzero_says, zero_fails}
use Rattle.lists.proofs.Keep.{all_map, every_when, every_says}
use Rattle.lists.proofs.Rising.{rises_says}
use Rattle.table.specs.Contents.{rising_keys}

pub no_keys : (list : List ℕ) → length list ≡ 0 → true ≡ rising_keys list
unfolding rising_keys
no_keys [] h = refl
no_keys (x ∷ xs) h = absurd (omega arith)

pub starts_with_zero : (list : List ℕ) → length list ≢ 0 → get_or list 0 0 ≡ 0 → false ≡ rising_keys list
unfolding rising_keys
starts_with_zero [] d e = absurd (d refl)
starts_with_zero (x ∷ xs) d e =
    sym (and_false_right (rises_b (x ∷ xs)) (every nonzero (x ∷ xs)) (ap (λ b. b && every nonzero xs) (zero_fails x e)))

-- the first is not zero, so none is where they rise
pub rises_alone : (list : List ℕ) → get_or list 0 0 ≢ 0 → rises_b list ≡ rising_keys list
unfolding rising_keys
rises_alone [] d = refl
rises_alone (x ∷ xs) d =
    by_test (rises_b (x ∷ xs))
    (λ t.
    let rising = rises_says (x ∷ xs) t in
    t ∙ sym (and_both (rises_b (x ∷ xs)) (every nonzero (x ∷ xs)) t
    (every_when nonzero (x ∷ xs)
    (nonzero_when x (omega arith), all_map (λ y. x < y) (λ y. nonzero y ≡ true) (λ y h. nonzero_when y (omega arith)) xs rising.0))))
    (λ t. t ∙ sym (ap (λ b. b && every nonzero (x ∷ xs)) t))

pub rising_says : (list : List ℕ) → rising_keys list ≡ true → Rising list × All (λ k. 1 ≤ k) list
unfolding rising_keys
rising_says list t =
    let each = every_says nonzero list (and_right (rises_b list) (every nonzero list) t) in (
      rises_says list (and_left (rises_b list) (every nonzero list) t),
      all_map (λ k. nonzero k ≡ true) (λ k. 1 ≤ k) nonzero_says list each,
    )
