-- The test that a walk over a batch makes, each key above the one before it and the first above zero, is the test that the keys rise and none is zero. Assumes nothing.
use mathlib.Core.Bool.{Bool, true, ◌&&◌}
use mathlib.Core.Path.{◌≡◌, refl, sym, ap, ◌∙◌}
use Prim.Native.Nat.{ℕ, zero}
use native.Mathlib.Omega.{arith}
use mathlib.Core.List.{List, [], ◌∷◌}
use lib.Dec.{ltb}
use borrow.Author.Tests.{ltb-true, lt-ltb}
use Rattle.lists.specs.Lists.{nonzero, rises_b, every}
use Rattle.lists.proofs.Tests.{nonzero_when, nonzero_says, and_both, and_left, and_right, same_test}
use Rattle.table.specs.Contents.{rising_keys}

-- each key is above the one before it, the first above `last`
abbrev pub rises : ℕ → List ℕ → Bool
rises last [] = true
rises last (key ∷ keys) = ltb last key && rises key keys

rises_from : (key : ℕ) (keys : List ℕ) → rises key keys ≡ rises_b (key ∷ keys)
rises_from key [] = refl
rises_from key (next ∷ keys) = ap (λ (t : Bool). ltb key next && t) (rises_from next keys)

-- a key above another is not zero
none_zero : (last : ℕ) (keys : List ℕ) → rises last keys ≡ true → every nonzero keys ≡ true
none_zero last [] t = refl
none_zero last (key ∷ keys) t =
    let above = ltb-true last key (and_left (ltb last key) (rises key keys) t) in
    and_both (nonzero key) (every nonzero keys) (nonzero_when key (omega arith)) (none_zero key keys (and_right (ltb last key) (rises key keys) t))

pub rises_is : (keys : List ℕ) → rises zero keys ≡ rising_keys keys
unfolding rising_keys
rises_is [] = refl
rises_is (key ∷ keys) =
    let e = rises_from key keys in
    same_test (ltb zero key && rises key keys) (rises_b (key ∷ keys) && every nonzero (key ∷ keys))
    (λ t. and_both (rises_b (key ∷ keys)) (every nonzero (key ∷ keys)) (sym e ∙ and_right (ltb zero key) (rises key keys) t) (none_zero zero (key ∷ keys) t))
    (λ t.
    let above = nonzero_says key (and_left (nonzero key) (every nonzero keys) (and_right (rises_b (key ∷ keys)) (every nonzero (key ∷ keys)) t)) in
    and_both (ltb zero key) (rises key keys) (lt-ltb zero key (omega arith)) (e ∙ and_left (rises_b (key ∷ keys)) (every nonzero (key ∷ keys)) t))
