-- What a refusal says of the reasons, and what holds of a result whether or not the call was refused. Assumes nothing.
use mathlib.Core.Bool.{false}
use mathlib.Core.List.{List, [], ◌∷◌}
use mathlib.Core.Path.{◌≡◌, refl}
use Prim.Native.Nat.{ℕ, zero, suc, ◌≤◌}
use native.Mathlib.Omega.{arith}
use Rattle.lists.specs.Lists.{All}
use Rattle.lists.proofs.Tests.{by_test}
use Rattle.call_replies.specs.declared.Refusal.{Refusal}
use Rattle.call_replies.specs.declared.Refusal.TheVariants.{WrongLength, WrongOrder, ZeroKey, LowAboveHigh, NotRising, NotAnImage, NotSound, KeyHeld, KeyAbsent, TooManyKeys, OutputTooShort, WrongMeasure}
use Rattle.call_replies.specs.Replies.{number_of, Reason, first_that_applies, unless_refused}

-- a refusal has a number
pub numbered : (r : Refusal) → 1 ≤ number_of r
numbered WrongLength = omega arith
numbered WrongOrder = omega arith
numbered ZeroKey = omega arith
numbered LowAboveHigh = omega arith
numbered NotRising = omega arith
numbered NotAnImage = omega arith
numbered NotSound = omega arith
numbered KeyHeld = omega arith
numbered KeyAbsent = omega arith
numbered TooManyKeys = omega arith
numbered OutputTooShort = omega arith
numbered WrongMeasure = omega arith

-- where no number is returned, no reason applies
pub none_applies : (rs : List Reason) → All (λ r. 1 ≤ r.number) rs → first_that_applies rs ≡ 0 → All (λ r. r.applies ≡ false) rs
none_applies [] numbered e = tt
none_applies (r ∷ rs) numbered e =
    by_test r.applies
    (λ t.
    let first : r.number ≡ 0 = rw t at e in
    absurd (omega (arith, numbered.0)))
    (λ f. (f, none_applies rs numbered.1 (rw f at e)))

-- what a refused call leaves
pub refused_stays : {A : Type 0} (number : ℕ) → 1 ≤ number → (accepted refused : A) → unless_refused number accepted refused ≡ refused
refused_stays zero h accepted refused = absurd (omega arith)
refused_stays (suc number) h accepted refused = refl

-- what a function makes of the result
pub refused_through : {A B : Type 0} (f : A → B) (number : ℕ) (accepted refused : A)
    → unless_refused number (f accepted) (f refused) ≡ f (unless_refused number accepted refused)
refused_through f zero accepted refused = refl
refused_through f (suc number) accepted refused = refl

-- what holds of both results
pub either_way : {A : Type 0} (P : A → Type 0) (number : ℕ) (accepted refused : A) → (number ≡ 0 → P accepted) → P refused → P (unless_refused number accepted refused)
either_way P zero accepted refused h k = h refl
either_way P (suc number) accepted refused h k = k

pub both_same : {A : Type 0} (number : ℕ) (x : A) → unless_refused number x x ≡ x
both_same zero x = refl
both_same (suc number) x = refl
