-- Numbers in base ten without leading zeros: one digit below ten, else the digits of the tenth and the last one; how many there are.
-- Assumes nothing.
use mathlib.Core.List.{List, [], ◌∷◌, ◌++◌}
use mathlib.Core.Path.{◌≡◌, refl, sym, ap, ◌∙◌}
use Prim.Native.Nat.{ℕ, zero, suc, ◌+◌, ◌*◌, ◌^◌, ◌/◌, ◌%◌, ◌≤◌, ◌<◌}
use native.Mathlib.Nat.{mod-eq_of_lt, pow-suc}
use native.Mathlib.Omega.{arith}
use lib.Dec.{ltb}
use lib.ListN.{length, length-append}
use borrow.Author.Tests.{lt-ltb, le-ltb, ltb-true, ltb-false}
use Rattle.std.specs.Prelude.{Option, Some, None, unwrap_or, IfNone, IfSome}
use Rattle.lists.proofs.Tests.{by_test}
use Rattle.text.specs.Digits.{digit, digits, decimal_up_to, decimal}

-- the bound does not matter
up_to : (bound other n : ℕ) → n ≤ bound → n ≤ other → decimal_up_to bound n ≡ decimal_up_to other n
up_to zero zero n h k = refl
up_to zero (suc other) n h k = rw (lt-ltb n 10 (omega arith))
up_to (suc bound) zero n h k = rw (lt-ltb n 10 (omega arith))
up_to (suc bound) (suc other) n h k =
    by_test (ltb n 10) (λ e. rw e)
    (λ e.
    rw e
    (let large : 10 ≤ n = ltb-false n 10 e in
    ap (λ (front : List ℕ). front ++ (digit (n % 10) ∷ [])) (up_to bound other (n / 10) (omega arith) (omega arith))))

pub decimal_digit : (n : ℕ) → n < 10 → decimal n ≡ digit n ∷ []
unfolding decimal
decimal_digit zero h = refl
decimal_digit (suc n) h = rw (lt-ltb (suc n) 10 h)

pub decimal_more : (n : ℕ) → 10 ≤ n → decimal n ≡ decimal (n / 10) ++ (digit (n % 10) ∷ [])
unfolding decimal
decimal_more zero h = absurd (omega arith)
decimal_more (suc n) h =
    rw (le-ltb (suc n) 10 h)
    (ap (λ (front : List ℕ). front ++ (digit (suc n % 10) ∷ [])) (up_to n (suc n / 10) (suc n / 10) (omega arith) (omega arith)))

-- how many digits there are
pub decimal_longer : (n : ℕ) → 10 ≤ n → length (decimal n) ≡ suc (length (decimal (n / 10)))
decimal_longer n h = ap length (decimal_more n h) ∙ length-append (decimal (n / 10)) (digit (n % 10) ∷ []) ∙ omega arith

pub decimal_single : (n : ℕ) → n < 10 → length (decimal n) ≡ 1
decimal_single n h = ap length (decimal_digit n h)

pub decimal_long : (tens n : ℕ) → 10 ^ tens ≤ n → n < 10 * 10 ^ tens → length (decimal n) ≡ suc tens
decimal_long zero n h k = decimal_single n (omega arith)
decimal_long (suc tens) n h k =
    let more = pow-suc 10 tens in
    omega (arith, decimal_longer n (omega arith), decimal_long tens (n / 10) (omega arith) (omega arith))

-- from the power of ten that it reaches, of which zero reaches none
pub decimal_reaches : (n : ℕ) (tens : Option ℕ) → IfNone tens (n ≡ 0) → IfSome tens (λ k. 10 ^ k ≤ n) → IfSome tens (λ k. n < 10 * 10 ^ k) → unwrap_or tens 0 + 1 ≡ length (decimal n)
decimal_reaches n None none low high = sym (decimal_single n (omega arith))
decimal_reaches n (Some k) none low high = omega (arith, decimal_long k n low high)

pub decimal_fits : (many n : ℕ) → n < 10 ^ suc many → length (decimal n) ≤ suc many
decimal_fits zero n h = omega (arith, decimal_single n h)
decimal_fits (suc many) n h =
    by_test (ltb n 10) (λ e. omega (arith, decimal_single n (ltb-true n 10 e)))
    (λ e. omega (arith, decimal_longer n (ltb-false n 10 e), decimal_fits many (n / 10) (omega (arith, pow-suc 10 (suc many)))))

-- they are the last so many digits of the number
spelled_digit : (n : ℕ) → n < 10 → decimal n ≡ digits 10 (length (decimal n)) n
spelled_digit n h =
    decimal_digit n h
    ∙ ap (λ (d : ℕ). digit d ∷ []) (sym (mod-eq_of_lt h))
    ∙ ap (λ (many : ℕ). digits 10 many n) (sym (decimal_single n h))

spelled_more : (n : ℕ) → 10 ≤ n → decimal (n / 10) ≡ digits 10 (length (decimal (n / 10))) (n / 10) → decimal n ≡ digits 10 (length (decimal n)) n
spelled_more n h front =
    decimal_more n h
    ∙ ap (λ (xs : List ℕ). xs ++ (digit (n % 10) ∷ [])) front
    ∙ ap (λ (many : ℕ). digits 10 many n) (sym (decimal_longer n h))

spelled : (bound n : ℕ) → n ≤ bound → decimal n ≡ digits 10 (length (decimal n)) n
spelled zero n h = spelled_digit n (omega arith)
spelled (suc bound) n h =
    by_test (ltb n 10) (λ e. spelled_digit n (ltb-true n 10 e))
    (λ e. let large : 10 ≤ n = ltb-false n 10 e in spelled_more n large (spelled bound (n / 10) (omega arith)))

pub decimal_digits : (n : ℕ) → decimal n ≡ digits 10 (length (decimal n)) n
decimal_digits n = spelled n n (omega arith)
