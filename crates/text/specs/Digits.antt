-- Numbers as text, in ASCII. Assumes nothing.
use Rattle.std.specs.Prelude.{cond, List, [], ◌∷◌, ◌++◌, ℕ, zero, suc, ◌+◌, ◌/◌, ◌%◌, ltb}

-- The character of a digit below sixteen: `0` to `9`, then "letters capital", `A` to `F`.
abbrev pub digit : ℕ → ℕ
digit d = cond (ltb d 10) (48 + d) (55 + d)

-- The last so many digits of a number in a base, the highest first.
abbrev pub digits : ℕ → ℕ → ℕ → List ℕ
digits base zero n = []
digits base (suc many) n = digits base many (n / base) ++ (digit (n % base) ∷ [])

-- The digits in base ten of a number up to a bound: one digit below ten, else those of its tenth and the last one.
abbrev pub decimal_up_to : ℕ → ℕ → List ℕ
decimal_up_to zero n = digit n ∷ []
decimal_up_to (suc bound) n =
    let more = decimal_up_to bound (n / 10) ++ (digit (n % 10) ∷ []) in
    cond (ltb n 10) (digit n ∷ []) more

-- "other numbers are base ten without leading zeros"
unfoldable pub decimal : ℕ → List ℕ
decimal n = decimal_up_to n n

-- How many digits "16 hexadecimal digits" are.
abbrev pub hexadecimal_digits : ℕ
hexadecimal_digits = 16

-- "Keys are 16 hexadecimal digits, letters capital"
unfoldable pub hexadecimal : ℕ → List ℕ
hexadecimal n = digits 16 hexadecimal_digits n
