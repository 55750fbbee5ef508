-- Numbers as text, computed: the least, round ones, the greatest; and text in a column. Assumes nothing.
use mathlib.Core.List.{[], ◌∷◌, map}
use mathlib.Core.Path.{◌≡◌, refl}
use Rattle.text.specs.Ascii.{ascii}
use Rattle.text.specs.Digits.{decimal, hexadecimal}
use Rattle.text.specs.Columns.{right_aligned}

pub decimals : map decimal (0 ∷ 9 ∷ 10 ∷ 100 ∷ 65535 ∷ 18446744073709551615 ∷ [])
    ≡ ascii "0" ∷ ascii "9" ∷ ascii "10" ∷ ascii "100" ∷ ascii "65535" ∷ ascii "18446744073709551615" ∷ []
unfolding decimal
decimals = refl

pub hexadecimals : map hexadecimal (0 ∷ 10 ∷ 0xfedcba9876543210 ∷ []) ≡ ascii "0000000000000000" ∷ ascii "000000000000000A" ∷ ascii "FEDCBA9876543210" ∷ []
unfolding hexadecimal
hexadecimals = refl

pub columns : map (right_aligned 4) (ascii "" ∷ ascii "7" ∷ ascii "67.5" ∷ ascii "12345" ∷ []) ≡ ascii "    " ∷ ascii "   7" ∷ ascii "67.5" ∷ ascii "12345" ∷ []
unfolding right_aligned
columns = refl
