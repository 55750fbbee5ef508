-- How long the lines of a listing are. Assumes nothing.
use mathlib.Core.Path.{◌≡◌}
use Prim.Native.Nat.{ℕ, ◌+◌, ◌^◌, ◌≤◌, ◌<◌}
use native.Mathlib.Omega.{arith}
use lib.ListN.{length, length-append}
use Rattle.text.specs.Digits.{decimal}
use Rattle.text.proofs.Spelling.{hexadecimal_length}
use Rattle.text.proofs.Decimal.{decimal_fits}
use Rattle.text_lines.specs.Lines.{header_line, block_line, key_line}

pub header_line_length : (order keys blocks fill root : ℕ)
    → length (header_line order keys blocks fill root) ≡ 49 + length (decimal order) + length (decimal keys) + length (decimal blocks) + length (decimal fill)
unfolding header_line
header_line_length order keys blocks fill root = simp length-append (omega (arith, hexadecimal_length root))

pub block_line_length : (leader level keys : ℕ) → length (block_line leader level keys) ≡ 36 + length (decimal level) + length (decimal keys)
unfolding block_line
block_line_length leader level keys = simp length-append (omega (arith, hexadecimal_length leader))

pub key_line_length : (key rank count : ℕ) → length (key_line key rank count) ≡ 34 + length (decimal rank) + length (decimal count)
unfolding key_line
key_line_length key rank count = simp length-append (omega (arith, hexadecimal_length key))

-- a 64-bit number has at most twenty digits
pub word_digits : (n : ℕ) → n < 2 ^ 64 → length (decimal n) ≤ 20
word_digits n h = decimal_fits 19 n (omega arith)

-- how long the lines of 64-bit numbers are at most
pub header_line_most : (order keys blocks fill root : ℕ) → order < 2 ^ 64 → keys < 2 ^ 64 → blocks < 2 ^ 64 → fill < 2 ^ 64 → length (header_line order keys blocks fill root) ≤ 129
header_line_most order keys blocks fill root h k l m =
    omega (arith, header_line_length order keys blocks fill root, word_digits order h, word_digits keys k, word_digits blocks l, word_digits fill m)

pub block_line_most : (leader level keys : ℕ) → level < 2 ^ 64 → keys < 2 ^ 64 → length (block_line leader level keys) ≤ 76
block_line_most leader level keys h k = omega (arith, block_line_length leader level keys, word_digits level h, word_digits keys k)

pub key_line_most : (key rank count : ℕ) → rank < 2 ^ 64 → count < 2 ^ 64 → length (key_line key rank count) ≤ 74
key_line_most key rank count h k = omega (arith, key_line_length key rank count, word_digits rank h, word_digits count k)
