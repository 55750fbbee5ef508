-- One more byte of a key: what is left of the key, and the exclusive or of the terms so far.
-- Assumes nothing.
use mathlib.Core.Path.{◌≡◌}
use mathlib.Core.List.{List}
use Prim.Native.Nat.{ℕ, ◌+◌, ◌*◌, ◌/◌, ◌%◌, ◌^◌, ◌<◌}
use native.Mathlib.Nat.{div-div-eq-div-mul, pow-suc}
use native.Mathlib.Numerals.{add-one}
use native.Mathlib.Omega.{arith}
use lib.Bits.{bit_xor}
use lib.ListN.{get_or}
use Rattle.priority.specs.Priority.{HoldsConstants, key_bytes, byte_values, xor_of_terms}

-- `rest` is what is left of `key` above its first `position` bytes.
module _ (key position rest : ℕ) (left : rest ≡ key / byte_values ^ position) where
  pub rest_next : rest / byte_values ≡ key / byte_values ^ (position + 1)
  rest_next = rw (left, div-div-eq-div-mul, add-one, pow-suc)

  pub xor_of_terms_next : (constants : List ℕ) → HoldsConstants constants → position < key_bytes
      → bit_xor (xor_of_terms key position) (get_or constants (byte_values * position + rest % byte_values) 0)
      ≡ xor_of_terms key (position + 1)
  unfolding HoldsConstants xor_of_terms
  xor_of_terms_next constants holds below = rw (add-one, ← left, holds (byte_values * position + rest % byte_values) (omega arith))
