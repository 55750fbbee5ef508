-- Constants and priorities are 64-bit numbers, and a home is below the number of slots.
-- Assumes nothing.
use Prim.Native.Nat.{ℕ, zero, suc, ◌<◌, ◌^◌}
use native.Mathlib.Nat.{mod-lt}
use lib.Bits.{xor_lt}
use lib.Dec.{lit<}
use lib.Pow.{pow_pos}
use Rattle.priority.specs.Priority.{constant_at, term, xor_of_terms, key_bytes, priority_of, priority_with, home_of}

pub constant_at_below : (index : ℕ) → constant_at index < 2 ^ 64
unfolding constant_at
constant_at_below zero = lit< tt
constant_at_below (suc index) = mod-lt _ (pow_pos 64)

xor_of_terms_below : (k count : ℕ) → xor_of_terms k count < 2 ^ 64
unfolding xor_of_terms
xor_of_terms_below k zero = pow_pos 64
xor_of_terms_below k (suc j) = xor_lt 64 (xor_of_terms k j) (term k j) (xor_of_terms_below k j) (constant_at_below _)

pub priority_with_below : (salt k : ℕ) → priority_with salt k < 2 ^ 64
unfolding priority_of priority_with
priority_with_below salt k = xor_of_terms_below _ key_bytes

pub home_of_below : (priority : ℕ) {slots : ℕ} → 0 < slots → home_of priority slots < slots
home_of_below priority positive = mod-lt _ positive
