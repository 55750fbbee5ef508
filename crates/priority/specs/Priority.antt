-- Priorities and homes of keys: the definitions of document 01, sections "Priority" and "The table's words", and the salt of document 02, N9.
-- Assumes nothing.
use Rattle.std.specs.Prelude.{◌≡◌, List, map, ◌++◌, ℕ, zero, suc, ◌+◌, ◌*◌, ◌/◌, ◌%◌, ◌^◌, ◌<◌, length, drop, get_or}
use Rattle.std.specs.Int.Bits.{bit_xor}
use Rattle.std.specs.Coded.{Π_prop, Coded-set, coded_ℕ}
use Rattle.generator.specs.Generator.{increment, next}

-- "Constants E[0] to E[2047]": how many there are.
abbrev pub constant_count : ℕ
constant_count = 2048

-- "E[0] = 1442695040888963407, and each next is 6364136223846793005 times the one before, plus 1442695040888963407, modulo 2^64", which is
-- the generator's rule: E[index].
unfoldable pub constant_at : ℕ → ℕ
constant_at zero = increment
constant_at (suc index) = next (constant_at index)

-- The table has E[index] at each index of a constant.
unfoldable pub HoldsConstants : List ℕ → Type 0
HoldsConstants table = (index : ℕ) → index < constant_count → get_or table index 0 ≡ constant_at index

pub HoldsConstants-prop : (table : List ℕ) → IsProp (HoldsConstants table)
unfolding HoldsConstants
HoldsConstants-prop table = Π_prop (λ index. Π_prop (λ below. Coded-set coded_ℕ (get_or table index 0) (constant_at index)))

-- How many bytes a key has.
abbrev pub key_bytes : ℕ
key_bytes = 8

-- How many values a byte has.
abbrev pub byte_values : ℕ
byte_values = 256

-- "byte j of k", "byte 0 the lowest"
abbrev pub byte_at : ℕ → ℕ → ℕ
byte_at k j = k / byte_values ^ j % byte_values

-- "E[256·j + byte j of k]"
abbrev pub term : ℕ → ℕ → ℕ
term k j = constant_at (byte_values * j + byte_at k j)

-- The exclusive or of these terms for every j below a count.
unfoldable pub xor_of_terms : ℕ → ℕ → ℕ
xor_of_terms k zero = 0
xor_of_terms k (suc j) = bit_xor (xor_of_terms k j) (term k j)

-- "The priority P(k) is the exclusive or of E[256·j + byte j of k] for j = 0 to 7"
unfoldable pub priority_of : ℕ → ℕ
priority_of k = xor_of_terms k key_bytes

-- "The priority of k, in its home too, becomes P of the exclusive or of k and the salt" (02, N9).
unfoldable pub priority_with : ℕ → ℕ → ℕ
priority_with salt k = priority_of (bit_xor k salt)

-- `words` with its first entries replaced by the priorities of `keys` under a salt, in their order.
abbrev pub priorities_over : ℕ → List ℕ → List ℕ → List ℕ
priorities_over salt keys words = map (priority_with salt) keys ++ drop (length keys) words

-- What a priority is divided by on the way to a home.
abbrev pub home_divisor : ℕ
home_divisor = 65536

-- "home(k) = floor(P(k) / 65,536) mod M", for a priority P(k) and M slots.
abbrev pub home_of : ℕ → ℕ → ℕ
home_of priority slots = priority / home_divisor % slots
