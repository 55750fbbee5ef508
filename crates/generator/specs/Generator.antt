-- The rule of the constants in document 01, section "Priority", and of a load's states in document 02, N1: they are the same. Assumes
-- nothing.
use Rattle.std.specs.Prelude.{ℕ, ◌+◌, ◌*◌, ◌%◌, ◌^◌}

-- What each step multiplies by.
abbrev pub multiplier : ℕ
multiplier = 6364136223846793005

-- What each step adds.
abbrev pub increment : ℕ
increment = 1442695040888963407

-- "each next is 6364136223846793005 times the one before, plus 1442695040888963407, modulo 2^64" (01); "each operation first sets s to
-- 6364136223846793005·s + 1442695040888963407, modulo 2^64" (02)
abbrev pub next : ℕ → ℕ
next s = (multiplier * s + increment) % 2 ^ 64
