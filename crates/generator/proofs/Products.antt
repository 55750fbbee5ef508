-- A product modulo 2^64 from the products of halves of 32 bits. Assumes nothing.
use Rattle.std.proofs.Common.{◌≡◌, ℕ, ◌+◌, ◌*◌, ◌/◌, ◌%◌, ◌^◌, ◌<◌, sym, ap, ◌∙◌, mul_assoc, add-mul, mul-le-mul, mul-add, mul_left_comm, arith}
use native.Mathlib.Nat.{mul-mul-mul_comm, mul-add-mod_self_left}

-- How many values 32 bits have.
abbrev pub half : ℕ
half = 4294967296

-- a product of sums of halves
spread : (p q r s : ℕ) → (half * p + q) * (half * r + s) ≡ half * half * (p * r) + half * (p * s) + half * (q * r) + q * s
spread p q r s =
    let first = mul-mul-mul_comm half p half r in
    let second = mul_assoc half p s in
    let third = mul_left_comm q half r in
    add-mul (half * p) q (half * r + s)
    ∙ omega (arith, mul-add (half * p) (half * r) s, mul-add q (half * r) s, first, second, third)

-- The product of the upper halves, and what the two crossed products have beyond 32 bits, fall away.
pub wraps : (a b : ℕ)
    → ((a / half * (b % half) % half + a % half * (b / half) % half) % half * half + a % half * (b % half)) % 2 ^ 64 ≡ (a * b) % 2 ^ 64
wraps a b =
    let cross = a / half * (b % half) + a % half * (b / half) in
    let beyond = a / half * (b / half) + cross / half in
    let low = cross % half * half + a % half * (b % half) in
    let whole : a * b ≡ 2 ^ 64 * beyond + low =
    ap (λ (n : ℕ). n * b) (omega arith)
    ∙ ap (λ (n : ℕ). (half * (a / half) + a % half) * n) (omega arith)
    ∙ spread (a / half) (a % half) (b / half) (b % half)
    ∙ omega arith
    in
    omega arith ∙ sym (ap (λ (n : ℕ). n % 2 ^ 64) whole ∙ mul-add-mod_self_left (2 ^ 64) beyond low)

-- a product of two halves fits
pub halves_fit : (p q : ℕ) → p < half → q < half → p * q < 2 ^ 64
halves_fit p q h k = omega (arith, mul-le-mul {n₁ = p} {m₁ = q} {n₂ = 4294967295} {m₂ = 4294967295} (omega arith) (omega arith))
