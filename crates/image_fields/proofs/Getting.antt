-- A number read from its bytes, the highest first: how large it is while a byte is left, and what it is once all are read. Assumes nothing.
use mathlib.Core.List.{List, reverse}
use mathlib.Core.Path.{◌≡◌, ap, ◌∙◌}
use Prim.Native.Nat.{ℕ, ◌+◌, ◌-◌, ◌^◌, ◌<◌, ◌≤◌}
use native.Mathlib.Nat.{pow-le-pow_right}
use native.Mathlib.Omega.{arith}
use Rattle.std.proofs.lemmas.List.{reverse-reverse}
use lib.ListN.{take, drop}
use Rattle.image.specs.Image.{number_of, field_at}

-- The bytes of a field, as the code takes them.
abbrev pub field : (bytes : List ℕ) (at width : ℕ) → List ℕ
field bytes at width = take (at + width - at) (drop at bytes)

-- while a byte is left, the number leaves room for it
pub got_room : (number passed width : ℕ) → number < 256 ^ passed → passed < width → width ≤ 8 → number < 256 ^ 7
got_room number passed width small more few =
    let p : 256 ^ passed ≤ 256 ^ 7 = pow-le-pow_right {n = 256} (omega arith) {i = passed} {j = 7} (omega arith) in omega arith

pub got_all : (bytes : List ℕ) (at width number : ℕ) (passed : List ℕ) → number ≡ number_of (reverse passed) → passed ≡ reverse (field bytes at width) → number ≡ field_at at width bytes
unfolding field_at
got_all bytes at width number passed holds all =
    let whole : at + width - at ≡ width = omega arith in
    holds ∙ ap (λ (xs : List ℕ). number_of (reverse xs)) all ∙ ap number_of (reverse-reverse (field bytes at width)) ∙ ap (λ (n : ℕ). number_of (take n (drop at bytes))) whole
