-- Numbers in little-endian bytes: how many bytes, that each is a byte, and that writing and reading undo each other; fields of
-- bytes that are put together from parts. Assumes nothing.
use mathlib.Core.List.{List, [], ◌∷◌, ◌++◌}
use mathlib.Core.Path.{◌≡◌, refl, ap, ap₂, ◌∙◌}
use Prim.Native.Nat.{ℕ, zero, suc, ◌+◌, ◌^◌, ◌/◌, ◌≤◌, ◌<◌}
use native.Mathlib.Nat.{mod-lt, mod-add-div, div-lt_iff_lt-mul, div-eq_of_lt, mod-eq_of_lt, add-mul-mod_self_left, add-mul-div_left, zero-add}
use native.Mathlib.Omega.{arith}
use lib.ListN.{length, take, drop, length-take}
use lib.Seq.{take_at, drop_at}
use Rattle.lists.specs.Lists.{All}
use Rattle.treap.specs.Image.{little_endian}
use Rattle.image.specs.Image.{number_of, field_at}
use Rattle.image.specs.Layout.{IsByte}

-- ---- a number in bytes
pub little_endian-length : (width n : ℕ) → length (little_endian width n) ≡ width
little_endian-length zero n = refl
little_endian-length (suc width) n = ap suc (little_endian-length width (n / 256))

pub little_endian_bytes : (width n : ℕ) → All IsByte (little_endian width n)
little_endian_bytes zero n = tt
little_endian_bytes (suc width) n = (mod-lt n (omega arith), little_endian_bytes width (n / 256))

pub power_positive : (width : ℕ) → 0 < 256 ^ width
power_positive zero = omega arith
power_positive (suc width) = omega (arith, power_positive width)

-- reading undoes writing, of a number that fits
pub number_of_bytes : (width n : ℕ) → n < 256 ^ width → number_of (little_endian width n) ≡ n
number_of_bytes zero n h = omega arith
number_of_bytes (suc width) n h =
    let fits : n / 256 < 256 ^ width = (div-lt_iff_lt-mul {k = 256} {x = n} {y = 256 ^ width} (omega arith)).1 (omega arith) in
    omega (arith, number_of_bytes width (n / 256) fits, mod-add-div n 256)

-- as many bytes or fewer make a number that fits
pub number_fits : (width : ℕ) (bs : List ℕ) → length bs ≤ width → All IsByte bs → number_of bs < 256 ^ width
number_fits width [] h a = power_positive width
number_fits zero (b ∷ bs) h a = absurd (omega arith)
number_fits (suc width) (b ∷ bs) h a = omega (arith, number_fits width bs (omega arith) a.1, a.0)

-- writing undoes reading
pub bytes_of_number : (bs : List ℕ) → All IsByte bs → little_endian (length bs) (number_of bs) ≡ bs
bytes_of_number [] a = refl
bytes_of_number (b ∷ bs) a =
    ap₂ (λ (x : ℕ) (xs : List ℕ). x ∷ xs) (add-mul-mod_self_left b 256 (number_of bs) ∙ mod-eq_of_lt a.0)
    (ap (little_endian (length bs)) (add-mul-div_left b (number_of bs) {y = 256} (omega arith) ∙ ap (λ (n : ℕ). n + number_of bs) (div-eq_of_lt a.0) ∙ zero-add (number_of bs))
    ∙ bytes_of_number bs a.1)

-- ---- fields
pub all_take : (P : ℕ → Type 0) (n : ℕ) (xs : List ℕ) → All P xs → All P (take n xs)
all_take P zero xs h = tt
all_take P (suc n) [] h = tt
all_take P (suc n) (x ∷ xs) h = (h.0, all_take P n xs h.1)

pub all_drop : (P : ℕ → Type 0) (n : ℕ) (xs : List ℕ) → All P xs → All P (drop n xs)
all_drop P zero xs h = h
all_drop P (suc n) [] h = tt
all_drop P (suc n) (x ∷ xs) h = all_drop P n xs h.1

pub field_fits : (start width : ℕ) (bytes : List ℕ) → All IsByte bytes → field_at start width bytes < 256 ^ width
unfolding field_at
field_fits start width bytes a =
    number_fits width (take width (drop start bytes)) (omega (arith, length-take width (drop start bytes))) (all_take IsByte width (drop start bytes) (all_drop IsByte start bytes a))

-- a field that stands between what is before it and the rest
pub field_between : (front field rest : List ℕ) (start width : ℕ) → length front ≡ start → length field ≡ width → field_at start width (front ++ (field ++ rest)) ≡ number_of field
unfolding field_at
field_between front field rest start width e w =
    ap (λ (xs : List ℕ). number_of (take width xs)) (drop_at front (field ++ rest) start e) ∙ ap number_of (take_at field rest width w)
