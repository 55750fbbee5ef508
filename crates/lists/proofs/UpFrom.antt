-- Laws of `up_from`, the numbers from a start on, and of maps over them. Assumes nothing.
use mathlib.Core.Bool.{true}
use mathlib.Core.List.{List, [], ◌∷◌, ◌++◌, map}
use mathlib.Core.Logic.{◌≢◌}
use mathlib.Core.Path.{◌≡◌, refl, sym, ap, ap₂, ◌∙◌}
use Prim.Native.Nat.{ℕ, zero, suc, ◌+◌, ◌<◌, ◌≤◌}
use native.Mathlib.Nat.{add-zero, add-suc, zero-add, suc-add}
use native.Mathlib.Numerals.{add-one}
use native.Mathlib.Omega.{arith}
use lib.Dec.{eqb}
use lib.ListN.{length, get_or}
use borrow.Author.Tests.{eqb-false}
use Rattle.lists.specs.Lists.{member, up_from, All, Rising}
use Rattle.lists.proofs.Tests.{by_test, or_true_left, or_true_right}
use Rattle.lists.proofs.Keep.{all_map}

pub up_from-length : (a n : ℕ) → length (up_from a n) ≡ n
up_from-length a zero = refl
up_from-length a (suc n) = ap suc (up_from-length (suc a) n)

pub up_from_within : (a n : ℕ) → All (λ x. (a ≤ x) × (x < a + n)) (up_from a n)
up_from_within a zero = tt
up_from_within a (suc n) =
    (omega arith, all_map (λ x. (suc a ≤ x) × (x < suc a + n)) (λ x. (a ≤ x) × (x < a + suc n)) (λ x h. omega arith) (up_from (suc a) n) (up_from_within (suc a) n))

pub up_from_rising : (a n : ℕ) → Rising (up_from a n)
up_from_rising a zero = tt
up_from_rising a (suc n) =
    (all_map (λ x. (suc a ≤ x) × (x < suc a + n)) (λ x. a < x) (λ x h. omega arith) (up_from (suc a) n) (up_from_within (suc a) n), up_from_rising (suc a) n)

pub up_from-append : (a m n : ℕ) → up_from a (m + n) ≡ up_from a m ++ up_from (a + m) n
up_from-append a zero n = ap (up_from a) (zero-add n) ∙ ap (λ (b : ℕ). up_from b n) (sym (add-zero a))
up_from-append a (suc m) n =
    ap (up_from a) (suc-add m n) ∙ ap (λ (xs : List ℕ). a ∷ xs) (up_from-append (suc a) m n ∙ ap (λ (b : ℕ). up_from (suc a) m ++ up_from b n) (suc-add a m ∙ sym (add-suc a m)))

-- one number more at the end
pub up_from_end : (a n : ℕ) → up_from a (suc n) ≡ up_from a n ++ ((a + n) ∷ [])
up_from_end a n = ap (up_from a) (sym (add-one n)) ∙ up_from-append a n 1

pub up_from-member : (a n x : ℕ) → a ≤ x → x < a + n → member x (up_from a n) ≡ true
up_from-member a zero x h k = absurd (omega arith)
up_from-member a (suc n) x h k =
    by_test (eqb x a)
    (λ e. or_true_left (eqb x a) (member x (up_from (suc a) n)) e)
    (λ e. let d : x ≢ a = eqb-false x a e in or_true_right (eqb x a) (member x (up_from (suc a) n)) (up_from-member (suc a) n x (omega arith) (omega arith)))

pub up_from_at : (a n i d : ℕ) → i < n → get_or (up_from a n) i d ≡ a + i
up_from_at a zero i d h = absurd (omega arith)
up_from_at a (suc n) zero d h = sym (add-zero a)
up_from_at a (suc n) (suc i) d h = up_from_at (suc a) n i d (omega arith) ∙ suc-add a i ∙ sym (add-suc a i)

pub up_from_shifted : (a n : ℕ) → map suc (up_from a n) ≡ up_from (suc a) n
up_from_shifted a zero = refl
up_from_shifted a (suc n) = ap (λ (xs : List ℕ). suc a ∷ xs) (up_from_shifted (suc a) n)

-- ---- a map read at an index
pub mapped_at : (f : ℕ → ℕ) (xs : List ℕ) (i : ℕ) → i < length xs → get_or (map f xs) i 0 ≡ f (get_or xs i 0)
mapped_at f [] i h = absurd (omega arith)
mapped_at f (x ∷ xs) zero h = refl
mapped_at f (x ∷ xs) (suc i) h = mapped_at f xs i (omega arith)

pub mapped_up_from_at : (f : ℕ → ℕ) (a n i : ℕ) → i < n → get_or (map f (up_from a n)) i 0 ≡ f (a + i)
mapped_up_from_at f a n i h = mapped_at f (up_from a n) i (omega (arith, up_from-length a n)) ∙ ap f (up_from_at a n i 0 h)

-- a list read index by index
pub mapped_up_from_all : {B : Type 0} (f : ℕ → B) (xs : List B) (none : B) (a : ℕ) → ((i : ℕ) → i < length xs → f (a + i) ≡ get_or xs i none)
    → map f (up_from a (length xs)) ≡ xs
mapped_up_from_all f [] none a h = refl
mapped_up_from_all {B = B} f (x ∷ xs) none a h =
    ap₂ (λ (y : B) (ys : List B). y ∷ ys) (ap f (omega arith) ∙ h 0 (omega arith))
    (mapped_up_from_all f xs none (suc a) (λ i l. ap f (omega arith) ∙ h (suc i) (omega arith)))
