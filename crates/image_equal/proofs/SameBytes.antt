-- Two lists compared by what gathers their differences. Assumes nothing.
use mathlib.Core.Bool.{false}
use mathlib.Core.List.{List, [], ◌∷◌, ◌++◌}
use mathlib.Core.Logic.{◌≢◌}
use mathlib.Core.Path.{◌≡◌, refl, sym, ap, ap₂, ◌∙◌}
use Prim.Native.Nat.{ℕ, ◌+◌, ◌<◌, ◌≤◌}
use native.Mathlib.Numerals.{add-one}
use native.Mathlib.Omega.{arith}
use lib.Bits.{bit_or, bit_xor, or_add_and, xor_add_and, and_le_l, and_le_r, xor_self}
use lib.Dec.{eqb}
use lib.ListN.{length, get_or, take}
use lib.Seq.{take-suc, take-length}
use borrow.Author.Tests.{eqb-true, eqb-false}
use Rattle.lists.specs.Lists.{same}
use Rattle.lists.proofs.Tests.{by_test}
use Rattle.lists.proofs.Membership.{same_when, same_differs}

-- ---- zeros of `|` and `^`
or_zero : (a b : ℕ) → bit_or a b ≡ 0 → (a ≡ 0) × (b ≡ 0)
or_zero a b e = omega (arith, or_add_and a b, and_le_l a b, and_le_r a b)

xor_zero : (a b : ℕ) → bit_xor a b ≡ 0 → a ≡ b
xor_zero a b e = omega (arith, xor_add_and a b, and_le_l a b, and_le_r a b)

-- ---- the lists
module _ (xs ys : List ℕ) where
  pub lengths_differ : length xs ≢ length ys → false ≡ same xs ys
  lengths_differ d = sym (same_differs xs ys (λ e. d (ap length e)))

  -- What is gathered of the first differences: zero only where all of these bytes agree, and zero for equal lists.
  pub record Gathered (gathered upto : ℕ) : Type 0 where
    pub within : upto ≤ length xs
    pub agree : gathered ≡ 0 → take upto xs ≡ take upto ys
    pub equal : xs ≡ ys → gathered ≡ 0

  pub gathered_start : Gathered 0 0
  gathered_start = record { within = omega arith; agree = λ e. refl; equal = λ e. refl }

  module _ (long : length xs ≡ length ys) (gathered i : ℕ) (state : Gathered gathered i) where
    pub gathered_next : i < length xs → Gathered (bit_or gathered (bit_xor (get_or xs i 0) (get_or ys i 0))) (i + 1)
    gathered_next h =
        let x = get_or xs i 0 in
        let y = get_or ys i 0 in
        record {
          within = omega arith;
          agree = λ e.
              let (before, here) = or_zero gathered (bit_xor x y) e in
              rw add-one
              (take-suc xs i 0 h ∙ ap₂ (λ (l : List ℕ) (n : ℕ). l ++ (n ∷ [])) (state.agree before) (xor_zero x y here) ∙ sym (take-suc ys i 0 (omega arith)));
          equal = λ e.
              ap₂ bit_or (state.equal e) (ap (λ (l : List ℕ). bit_xor (get_or l i 0) y) e ∙ xor_self y);
        }

    pub gathered_all : length xs ≤ i → eqb gathered 0 ≡ same xs ys
    gathered_all h =
        let whole : i ≡ length xs = omega (arith, state.within) in
        by_test (eqb gathered 0)
        (λ t.
        t
        ∙ sym
        (same_when xs ys
        (sym (ap (λ (n : ℕ). take n xs) whole ∙ take-length xs) ∙ state.agree (eqb-true gathered 0 t) ∙ ap (λ (n : ℕ). take n ys) (whole ∙ long) ∙ take-length ys)))
        (λ t. t ∙ sym (same_differs xs ys (λ e. eqb-false gathered 0 t (state.equal e))))
