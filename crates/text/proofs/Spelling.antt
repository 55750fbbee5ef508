-- Digits written from the last to the first. Assumes nothing.
use mathlib.Core.List.{List, [], ◌∷◌}
use mathlib.Core.Path.{◌≡◌, refl, sym, ap, ◌∙◌}
use Prim.Native.Nat.{ℕ, zero, suc, ◌+◌, ◌-◌, ◌/◌, ◌%◌, ◌≤◌, ◌<◌}
use native.Mathlib.Omega.{arith}
use lib.ListN.{length, set, length-append, length-set}
use Rattle.lists.specs.Lists.{overwrite}
use Rattle.lists.proofs.Overwrite.{overwrite_none, overwrite_left_first}
use Rattle.text.specs.Digits.{digit, digits, hexadecimal, hexadecimal_digits}

pub digits_length : (base many n : ℕ) → length (digits base many n) ≡ many
digits_length base zero n = refl
digits_length base (suc many) n = length-append (digits base many (n / base)) (digit (n % base) ∷ []) ∙ omega (arith, digits_length base many (n / base))

-- Of `many` digits from index `at` on those from index `i` on stand in `output`; with those of `rest` before them it is as it is to become.
pub record Spelled (before : List ℕ) (at base many n : ℕ) (output : List ℕ) (i rest : ℕ) : Type 0 where
  pub from : at ≤ i
  pub upto : i ≤ at + many
  pub size : length output ≡ length before
  pub holds : overwrite output at (digits base (i - at) rest) ≡ overwrite before at (digits base many n)

pub spelled_none : (before : List ℕ) (at base many n : ℕ) → Spelled before at base many n before (at + many) n
spelled_none before at base many n =
    let whole : at + many - at ≡ many = omega arith in
    record { from = omega arith; upto = omega arith; size = refl; holds = ap (λ (k : ℕ). overwrite before at (digits base k n)) whole }

module _ {before : List ℕ} {at base many n : ℕ} {output : List ℕ} {i rest : ℕ} (state : Spelled before at base many n output i rest)
    (fits : at + many ≤ length before) where
  spelled_next : at < i
      → overwrite (set output (i - 1) (digit (rest % base))) at (digits base (i - 1 - at) (rest / base)) ≡ overwrite output at (digits base (i - at) rest)
  spelled_next turn =
      let low = digit (rest % base) in
      let high = digits base (i - 1 - at) (rest / base) in
      let more : i - at ≡ suc (i - 1 - at) = omega arith in
      let long = digits_length base (i - 1 - at) (rest / base) in
      sym (overwrite_none (overwrite (set output (i - 1) low) at high) (suc (i - 1)))
      ∙ overwrite_left_first output high low [] at (i - 1) (omega arith) (let u = state.upto in let s = state.size in omega arith)
      ∙ ap (λ (k : ℕ). overwrite output at (digits base k rest)) (sym more)

  pub spelled_more : at < i → Spelled before at base many n (set output (i - 1) (digit (rest % base))) (i - 1) (rest / base)
  spelled_more turn =
      let u = state.upto in
      record {
        from = omega arith;
        upto = omega arith;
        size = length-set output (i - 1) (digit (rest % base)) ∙ state.size;
        holds = spelled_next turn ∙ state.holds;
      }

  pub spelled_all : i ≤ at → output ≡ overwrite before at (digits base many n)
  spelled_all h =
      let none : i - at ≡ 0 = omega arith in
      sym (overwrite_none output at) ∙ ap (λ (k : ℕ). overwrite output at (digits base k rest)) (sym none) ∙ state.holds

pub hexadecimal_length : (n : ℕ) → length (hexadecimal n) ≡ hexadecimal_digits
unfolding hexadecimal
hexadecimal_length n = digits_length 16 hexadecimal_digits n
