-- A number's bytes written one after the other, the lowest first: the invariant of `put`, its start and its step.
-- Assumes nothing.
use mathlib.Core.List.{List, [], ◌∷◌, ◌++◌}
use mathlib.Core.Path.{◌≡◌, refl, sym, ap, ap₂, ◌∙◌}
use Prim.Native.Nat.{ℕ, zero, suc, ◌+◌, ◌/◌, ◌%◌, ◌<◌, ◌≤◌}
use native.Mathlib.Numerals.{add-one}
use native.Mathlib.Omega.{arith}
use lib.ListN.{length, set}
use Rattle.lists.specs.Lists.{overwrite}
use Rattle.lists.proofs.Overwrite.{overwrite_none, overwrite-length}
use Rattle.lists.proofs.Parts.{overwrite_more}
use Rattle.treap.specs.Image.{little_endian}
use Rattle.image.proofs.Bytes.{little_endian-length}

-- What is left of a number without its lowest so many bytes.
abbrev pub shifted : ℕ → ℕ → ℕ
shifted n zero = n
shifted n (suc i) = shifted n i / 256

shifted_first : (n i : ℕ) → shifted (n / 256) i ≡ shifted n i / 256
shifted_first n zero = refl
shifted_first n (suc i) = ap (λ (x : ℕ). x / 256) (shifted_first n i)

-- one byte more
little_endian_more : (i n : ℕ) → little_endian (suc i) n ≡ little_endian i n ++ (shifted n i % 256 ∷ [])
little_endian_more zero n = refl
little_endian_more (suc i) n =
    ap (λ (xs : List ℕ). n % 256 ∷ xs)
    (little_endian_more i (n / 256) ∙ ap (λ (x : ℕ). little_endian i (n / 256) ++ (x % 256 ∷ [])) (shifted_first n i))

-- The output once the lowest so many bytes are written, and what is left of the number.
pub record Put (before : List ℕ) (at number : ℕ) (output : List ℕ) (rest i : ℕ) : Type 0 where
  pub holds : output ≡ overwrite before at (little_endian i number)
  pub left : rest ≡ shifted number i

pub put_none : (before : List ℕ) (at number : ℕ) → Put before at number before number 0
put_none before at number = record { holds = sym (overwrite_none before at); left = refl }

module _ (before : List ℕ) (at number : ℕ) (output : List ℕ) (rest i : ℕ) (p : Put before at number output rest i) where
  pub put_size : at + i ≤ length before → length output ≡ length before
  put_size h = ap length p.holds ∙ overwrite-length before at (little_endian i number) (omega (arith, little_endian-length i number))

  pub put_next : at + i < length before → Put before at number (set output (at + i) (rest % 256)) (rest / 256) (i + 1)
  put_next h =
      rw add-one
      record {
        holds =
            ap₂ (λ (xs : List ℕ) (x : ℕ). set xs (at + i) (x % 256)) p.holds p.left
            ∙ overwrite_more at (at + i) (little_endian i number) before (omega (arith, little_endian-length i number)) (omega arith) (shifted number i % 256) h
            ∙ ap (overwrite before at) (sym (little_endian_more i number));
        left = ap (λ (x : ℕ). x / 256) p.left;
      }
