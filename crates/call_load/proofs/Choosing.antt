-- The operation that a state chooses, by its two highest bits. Assumes nothing.
use mathlib.Core.Bool.{true, ◌||◌}
use mathlib.Core.Logic.{◌≢◌}
use mathlib.Core.Path.{◌≡◌, refl}
use Prim.Native.Nat.{ℕ, zero, suc, ◌+◌, ◌/◌, ◌%◌, ◌<◌, ◌≤◌}
use native.Mathlib.Omega.{arith}
use lib.Dec.{eqb}
use borrow.Author.Tests.{eq-eqb, ne_eqb}
use Rattle.call_sets.specs.Load.{inserting, deleting, looking_up, key_from, highest_bits, chosen}

-- The key of a state, and its choice, as they are computed.
abbrev pub key_at : ℕ → ℕ
key_at s = s / 4294967296 % 512 + 1

abbrev pub choice_at : ℕ → ℕ
choice_at s = s / 4611686018427387904

low_bits : (n : ℕ) → n < 2 → (eqb n 0 || eqb n 1) ≡ true
low_bits zero h = refl
low_bits (suc zero) h = refl
low_bits (suc (suc n)) h = absurd (omega arith)

module _ (s : ℕ) where
  pub chooses_insert : choice_at s < 2 → chosen s ≡ inserting (key_at s)
  unfolding chosen highest_bits key_from
  chooses_insert h = rw (low_bits (choice_at s) h)

  module _ (more : 2 ≤ choice_at s) where
    pub chooses_delete : choice_at s ≡ 2 → chosen s ≡ deleting (key_at s)
    unfolding chosen highest_bits key_from
    chooses_delete e = rw (ne_eqb (choice_at s) 0 (λ q. omega arith), ne_eqb (choice_at s) 1 (λ q. omega arith), eq-eqb (choice_at s) 2 e)

    pub chooses_lookup : choice_at s ≢ 2 → chosen s ≡ looking_up (key_at s)
    unfolding chosen highest_bits key_from
    chooses_lookup d = rw (ne_eqb (choice_at s) 0 (λ q. omega arith), ne_eqb (choice_at s) 1 (λ q. omega arith), ne_eqb (choice_at s) 2 d)
