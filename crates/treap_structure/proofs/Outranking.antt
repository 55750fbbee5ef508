-- Outranking is a strict total order on keys, whatever their priorities. Assumes nothing.
use mathlib.Core.Bool.{true, false, ◌&&◌}
use mathlib.Core.Logic.{◌⊎◌, ◌≢◌, inl, inr, ⊎_elim}
use mathlib.Core.Path.{◌≡◌, sym}
use Prim.Native.Nat.{ℕ, ◌<◌}
use native.Mathlib.Omega.{arith}
use lib.Dec.{eqb, ltb}
use borrow.Author.Tests.{ltb-true, eqb-true, lt-ltb, eq-eqb}
use Rattle.lists.proofs.Tests.{by_test, true_or_false, Compared, compared, or_true_cases, or_true_left, or_true_right, and_left, and_right, and_both}
use Rattle.lists.proofs.Tests.Compared.{less, same, more}
use Rattle.treap.specs.Treap.{outranks}

module _ (p : ℕ → ℕ) where
  -- what the test says
  unfoldable pub Outranks : ℕ → ℕ → Type 0
  Outranks a b = (p b < p a) ⊎ ((p a ≡ p b) × (a < b))

  pub outranks_says : (a b : ℕ) → outranks p a b ≡ true → Outranks a b
  unfolding outranks Outranks
  outranks_says a b h =
      ⊎_elim (λ l. inl (ltb-true (p b) (p a) l))
      (λ e. inr (eqb-true (p a) (p b) (and_left (eqb (p a) (p b)) (ltb a b) e), ltb-true a b (and_right (eqb (p a) (p b)) (ltb a b) e)))
      (or_true_cases (ltb (p b) (p a)) (eqb (p a) (p b) && ltb a b) h)

  pub outranks_when : (a b : ℕ) → Outranks a b → outranks p a b ≡ true
  unfolding outranks Outranks
  outranks_when a b h =
      ⊎_elim (λ l. or_true_left (ltb (p b) (p a)) (eqb (p a) (p b) && ltb a b) (lt-ltb (p b) (p a) l))
      (λ e. or_true_right (ltb (p b) (p a)) (eqb (p a) (p b) && ltb a b) (and_both (eqb (p a) (p b)) (ltb a b) (eq-eqb (p a) (p b) e.0) (lt-ltb a b e.1)))
      h

  never : (a b : ℕ) → Outranks a b → Outranks b a → ⊥
  unfolding Outranks
  never a b h k = ⊎_elim (λ x. ⊎_elim (λ y. omega arith) (λ y. omega arith) k) (λ x. ⊎_elim (λ y. omega arith) (λ y. omega arith) k) h

  -- ---- strict
  pub outranks_one_way : (a b : ℕ) → outranks p a b ≡ true → outranks p b a ≡ true → ⊥
  outranks_one_way a b h k = never a b (outranks_says a b h) (outranks_says b a k)

  pub outranked_not : (a b : ℕ) → outranks p a b ≡ true → outranks p b a ≡ false
  outranked_not a b h = by_test (outranks p b a) (λ k. absurd (outranks_one_way a b h k)) (λ k. k)

  pub outranks_trans : (a b c : ℕ) → outranks p a b ≡ true → outranks p b c ≡ true → outranks p a c ≡ true
  unfolding Outranks
  outranks_trans a b c h k =
      outranks_when a c
      (⊎_elim
      (λ (x : p b < p a). ⊎_elim (λ (y : p c < p b). inl (omega arith)) (λ (y : (p b ≡ p c) × (b < c)). inl (omega arith)) (outranks_says b c k))
      (λ (x : (p a ≡ p b) × (a < b)). ⊎_elim (λ (y : p c < p b). inl (omega arith)) (λ (y : (p b ≡ p c) × (b < c)). inr (omega arith)) (outranks_says b c k))
      (outranks_says a b h))

  -- ---- total
  by_priority : (a b : ℕ) → a ≢ b → Compared (p a) (p b) → Compared a b → Outranks a b ⊎ Outranks b a
  unfolding Outranks
  by_priority a b d (less x y z l) k = inr (inl l)
  by_priority a b d (more x y z l) k = inl (inl l)
  by_priority a b d (same x y z e) (less s t u l) = inl (inr (e, l))
  by_priority a b d (same x y z e) (same s t u i) = absurd (d i)
  by_priority a b d (same x y z e) (more s t u l) = inr (inr (sym e, l))

  pub outranks_total : (a b : ℕ) → a ≢ b → outranks p a b ≡ false → outranks p b a ≡ true
  outranks_total a b d h =
      ⊎_elim (λ k. absurd (true_or_false (outranks p a b) (outranks_when a b k) h)) (λ k. outranks_when b a k)
      (by_priority a b d (compared (p a) (p b)) (compared a b))
