-- Three times an integer determines it. Assumes nothing.
use mathlib.Core.Bool.{false}
use mathlib.Core.Path.{◌≡◌, refl, sym, ap, ◌∙◌}
use Prim.Native.Nat.{ℕ, suc, ◌+◌, ◌*◌}
use native.Mathlib.Omega.{arith}
use lib.IntN.{ℤ, pos, negsuc, nat_abs, neg_ℤ, ◌*ℤ◌, neg_ℤ-neg_ℤ}
use lib.Signed.{non_neg}
use Rattle.lists.proofs.Tests.{true_or_false}

below_zero : (n : ℕ) → non_neg (neg_ℤ (pos (3 * suc n))) ≡ false
below_zero n = let e : 3 * suc n ≡ suc (3 * n + 2) = omega arith in rw e

pub third : (t u : ℤ) → pos 3 *ℤ t ≡ pos 3 *ℤ u → t ≡ u
third (pos a) (pos b) e = let same : 3 * a ≡ 3 * b = ap nat_abs e in ap pos (omega arith)
third (pos a) (negsuc b) e = absurd (true_or_false (non_neg (pos (3 * a))) refl (ap non_neg e ∙ below_zero b))
third (negsuc a) (pos b) e = absurd (true_or_false (non_neg (pos (3 * b))) refl (ap non_neg (sym e) ∙ below_zero a))
third (negsuc a) (negsuc b) e =
    let same : 3 * suc a ≡ 3 * suc b = ap nat_abs (sym (neg_ℤ-neg_ℤ (pos (3 * suc a))) ∙ ap neg_ℤ e ∙ neg_ℤ-neg_ℤ (pos (3 * suc b))) in
    ap negsuc (omega arith)
