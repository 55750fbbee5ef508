-- Which lookups are accepted, and what a table that is judged sound shows. Assumes nothing.
use mathlib.Core.Bool.{true}
use mathlib.Core.List.{List}
use mathlib.Core.Logic.{◌≢◌}
use mathlib.Core.Path.{◌≡◌, refl}
use Prim.Native.Nat.{ℕ, ◌≤◌}
use native.Mathlib.Omega.{arith}
use lib.Dec.{eqb}
use lib.ListN.{length}
use borrow.Author.Tests.{ne_eqb}
use Rattle.lists.specs.Lists.{Rising}
use Rattle.lists.proofs.Tests.{by_test}
use Rattle.table.specs.Contents.{keys_in}
use Rattle.table.proofs.Orders.{order_wide}
use Rattle.table.proofs.Soundness.{sound_order, sound_rises}
use Rattle.table_limits.specs.Lengths.{slots_for}
use Rattle.table_judge.specs.Judge.{is_sound}
use Rattle.table_judge.proofs.Decides.{some_slots, passed_with}
use Rattle.call_meaning.specs.Reasons.{wrong_length, zero_key, not_sound, shown}
use Rattle.call_meaning.specs.Calls.{lookup_refusal}

module _ (words : List ℕ) (sound : is_sound words ≡ true) where
  pub lookup_accepted : (key : ℕ) → key ≢ 0 → lookup_refusal words key ≡ 0
  unfolding lookup_refusal wrong_length zero_key not_sound
  lookup_accepted key positive = rw (ne_eqb (slots_for (length words)) 0 (some_slots words sound), ne_eqb key 0 positive, sound) refl

  pub shown_wide : 2 ≤ (shown words).order
  unfolding shown
  shown_wide = order_wide (shown words).order (sound_order (slots_for (length words)) words (passed_with words sound))

  pub shown_rises : Rising (keys_in (shown words))
  unfolding shown
  shown_rises = sound_rises (slots_for (length words)) words (passed_with words sound)

-- an accepted lookup is one in a sound table
pub accepted_sound : (words : List ℕ) (key : ℕ) → lookup_refusal words key ≡ 0 → is_sound words ≡ true
unfolding lookup_refusal wrong_length zero_key not_sound
accepted_sound words key accepted =
    by_test (is_sound words) (λ s. s)
    (λ s.
    by_test (eqb (slots_for (length words)) 0)
    (λ e. let h : 1 ≡ 0 = rw e at accepted in absurd (omega arith))
    (λ e.
    by_test (eqb key 0)
    (λ z. let h : 3 ≡ 0 = rw (e, z) at accepted in absurd (omega arith))
    (λ z. let h : 7 ≡ 0 = rw (e, z, s) at accepted in absurd (omega arith))))
