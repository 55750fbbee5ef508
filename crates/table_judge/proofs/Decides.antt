-- The test of `judge` decides soundness: a table of 64-bit words passes exactly when its words are those of some order, some salt and some
-- set of keys. Assumes that the words are 64-bit numbers, as lent words are.
use mathlib.Core.Bool.{true, false, not}
use mathlib.Core.List.{List}
use mathlib.Core.Logic.{◌≢◌}
use mathlib.Core.Path.{◌≡◌, refl, sym, ap, ◌∙◌}
use Prim.Native.Nat.{ℕ}
use native.Mathlib.Omega.{arith}
use lib.Dec.{eqb}
use lib.ListN.{length}
use borrow.Author.Tests.{eq-eqb, ne_eqb}
use Rattle.std.specs.Prelude.{is_some}
use Rattle.lists.proofs.Tests.{by_test, true_or_false, and_left, and_right, and_both}
use Rattle.table.specs.Layout.{table_words}
use Rattle.table.specs.Table.{Sound}
use Rattle.table.specs.Sound.{sound_with}
use Rattle.table.proofs.Words.{fresh_length}
use Rattle.table.proofs.Soundness.{WordSized, sound_says, sound_when}
use Rattle.table_limits.specs.Lengths.{slots_for}
use Rattle.table_limits.proofs.Lengths.{slots_for_is, slots_for_some}
use Rattle.table_examine.specs.Examine.{verdict_of}
use Rattle.table_judge.specs.Judge.{is_sound}

module _ (words : List ℕ) where
  pub some_slots : is_sound words ≡ true → slots_for (length words) ≢ 0
  unfolding is_sound
  some_slots passed e =
      let many = slots_for (length words) in
      true_or_false (not (eqb many 0)) (and_left (not (eqb many 0)) (sound_with many words) passed) (ap not (eq-eqb many 0 e))

  pub passed_with : is_sound words ≡ true → sound_with (slots_for (length words)) words ≡ true
  unfolding is_sound
  passed_with passed =
      let many = slots_for (length words) in
      and_right (not (eqb many 0)) (sound_with many words) passed

  -- what passes is sound
  pub is_sound_says : WordSized words → is_sound words ≡ true → Sound words
  is_sound_says sized passed =
      let right = slots_for_some (length words) (some_slots passed) in
      sound_says (slots_for (length words)) words (passed_with passed) right.some right.within sized

  -- what is sound passes
  pub is_sound_when : Sound words → is_sound words ≡ true
  unfolding is_sound
  is_sound_when sound =
      let many = slots_for (length words) in
      let long : length words ≡ table_words sound.many = ap length sound.exactly ∙ fresh_length sound.many sound.contents in
      let as_many : many ≡ sound.many = slots_for_is (length words) sound.many sound.some sound.most long in
      let some = sound.some in
      and_both (not (eqb many 0)) (sound_with many words) (ap not (ne_eqb many 0 (λ e. omega arith)))
      (sound_when many words sound (long ∙ ap table_words (sym as_many)))

  -- the test, once the number of slots is known
  pub decided_with : (many : ℕ) → slots_for (length words) ≡ many → many ≢ 0 → is_sound words ≡ sound_with many words
  unfolding is_sound
  decided_with many e d = rw (e, ne_eqb many 0 d) refl

  -- words that no table has
  pub no_slots : slots_for (length words) ≡ 0 → false ≡ is_sound words
  unfolding is_sound
  no_slots e = rw e refl

  -- the verdict on the words is a number of keys where they pass
  pub verdict_tells : (many : ℕ) → is_some (verdict_of many words) ≡ sound_with many words
  unfolding verdict_of
  verdict_tells many = by_test (sound_with many words) (λ e. rw e refl) (λ e. rw e refl)
