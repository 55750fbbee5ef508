-- What insert and delete make of a table that is known to be sound is what the rules of a load make of its set. Assumes nothing.
use mathlib.Core.Bool.{false}
use mathlib.Core.List.Permᴰ
use mathlib.Core.List.{List}
use mathlib.Core.Path.{◌≡◌, refl, sym, ap, ◌∙◌}
use Prim.Native.Nat.{ℕ, ◌<◌}
use native.Mathlib.Omega.{arith}
use lib.Dec.{eqb, ltb}
use lib.ListN.{length, length-map}
use borrow.Author.Tests.{eqb-true, eqb-false}
use Rattle.lists.specs.Lists.{All, Rising, member, insert_by}
use Rattle.lists.proofs.Tests.{by_test}
use Rattle.lists.proofs.Rising.{rising_few}
use Rattle.lists.proofs.Sorting.{all_permuted, length_permuted, insert_by_permutes}
use Rattle.measure.specs.Measure.{unmeasured}
use Rattle.measure.proofs.Stored.{unmeasured_right}
use Rattle.table.specs.Contents.{Contents, IsKey, keys_in}
use Rattle.table.specs.Table.{fresh, contents_of}
use Rattle.table.proofs.Reading.{contents_of_fresh}
use Rattle.table.proofs.Soundness.{WordSized}
use Rattle.call_sets.specs.Load.{inserting, deleting, plain, done}
use Rattle.call_meaning.specs.Calls.{rank_in, insert_after, delete_after}
use Rattle.call_changes.specs.Known.{Known}
use Rattle.call_changes.proofs.Sets.{inserted_rising, joined_valid, without_valid}
use Rattle.call_changes.proofs.Knowing.{facts}
use Rattle.call_changes.specs.Done.{IsLoadKey, with_done}
use Rattle.call_insert.proofs.Inserting as inserts
use Rattle.call_delete.proofs.Deleting as deletes

-- ---- room
-- where a load's key is absent, fewer than all of them are held
pub room_left : (key : ℕ) (set : List ℕ) → IsLoadKey key → All IsLoadKey set → Rising set → member key set ≡ false → length set < 512
room_left key set right ours rising absent =
    let same = insert_by_permutes ltb key set in
    let more =
    rising_few 0 512 (insert_by ltb key set) (omega arith) (inserted_rising key set rising absent) (all_permuted IsLoadKey (Permᴰ.symm same) (right, ours))
    in
    omega (arith, length_permuted same)

-- ---- the operations
module _ (many : ℕ) (words keys tags : List ℕ) (known : Known many words keys tags) (sized : WordSized words) (key : ℕ) (right : IsKey key) where
  abbrev shown : Contents
  shown = contents_of many words

  as_many : length (keys_in shown) ≡ length shown.entries
  as_many = length-map shown.entries (λ e. e.key)

  pub insert_operates : contents_of many (insert_after words key unmeasured) ≡ with_done many (inserting key) shown
  unfolding done
  insert_operates =
      let valid = (facts many words keys tags known sized).valid in
      let grown = inserts.with_key many words (plain key) in
      by_test (member key (keys_in shown))
      (λ held.
      rw held
      (ap (contents_of many)
      (sym (inserts.refused_held words key unmeasured many known.some known.most known.long right.0 unmeasured_right known.sound held).1)))
      (λ absent.
      by_test (eqb (length shown.entries) many)
      (λ full.
      rw (absent, full)
      (ap (contents_of many)
      (sym
      (inserts.refused_full words key unmeasured many known.some known.most known.long right.0 unmeasured_right known.sound absent
      (as_many ∙ eqb-true (length shown.entries) many full)).1)))
      (λ free.
      let apart = eqb-false (length shown.entries) many free in
      let room : length (keys_in shown) < many = omega (arith, valid.keys_fit, as_many) in
      rw (absent, free)
      (ap (contents_of many)
      (sym
      (inserts.accepted words key unmeasured many known.some known.most known.long right.0 unmeasured_right known.sound absent room (rank_in grown key) refl
      (fresh many grown) refl).1)
      ∙ contents_of_fresh many grown known.some (joined_valid (plain key) many shown valid right unmeasured_right absent room))))

  pub delete_operates : contents_of many (delete_after words key) ≡ with_done many (deleting key) shown
  unfolding done
  delete_operates =
      let valid = (facts many words keys tags known sized).valid in
      let shrunk = deletes.without_key many words key in
      by_test (member key (keys_in shown))
      (λ held.
      rw held
      (ap (contents_of many)
      (sym
      (deletes.accepted words key many known.some known.most known.long right.0 known.sound held (rank_in shown key) refl
      (fresh many shrunk) refl).1)
      ∙ contents_of_fresh many shrunk known.some (without_valid key many shown valid)))
      (λ absent.
      rw absent
      (ap (contents_of many)
      (sym (deletes.refused_absent words key many known.some known.most known.long right.0 known.sound absent).1)))
