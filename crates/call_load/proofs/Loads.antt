-- What a set-up's answer says of a load's reply and of the table after it. Assumes nothing.
use mathlib.Core.Bool.{true}
use mathlib.Core.List.{List, [], ◌∷◌}
use mathlib.Core.Logic.{◌≢◌}
use mathlib.Core.Path.{◌≡◌, refl, sym, ap, ◌∙◌, subst}
use Prim.Native.Nat.{ℕ, ◌<◌, ◌≤◌}
use native.Mathlib.Omega.{arith}
use lib.ListN.{length}
use borrow.Author.Tests.{eqb-false, not-false}
use Rattle.std.specs.Prelude.{Option, Ok, Some, is_some}
use Rattle.table.specs.Layout.{most_slots, table_words}
use Rattle.table.specs.Contents.{Contents, Valid, new_order}
use Rattle.table.specs.Table.{fresh, contents_of}
use Rattle.table.specs.Sound.{sound_with}
use Rattle.table.proofs.Words.{fresh_length}
use Rattle.table_limits.specs.Lengths.{slots_for, slots_if}
use Rattle.table_limits.proofs.Lengths.{slots_for_some, slots_some, slots_sized, if_some}
use Rattle.call_sets.specs.Load.{loaded}
use Rattle.call_replies.specs.Replies.{Reply, done_of}
use Rattle.call_replies.proofs.Refusals.{none_applies, refused_stays}
use Rattle.call_meaning.specs.Reasons.{wrong_length, wrong_order}
use Rattle.call_meaning.specs.Calls.{rewritten, set_up_refusal, set_up_reply, set_up_after, load_refusal, load_reply, load_after}
use Rattle.call_changes.proofs.Written.{sound_again, shows}
use Rattle.call_changes.proofs.Loading.{blank_valid}

module _ (words : List ℕ) (order : ℕ) where
  -- a load replies as its set-up does, and leaves the same words where that is refused
  pub replies_alike : load_reply words order ≡ set_up_reply words order
  unfolding set_up_reply set_up_refusal load_reply load_refusal
  replies_alike = refl

  pub refused_alike : (seed count : ℕ) → 1 ≤ (set_up_reply words order).refusal → load_after words order seed count ≡ set_up_after words order 0
  unfolding set_up_reply set_up_after set_up_refusal load_after load_refusal
  refused_alike seed count some = refused_stays (load_refusal words order) some _ words ∙ sym (refused_stays (load_refusal words order) some _ words)

  -- What is known of the words after a set-up that was accepted.
  pub record Begun (many : ℕ) (after : List ℕ) : Type 0 where
    pub accepted : load_refusal words order ≡ 0
    pub slots : slots_for (length words) ≡ many
    pub some : 0 < many
    pub most : many ≤ most_slots
    pub long : length after ≡ table_words many
    pub sound : sound_with many after ≡ true
    pub holds : contents_of many after ≡ record { order = order; salt = 0; entries = [] }

  -- where a set-up is accepted, neither reason to refuse it applies
  spared : done_of (Ok tt) ≡ set_up_reply words order → (slots_for (length words) ≢ 0) × (new_order order ≡ true)
  unfolding set_up_reply set_up_refusal wrong_length wrong_order
  spared e =
      let none = none_applies (wrong_length words ∷ wrong_order order ∷ []) (omega arith) (sym (ap (λ (r : Reply). r.refusal) e)) in
      (eqb-false (slots_for (length words)) 0 none.0, not-false (new_order order) none.1.0)

  -- words that were set up have a table's length
  pub slots_there : done_of (Ok tt) ≡ set_up_reply words order → is_some (slots_if (slots_for (length words))) ≡ true
  slots_there e =
      let many = slots_for (length words) in
      subst (λ (o : Option ℕ). is_some o ≡ true) (if_some many many refl (slots_for_some (length words) (spared e).0).some) refl

  pub begun : done_of (Ok tt) ≡ set_up_reply words order → (many : ℕ) → slots_if (slots_for (length words)) ≡ Some many → (after : List ℕ)
      → after ≡ set_up_after words order 0 → Begun many after
  unfolding set_up_reply set_up_after set_up_refusal load_refusal rewritten
  begun e many here after left =
      let accepted : load_refusal words order ≡ 0 = sym (ap (λ (r : Reply). r.refusal) e) in
      let right = slots_sized (length words) many here in
      let same = (slots_some (slots_for (length words)) many here).0 in
      let blank : Contents = record { order = order; salt = 0; entries = [] } in
      let valid : Valid many blank = blank_valid many order 0 (spared e).1 (omega arith) in
      let some : 0 < many = omega (arith, right.some) in
      let written : after ≡ fresh many blank = left ∙ rw accepted (ap (λ (n : ℕ). fresh n blank) same) in
      record {
        accepted = accepted;
        slots = same;
        some = some;
        most = omega (arith, right.within);
        long = ap length written ∙ fresh_length many blank;
        sound = sound_again many blank some valid after written;
        holds = shows many blank some valid after written;
      }

  -- the operations done
  pub done_so : (seed count : ℕ) (many : ℕ) (after : List ℕ) → Begun many after → (last : List ℕ)
      → last ≡ fresh many (record { order = (contents_of many after).order; salt = (contents_of many after).salt; entries = loaded many seed count })
      → (done_of (Ok tt) ≡ load_reply words order) × (last ≡ load_after words order seed count)
  unfolding load_reply load_after rewritten
  done_so seed count many after b last e = (
    rw b.accepted,
    rw (b.accepted, b.slots) (e ∙ ap (λ (c : Contents). fresh many (record { order = c.order; salt = c.salt; entries = loaded many seed count })) b.holds),
  )
