-- What the tests of a set-up say of its reply and of the words after it. Assumes nothing.
use mathlib.Core.Bool.{true, false}
use mathlib.Core.List.{List}
use mathlib.Core.Logic.{◌≢◌}
use mathlib.Core.Path.{◌≡◌, refl, sym, ap, ◌∙◌}
use Prim.Native.Nat.{ℕ, zero, suc}
use native.Mathlib.Omega.{arith}
use lib.ListN.{length, set, replicate}
use borrow.Author.Tests.{ne_eqb}
use Rattle.std.specs.Prelude.{Result, Ok, Err, is_some}
use Rattle.table.specs.Contents.{new_order}
use Rattle.table_limits.specs.Lengths.{slots_for, slots_if}
use Rattle.table_limits.proofs.Lengths.{slots_for_some}
use Rattle.call_replies.specs.Replies.{done_of}
use Rattle.call_replies.specs.declared.Refusal.{Refusal}
use Rattle.call_replies.specs.declared.Refusal.TheVariants.{WrongLength, WrongOrder}
use Rattle.call_meaning.specs.Reasons.{wrong_length, wrong_order}
use Rattle.call_meaning.specs.Calls.{rewritten, set_up_refusal, set_up_reply, set_up_after}
use Rattle.table.specs.Layout.{order_word, salt_word}
use Rattle.table.proofs.Blank.{blank_words}

-- what it tells that the number of slots is none, and that it is some
pub no_slots : (n : ℕ) → is_some (slots_if n) ≡ false → n ≡ 0
no_slots zero e = refl
no_slots (suc n) e = cc

pub some_slots : (n : ℕ) → is_some (slots_if n) ≡ true → n ≢ 0
some_slots zero e none = cc
some_slots (suc n) e none = omega arith

module _ (words : List ℕ) (order salt : ℕ) where
  -- What a set-up that answers so and leaves these words meets.
  abbrev pub Meets : Result Unit Refusal → List ℕ → Type 0
  Meets answer after = (done_of answer ≡ set_up_reply words order) × (after ≡ set_up_after words order salt)

  pub refused_length : slots_for (length words) ≡ 0 → Meets (Err WrongLength) words
  unfolding set_up_reply set_up_after set_up_refusal wrong_length
  refused_length e = (rw e, rw e)

  pub refused_order : slots_for (length words) ≢ 0 → new_order order ≡ false → Meets (Err WrongOrder) words
  unfolding set_up_reply set_up_after set_up_refusal wrong_length wrong_order
  refused_order d e = let r = ne_eqb (slots_for (length words)) 0 d in (rw (r, e), rw (r, e))

  pub accepted : slots_for (length words) ≢ 0 → new_order order ≡ true
      → (cleared : List ℕ) → cleared ≡ replicate (length words) 0 → Meets (Ok tt) (set (set cleared order_word order) salt_word salt)
  unfolding set_up_reply set_up_after set_up_refusal wrong_length wrong_order rewritten
  accepted d e cleared zeros =
      let r = ne_eqb (slots_for (length words)) 0 d in
      let right = slots_for_some (length words) d in (
        rw (r, e),
        rw (r, e)
            (ap (λ (xs : List ℕ). set (set xs order_word order) salt_word salt) (zeros ∙ ap (λ (n : ℕ). replicate n 0) right.long)
            ∙ sym (blank_words (slots_for (length words)) order salt)),
      )
