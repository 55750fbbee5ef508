-- What the tests of a batch say of its reply and of its lines after it. Assumes nothing.
use mathlib.Core.Bool.{true, false}
use mathlib.Core.List.{List, map}
use mathlib.Core.Logic.{◌≢◌}
use mathlib.Core.Path.{◌≡◌, ap, ◌∙◌}
use Prim.Native.Nat.{ℕ}
use lib.Dec.{eqb}
use lib.ListN.{length}
use borrow.Author.Tests.{ne_eqb}
use Rattle.std.specs.Prelude.{Result, Ok, Err}
use Rattle.table.specs.Contents.{rising_keys}
use Rattle.table_limits.specs.Lengths.{slots_for}
use Rattle.table_judge.specs.Judge.{is_sound}
use Rattle.call_replies.specs.Replies.{sized_of}
use Rattle.call_replies.specs.declared.Refusal.{Refusal}
use Rattle.call_replies.specs.declared.Refusal.TheVariants.{WrongLength, NotRising, NotSound}
use Rattle.call_meaning.specs.Reasons.{wrong_length, not_rising, not_sound}
use Rattle.call_batch.specs.Batch.{keys_of, answered, batch_refusal, batch_reply, batch_after}
use Rattle.call_batch.specs.Answering.{nothing_asked, progress, Askable}
use Rattle.call_batch.specs.declared.Question.{Question}
use Rattle.call_batch.proofs.KeysRise.{rises_is}
use Rattle.call_batch.proofs.Counting.{can_ask, blocks_are}

module _ (words : List ℕ) (ys : List Question) where
  -- What a batch that answers so and leaves these lines meets.
  abbrev pub Meets : Result ℕ Refusal → List Question → Type 0
  Meets answer after = record {
    reply_value : sized_of answer ≡ batch_reply words ys;
    questions_after : after ≡ batch_after words ys;
  }

  pub refused_length : slots_for (length words) ≡ 0 → Meets (Err WrongLength) ys
  unfolding batch_reply batch_after batch_refusal wrong_length
  refused_length e = record { reply_value = rw e; questions_after = rw e }

  module _ (some : slots_for (length words) ≢ 0) where
    long : eqb (slots_for (length words)) 0 ≡ false
    long = ne_eqb (slots_for (length words)) 0 some

    pub refused_keys : rising_keys (keys_of ys) ≡ false → Meets (Err NotRising) ys
    unfolding batch_reply batch_after batch_refusal wrong_length not_rising
    refused_keys e = record { reply_value = rw (long, e); questions_after = rw (long, e) }

    module _ (up : rising_keys (keys_of ys) ≡ true) where
      pub refused_table : is_sound words ≡ false → Meets (Err NotSound) ys
      unfolding batch_reply batch_after batch_refusal wrong_length not_rising not_sound
      refused_table e = record { reply_value = rw (long, up, e); questions_after = rw (long, up, e) }

      -- over a sound table each line can be answered
      pub may_fill : is_sound words ≡ true → Askable words nothing_asked (keys_of ys)
      may_fill sound = can_ask words sound (keys_of ys) (rises_is (keys_of ys) ∙ up)

      -- the answers make the reply and the lines
      pub accepted : is_sound words ≡ true → (n : ℕ) → n ≡ (progress words nothing_asked (keys_of ys)).blocks
          → (after : List Question) → after ≡ map (answered words) ys → Meets (Ok n) after
      unfolding batch_reply batch_after batch_refusal wrong_length not_rising not_sound
      accepted sound n e after q = record {
        reply_value = rw (long, up, sound) (ap (λ (m : ℕ). sized_of (Ok m)) (e ∙ blocks_are words sound (keys_of ys) (rises_is (keys_of ys) ∙ up)));
        questions_after = rw (long, up, sound) q;
      }
