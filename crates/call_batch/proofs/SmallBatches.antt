-- A batch without a line meets no block, and one of a single line meets those that a lookup meets. Assumes nothing.
use mathlib.Core.List.{List, [], ◌∷◌}
use mathlib.Core.Path.{◌≡◌, refl, ap, ◌∙◌}
use Prim.Native.Nat.{ℕ}
use lib.Dec.{eqb}
use lib.ListN.{length}
use Rattle.lists.specs.Lists.{member}
use Rattle.lists.proofs.Tests.{by_test}
use Rattle.table.specs.Contents.{rising_keys, keys_in}
use Rattle.table_limits.specs.Lengths.{slots_for}
use Rattle.table_judge.specs.Judge.{is_sound}
use Rattle.table_descend.proofs.InRow.{none_met, alone_met}
use Rattle.call_replies.specs.Replies.{unless_refused}
use Rattle.call_replies.proofs.Refusals.{both_same}
use Rattle.call_meaning.specs.Reasons.{wrong_length, zero_key, not_rising, not_sound, shown}
use Rattle.call_meaning.specs.Calls.{standing_in, lookup_refusal, lookup_reply, blocks_told}
use Rattle.call_batch.specs.Batch.{batch_refusal, batch_reply}
use Rattle.call_batch.specs.Claims.{SmallBatches}
use Rattle.call_batch.specs.declared.Question.{Question}

no_line : (words : List ℕ) → (batch_reply words []).numbers ≡ 0 ∷ []
unfolding batch_reply
no_line words =
    ap (λ (n : ℕ). unless_refused (batch_refusal words []) (n ∷ []) (0 ∷ [])) (none_met (shown words)) ∙ both_same (batch_refusal words []) (0 ∷ [])

one_line : (words : List ℕ) (q : Question) → (batch_reply words (q ∷ [])).numbers ≡ blocks_told (lookup_reply words q.key) ∷ []
unfolding batch_reply batch_refusal blocks_told lookup_reply lookup_refusal wrong_length zero_key not_rising not_sound rising_keys standing_in
one_line words q =
    ap (λ (n : ℕ). unless_refused (batch_refusal words (q ∷ [])) (n ∷ []) (0 ∷ [])) (alone_met (shown words) q.key)
    ∙ by_test (eqb (slots_for (length words)) 0)
    (λ e. rw e refl)
    (λ e.
    by_test (eqb q.key 0)
    (λ z. rw (e, z) refl)
    (λ z.
    by_test (is_sound words)
    (λ s. by_test (member q.key (keys_in (shown words))) (λ m. rw (e, z, s, m) refl) (λ m. rw (e, z, s, m) refl))
    (λ s. rw (e, z, s) refl)))

pub small_batches : SmallBatches
small_batches = record { no_line = no_line; one_line = one_line }
