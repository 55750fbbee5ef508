-- What is claimed of small batches; `proofs/SmallBatches` proves it. Assumes nothing.
use Rattle.std.specs.Prelude.{List, [], ◌∷◌, ◌≡◌, ℕ}
use Rattle.call_meaning.specs.Calls.{lookup_reply, blocks_told}
use Rattle.call_batch.specs.Batch.{batch_reply}
use Rattle.call_batch.specs.declared.Question.{Question}

pub record SmallBatches : Type 0 where
  -- a batch without a line meets no block
  pub no_line : (words : List ℕ) → (batch_reply words []).numbers ≡ 0 ∷ []
  -- a batch of one line meets the blocks that a lookup of its key meets
  pub one_line : (words : List ℕ) (q : Question) → (batch_reply words (q ∷ [])).numbers ≡ blocks_told (lookup_reply words q.key) ∷ []
