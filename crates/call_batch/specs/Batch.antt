-- What a batch of lookups replies, and what it leaves of its lines. A batch is document 02's sheet (N2). Assumes nothing.
use Rattle.std.specs.Prelude.{List, [], ◌∷◌, map, ℕ, get_or}
use Rattle.table.specs.Contents.{keys_in, priority_in}
use Rattle.treap.specs.Blocks.{blocks_met_by_all}
use Rattle.call_replies.specs.Replies.{Reply, first_that_applies, unless_refused}
use Rattle.call_meaning.specs.Reasons.{wrong_length, not_rising, not_sound, shown}
use Rattle.call_meaning.specs.Calls.{lookup_reply}
use Rattle.call_batch.specs.declared.Question.{Question}

-- "The sheet is a list of records, each with its key and a place for held and rank": the keys.
abbrev pub keys_of : List Question → List ℕ
keys_of questions = map (λ q. q.key) questions

-- "Errors: 5 also means a sheet that does not rise or has a zero; the checks are 1, 5, 7".
unfoldable pub batch_refusal : List ℕ → List Question → ℕ
batch_refusal words questions = first_that_applies (wrong_length words ∷ not_rising (keys_of questions) ∷ not_sound words ∷ [])

-- "Each line says what a lookup on its own says": held, one or zero, and rank are the first two numbers of a lookup's reply.
unfoldable pub held_by : List ℕ → ℕ → ℕ
held_by words key = get_or (lookup_reply words key).numbers 0 0

unfoldable pub rank_by : List ℕ → ℕ → ℕ
rank_by words key = get_or (lookup_reply words key).numbers 1 0

unfoldable pub answered : List ℕ → Question → Question
answered words q = record { key = q.key; held = held_by words q.key; rank = rank_by words q.key }

-- "The reply gives the number of different blocks over all the search paths, each block reckoned once."
unfoldable pub batch_reply : List ℕ → List Question → Reply
batch_reply words questions =
    record {
      refusal = batch_refusal words questions;
      numbers =
          unless_refused (batch_refusal words questions)
          (blocks_met_by_all (shown words).order (priority_in (shown words)) (keys_in (shown words)) (keys_of questions) ∷ [])
          (0 ∷ []);
    }

-- The lines after the call: each answered; "a refusal fills in nothing".
unfoldable pub batch_after : List ℕ → List Question → List Question
batch_after words questions = unless_refused (batch_refusal words questions) (map (answered words) questions) questions
