-- The loop of `call_batch::fill`: the lines left make of the progress what all of them make of none, each of them can be answered, and the
-- lines before are answered. Assumes nothing.
use Rattle.std.proofs.Common.{◌≡◌, ◌++◌, take, drop, map}
use Rattle.call_batch.specs.Batch.{keys_of, answered}
use Rattle.call_batch.specs.Answering.{nothing_asked, progress, Askable}
use Rattle.call_batch.proofs.fill.Given as goal

abbrev pub invariant-loop-question : goal.invariant-loop-question
invariant-loop-question l = record {
  kept : progress l.table nothing_asked (keys_of l.fn.questions) ≡ progress l.table l.so_far (keys_of (drop l.question-index l.fn.questions));
  askable : Askable l.table l.so_far (keys_of (drop l.question-index l.fn.questions));
  lines : l.questions ≡ map (answered l.table) (take l.question-index l.fn.questions) ++ drop l.question-index l.fn.questions;
}
