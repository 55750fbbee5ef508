-- The loop of `call_batch::rising`: the keys left rise above the last one where all rise. Assumes nothing.
use Rattle.std.proofs.Common.{◌≡◌, drop}
use Rattle.table.specs.Contents.{rising_keys}
use Rattle.call_batch.specs.Batch.{keys_of}
use Rattle.call_batch.proofs.KeysRise.{rises}
use Rattle.call_batch.proofs.rising.Given as goal

abbrev pub invariant-loop-question : goal.invariant-loop-question
invariant-loop-question l = rises l.last (keys_of (drop l.question-index l.questions)) ≡ rising_keys (keys_of l.questions)
