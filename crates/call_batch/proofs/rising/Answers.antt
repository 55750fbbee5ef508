-- `call_batch::rising` meets its contract. Assumes nothing.
use Rattle.call_batch.specs.Batch.{keys_of}
use Rattle.call_batch.proofs.KeysRise.{rises_is}
use Rattle.call_batch.proofs.rising.Goals as goal

pub loop-question-init : goal.loop-question-init
loop-question-init c = rises_is (keys_of c.args.questions.now)
