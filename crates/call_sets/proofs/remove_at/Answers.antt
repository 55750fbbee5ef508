-- `call_sets::remove_at` meets its contract. Assumes nothing.
use mathlib.Core.Path.{◌∙◌}
use Rattle.call_sets.proofs.Shifting.{lowered}
use Rattle.call_sets.proofs.remove_at.Goals as goal

pub returns : goal.returns
returns c = c.copy_within.ensures.after ∙ lowered c.args.list.now c.args.n c.args.at c.requires.0 c.requires.1
