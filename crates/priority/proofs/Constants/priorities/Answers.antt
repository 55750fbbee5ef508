-- `priority::Constants::priorities` meets its contract. The loop's invariant: the first `i` entries of `output` are replaced.
-- Assumes nothing.
use lib.ListN.{length-set}
use borrow.Author.Rules.{rules}
use Rattle.priority.specs.Priority.{priority_with}
use Rattle.lists.proofs.Replaced.{replaced_next}
use Rattle.priority.proofs.Constants.priorities.Goals as goal

pub loop-i-preserved : goal.loop-i-preserved
loop-i-preserved c =
    let args = c.args in
    let loop = c.loop-i in
    let next = replaced_next (priority_with args.salt) args.keys.now args.output.now loop.i (search rules) (search rules) in
    (search rules, search rules, simp length-set (search rules), rw (loop.invariant.3, c.priority.ensures) next)
