-- `priority::Constants::priority` meets its contract. Assumes nothing.
use borrow.Author.Rules.{rules}
use Rattle.priority.specs.Priority.{priority_with}
use Rattle.priority.proofs.Constants.priority.Goals as goal

pub returns : goal.returns
unfolding priority_with
returns c = search rules
