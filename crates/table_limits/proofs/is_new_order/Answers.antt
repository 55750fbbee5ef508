-- `table_limits::is_new_order` meets its contract. Assumes nothing.
use Rattle.table.specs.Contents.{new_order}
use Rattle.table_limits.proofs.is_new_order.Goals as goal

pub returns : goal.returns
unfolding new_order
returns c = c.is_order.ensures
