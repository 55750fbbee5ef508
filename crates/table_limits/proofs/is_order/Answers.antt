-- `table_limits::is_order` meets its contract. Assumes nothing.
use Rattle.table.specs.Contents.{table_order}
use Rattle.table_limits.proofs.is_order.Goals as goal

pub returns : goal.returns
unfolding table_order
returns c = c.is_within.ensures
