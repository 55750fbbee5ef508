-- `table_entries::priority_of` meets its contract: the salt that a table shows is its salt word. Assumes nothing.
use Rattle.table.specs.Table.{contents_of}
use Rattle.table_entries.proofs.priority_of.Goals as goal

pub returns : goal.returns
unfolding contents_of
returns c = c.priority.ensures
