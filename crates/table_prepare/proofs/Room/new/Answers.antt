-- `table_prepare::Room::new` meets its contract. Assumes nothing.
use mathlib.Core.Path.{ap}
use lib.ListN.{replicate}
use Rattle.treap_columns.specs.Columns.{most_positions}
use Rattle.treap_columns.specs.declared.Columns.{Columns}
use Rattle.table_prepare.specs.declared.Room.{Room}
use Rattle.table_prepare.specs.Blank.{blank_room}
use Rattle.table_prepare.proofs.Room.new.Goals as goal

with_columns : Columns → Room
with_columns columns = record {
  weights = replicate most_positions 0;
  ranking = replicate most_positions 0;
  columns = columns;
  slots = replicate most_positions 0;
}

pub returns : goal.returns
unfolding blank_room with_columns
returns c = ap with_columns c.new.ensures
