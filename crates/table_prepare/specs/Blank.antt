-- Room in which nothing is prepared yet. Assumes nothing.
use Rattle.std.specs.Prelude.{replicate}
use Rattle.treap_columns.specs.Columns.{most_positions}
use Rattle.treap_columns.specs.Blank.{blank_columns}
use Rattle.table_prepare.specs.declared.Room.{Room}

-- Room for the most positions and slots, all zeros.
unfoldable pub blank_room : Room
blank_room = record {
  weights = replicate most_positions 0;
  ranking = replicate most_positions 0;
  columns = blank_columns;
  slots = replicate most_positions 0;
}
