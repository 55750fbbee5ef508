-- Columns that nothing is written to yet. Assumes nothing.
use Rattle.std.specs.Prelude.{replicate}
use Rattle.treap_columns.specs.Columns.{most_positions}
use Rattle.treap_columns.specs.declared.Columns.{Columns}

-- Columns of the most positions, all zeros.
unfoldable pub blank_columns : Columns
blank_columns = record {
  left = replicate most_positions 0;
  right = replicate most_positions 0;
  leader = replicate most_positions 0;
  rank = replicate most_positions 0;
  count = replicate most_positions 0;
}
