-- The lists of columns that are lent. Assumes nothing.
use Rattle.treap_columns.specs.declared.Columns.{Columns}
use Rattle.treap_columns.specs.declared.LentColumns.{LentColumns}

-- Columns that are lent, as the record of their lists.
abbrev pub lists_of : LentColumns → Columns
lists_of c = record { left = c.left.now; right = c.right.now; leader = c.leader.now; rank = c.rank.now; count = c.count.now }
