-- `image_parts::put_keys` meets its contract. The loop's invariant: the records of the keys passed are written, up to `next`. Assumes nothing.
use Rattle.treap_columns.specs.Lent.{lists_of}
use Rattle.image_parts.proofs.Nodes.{KeysPut}
use Rattle.image_parts.proofs.put_keys.Given as goal

abbrev pub invariant-loop-i : goal.invariant-loop-i
invariant-loop-i l = KeysPut l.keys l.tags (lists_of l.columns) l.run l.initial.output l.at l.output l.next l.i-index
