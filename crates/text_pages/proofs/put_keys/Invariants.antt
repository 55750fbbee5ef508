-- `text_pages::put_keys` meets its contract. The loop's invariant: the lines of the keys from its index on are still to come. Assumes nothing.
use Rattle.treap_columns.specs.Lent.{lists_of}
use Rattle.text.proofs.Ongoing.{Ongoing}
use Rattle.text_pages.specs.Shown.{shown_lines}
use Rattle.text_pages.proofs.put_keys.Given as goal

abbrev pub invariant-loop-i : goal.invariant-loop-i
invariant-loop-i l = Ongoing l.initial.output l.at (shown_lines l.keys l.tags (lists_of l.columns) l.from l.to) (shown_lines l.keys l.tags (lists_of l.columns) l.i l.to) l.output l.end
