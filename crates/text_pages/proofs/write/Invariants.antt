-- `text_pages::write` meets its contract. The loop's invariant: the pages from its index on are still to come. Assumes nothing.
use mathlib.Core.List.{flat_map}
use Prim.Native.Nat.{◌-◌}
use Rattle.lists.specs.Lists.{up_from}
use Rattle.treap_columns.specs.Lent.{lists_of}
use Rattle.text.proofs.Ongoing.{Ongoing}
use Rattle.text_pages.specs.Shown.{shown_page, shown_pages}
use Rattle.text_pages.proofs.write.Given as goal

abbrev pub invariant-loop-before : goal.invariant-loop-before
invariant-loop-before l =
    Ongoing l.initial.output 0 (shown_pages l.keys l.tags (lists_of l.columns)) (flat_map (shown_page l.keys l.tags (lists_of l.columns)) (up_from l.before (l.pages - l.before))) l.output l.end
