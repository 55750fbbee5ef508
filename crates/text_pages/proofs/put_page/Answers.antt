-- `text_pages::put_page` meets its contract: the line of its number is written, then those of its keys. Assumes nothing.
use mathlib.Core.List.{List, ◌++◌}
use mathlib.Core.Path.{subst}
use Prim.Native.Nat.{ℕ, ◌+◌, ◌*◌, ◌≤◌}
use native.Mathlib.Omega.{arith}
use lib.ListN.{length}
use Rattle.table.specs.Layout.{most_slots}
use Rattle.treap_columns.specs.Lent.{lists_of}
use Rattle.text.proofs.Ongoing.{Ongoing, ongoing_none, ongoing_fits, ongoing_next, last_fits, ongoing_last}
use Rattle.text_page_lines.specs.PageLines.{heading_line}
use Rattle.text_pages.specs.Pages.{page_keys}
use Rattle.text_pages.specs.Shown.{shown_lines, shown_page}
use Rattle.text_pages.proofs.Counting.{page_begun}
use Rattle.text_pages.proofs.Shows.{page_pieces}
use Rattle.text_pages.proofs.put_page.Goals as goal
use Rattle.text_pages.proofs.put_page.Goals.{After-min-to, After-put_heading-headed, Start}

module _ (start : Start) where
  -- The page's first key is there, or it has none.
  first_key : page_keys * start.args.before ≤ length start.args.keys.now
  first_key = page_begun (length start.args.keys.now) start.args.before start.requires.printable.1

  few : length start.args.keys.now ≤ most_slots
  few = start.requires.printable.0.few

  -- The line of its number, and those of its keys up to an index; what of the page is still to be written, where and into what.
  abbrev heading : List ℕ
  heading = heading_line (start.args.before + 1)

  abbrev lines : ℕ → List ℕ
  lines to = shown_lines start.args.keys.now start.args.tags.now (lists_of start.args.columns) (page_keys * start.args.before) to

  abbrev Left : List ℕ → List ℕ → ℕ → Type 0
  Left = Ongoing start.args.output.now start.args.at (shown_page start.args.keys.now start.args.tags.now (lists_of start.args.columns) start.args.before)

at_first : (c : After-min-to) → Left (goal.at.After-min-to c).Start (heading (goal.at.After-min-to c).Start ++ lines (goal.at.After-min-to c).Start c.min-to.result) c.args.output.now c.args.at
at_first c =
    let args = c.args in
    subst (λ (rest : List ℕ). Left (goal.at.After-min-to c).Start rest args.output.now args.at)
    (page_pieces args.keys.now args.tags.now (lists_of args.columns) args.before c.min-to.result c.min-to.ensures)
    (ongoing_none _ _ _)

headed : (c : After-put_heading-headed) → Left (goal.at.After-put_heading-headed c).Start (lines (goal.at.After-put_heading-headed c).Start c.min-to.result) c.put_heading-headed.new.output c.put_heading-headed.result
headed c =
    ongoing_next c.requires.room (heading (goal.at.After-put_heading-headed c).Start) (lines (goal.at.After-put_heading-headed c).Start c.min-to.result) (at_first (goal.at.After-put_heading-headed c).After-min-to) c.put_heading-headed.ensures

pub overflow_mul-from : goal.overflow_mul-from
overflow_mul-from c = omega (arith, first_key (goal.at.overflow_mul-from c).Start, few (goal.at.overflow_mul-from c).Start)

pub overflow_add-from : goal.overflow_add-from
overflow_add-from c = omega (arith, first_key (goal.at.overflow_add-from c).Start, few (goal.at.overflow_add-from c).Start)

pub overflow_add-before : goal.overflow_add-before
overflow_add-before c = omega (arith, first_key (goal.at.overflow_add-before c).Start, few (goal.at.overflow_add-before c).Start)

pub put_heading-headed-requires : goal.put_heading-headed-requires
put_heading-headed-requires c =
    ongoing_fits c.requires.room (heading (goal.at.put_heading-headed-requires c).Start) (lines (goal.at.put_heading-headed-requires c).Start c.min-to.result) (at_first (goal.at.put_heading-headed-requires c).After-min-to)

pub put_keys-requires-clause-printable : goal.put_keys-requires-clause-printable
put_keys-requires-clause-printable c =
    let end = c.min-to.ensures in
    let begun = first_key (goal.at.put_keys-requires-clause-printable c).Start in (c.requires.printable.0, omega (arith, end, begun), omega (arith, end))

pub put_keys-requires-clause-room : goal.put_keys-requires-clause-room
put_keys-requires-clause-room c =
    let end = c.min-to.ensures in
    let begun = first_key (goal.at.put_keys-requires-clause-room c).Start in last_fits c.requires.room (lines (goal.at.put_keys-requires-clause-room c).Start c.min-to.result) (headed (goal.at.put_keys-requires-clause-room c).After-put_heading-headed)

pub returns : goal.returns
returns c =
    ongoing_last c.requires.room (lines (goal.at.returns c).Start c.min-to.result) (headed (goal.at.returns c).After-put_heading-headed) c.put_keys.ensures
