-- `text_pages::write` meets its contract. The loop's invariant: the pages from its index on are still to come. Assumes nothing.
use mathlib.Core.List.{List, ◌++◌, flat_map}
use mathlib.Core.Path.{◌≡◌, sym, ◌∙◌, subst}
use Prim.Native.Nat.{ℕ, suc, ◌+◌, ◌-◌, ◌≤◌}
use native.Mathlib.Numerals.{add-one}
use native.Mathlib.Omega.{arith}
use lib.ListN.{length}
use Rattle.lists.specs.Lists.{up_from}
use Rattle.treap_columns.specs.Lent.{lists_of}
use Rattle.text.proofs.Ongoing.{Ongoing, ongoing_none, ongoing_fits, ongoing_next, ongoing_turn, ongoing_end}
use Rattle.text_pages.specs.Shown.{shown_page, shown_pages}
use Rattle.text_pages.proofs.write.Goals as goal
use Rattle.text_pages.proofs.write.Goals.{After-page_count-pages, In-loop-before, Start}

module _ (start : Start) where
  -- A page, and so many from how many come before them; what of all is still to be written, where and into what.
  abbrev page : ℕ → List ℕ
  page = shown_page start.args.keys.now start.args.tags.now (lists_of start.args.columns)

  abbrev pages_from : ℕ → ℕ → List ℕ
  pages_from before many = flat_map page (up_from before many)

  abbrev all : List ℕ
  all = shown_pages start.args.keys.now start.args.tags.now (lists_of start.args.columns)

  abbrev Left : List ℕ → List ℕ → ℕ → Type 0
  Left = Ongoing start.args.output.now 0 all

  room : 0 + length all ≤ length start.args.output.now
  room = omega (arith, start.requires.room)

at_first : (c : After-page_count-pages) → Left (goal.at.After-page_count-pages c).Start (pages_from (goal.at.After-page_count-pages c).Start 0 (c.page_count-pages.result - 0)) c.args.output.now 0
unfolding shown_pages
at_first c =
    let whole : c.page_count-pages.result ≡ c.page_count-pages.result - 0 = omega arith in
    subst (λ (many : ℕ). Left (goal.at.After-page_count-pages c).Start (pages_from (goal.at.After-page_count-pages c).Start 0 many) c.args.output.now 0) (sym c.page_count-pages.ensures ∙ whole) (ongoing_none _ _ _)

-- The pages after the next.
abbrev later : In-loop-before → List ℕ
later t = pages_from (goal.at.In-loop-before t).Start (suc t.loop-before.before) (t.page_count-pages.result - suc t.loop-before.before)

turn : (t : In-loop-before) → Left (goal.at.In-loop-before t).Start (page (goal.at.In-loop-before t).Start t.loop-before.before ++ later t) t.loop-before.output t.loop-before.end
turn t = ongoing_turn (page (goal.at.In-loop-before t).Start) t.loop-before.before t.page_count-pages.result t.loop-before.invariant t.loop-before-test.true

pub loop-before-init : goal.loop-before-init
loop-before-init c = at_first (goal.at.loop-before-init c).After-page_count-pages

pub put_page-end-requires-clause-room : goal.put_page-end-requires-clause-room
put_page-end-requires-clause-room c =
    ongoing_fits (room (goal.at.put_page-end-requires-clause-room c).Start) (page (goal.at.put_page-end-requires-clause-room c).Start c.loop-before.before) (later (goal.at.put_page-end-requires-clause-room c).In-loop-before) (turn (goal.at.put_page-end-requires-clause-room c).In-loop-before)

pub loop-before-preserved : goal.loop-before-preserved
loop-before-preserved c =
    rw add-one (ongoing_next (room (goal.at.loop-before-preserved c).Start) (page (goal.at.loop-before-preserved c).Start c.loop-before.before) (later (goal.at.loop-before-preserved c).In-loop-before) (turn (goal.at.loop-before-preserved c).In-loop-before) c.put_page-end.ensures)

pub returns : goal.returns
returns c =
    ongoing_end (page (goal.at.returns c).Start) c.loop-before.before c.page_count-pages.result c.loop-before.invariant c.loop-before-test.false
