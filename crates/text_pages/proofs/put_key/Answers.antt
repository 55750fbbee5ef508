-- `text_pages::put_key` meets its contract. Assumes nothing.
use mathlib.Core.List.{List}
use mathlib.Core.Path.{◌≡◌, ap, subst}
use Prim.Native.Nat.{ℕ}
use native.Mathlib.Omega.{arith}
use lib.ListN.{length, get_or}
use Rattle.measure.specs.Tag.{measure_at}
use Rattle.paris_points.specs.Points.{size_of}
use Rattle.treap_columns.specs.Lent.{lists_of}
use Rattle.text.specs.Written.{Written}
use Rattle.text_page_lines.specs.PageLines.{page_line}
use Rattle.text_pages.specs.Shown.{shown_line}
use Rattle.text_pages.proofs.put_key.Goals as goal
use Rattle.text_pages.proofs.put_key.Goals.{After-key_at-above}

-- The line with the leader's key that was found is the one that the lists show.
abbrev made : After-key_at-above → List ℕ
made c =
    let args = c.args in
    let i = args.i in
    page_line (get_or args.keys.now i 0) (get_or args.columns.rank.now i 0) (get_or args.columns.count.now i 0) c.key_at-above.result (size_of (measure_at (get_or args.tags.now i 0)))

line : (c : After-key_at-above)
    → let args = c.args in made c ≡ shown_line args.keys.now args.tags.now (lists_of args.columns) args.i
unfolding shown_line
line c =
    let args = c.args in
    let i = args.i in
    ap (λ (above : ℕ). page_line (get_or args.keys.now i 0) (get_or args.columns.rank.now i 0) (get_or args.columns.count.now i 0) above (size_of (measure_at (get_or args.tags.now i 0)))) c.key_at-above.ensures

pub put_key_line-requires : goal.put_key_line-requires
put_key_line-requires c =
    let lists = c.requires.printable.0 in
    let inside = c.requires.printable.1 in (
      lists.rank_small c.args.i inside,
      lists.count_small c.args.i inside,
      lists.tag_right c.args.i inside,
      omega (arith, ap length (line (goal.at.put_key_line-requires c).After-key_at-above), c.requires.room),
    )

pub returns : goal.returns
returns c =
    let call = c.put_key_line in
    let args = c.args in
    subst (λ (text : List ℕ). Written args.output.now args.at text call.new.output call.result) (line (goal.at.returns c).After-key_at-above) call.ensures
