-- `text_page_lines::put_size` meets its contract: a hyphen for no length, else the points. Assumes nothing.
use mathlib.Core.List.{List}
use mathlib.Core.Path.{◌≡◌, sym, ap, ◌∙◌, subst}
use Prim.Native.Nat.{ℕ, ◌≤◌}
use native.Mathlib.Omega.{arith}
use lib.ListN.{length}
use Rattle.measure.specs.Tag.{length_in, measure_at}
use Rattle.paris_points.specs.Points.{corrected, half_points, size_of}
use Rattle.paris_points.specs.Claims.{greatest_half_points}
use Rattle.paris_points.proofs.Lengths.{tag_measured}
use Rattle.text.specs.Ascii.{ascii}
use Rattle.text.specs.Columns.{right_aligned}
use Rattle.text.specs.Written.{Written}
use Rattle.text_page_lines.specs.PageLines.{points_text, size_text, column}
use Rattle.text_page_lines.proofs.Columns.{size_within, size_none, size_some}
use Rattle.text_page_lines.proofs.put_size.Goals as goal
use Rattle.text_page_lines.proofs.put_size.Goals.{After-half_points_in, Else-length_in-eq0, Start, Then-length_in-eq0}

-- The column that is to be written.
abbrev shown : Start → List ℕ
shown start = column (size_text (size_of (measure_at start.args.tag)))

-- of a last without size
hyphen : (c : Then-length_in-eq0) → shown (goal.at.Then-length_in-eq0 c).Start ≡ ascii "    -"
unfolding right_aligned
hyphen c = ap column (size_none c.args.tag (sym c.length_in.ensures ∙ c.if-length_in-eq0.true))

-- of a measured one
long : (c : Else-length_in-eq0) → length_in c.args.tag ≡ 0 → ⊥
long c e = c.if-length_in-eq0.false (c.length_in.ensures ∙ e)

points : (c : After-half_points_in) → shown (goal.at.After-half_points_in c).Start ≡ column (points_text c.half_points_in.result)
points c =
    let tag = c.args.tag in
    ap column (size_some tag (long (goal.at.After-half_points_in c).Else-length_in-eq0) ∙ ap points_text (sym c.half_points_in.ensures))

pub put_bytes-requires : goal.put_bytes-requires
put_bytes-requires c = omega (arith, ap length (hyphen (goal.at.put_bytes-requires c).Then-length_in-eq0), c.requires.1)

pub returns-then-length_in-eq0 : goal.returns-then-length_in-eq0
returns-then-length_in-eq0 c =
    let call = c.put_bytes in
    subst (λ (text : List ℕ). Written c.args.output.now c.args.at text call.new.output call.result) (sym (hyphen (goal.at.returns-then-length_in-eq0 c).Then-length_in-eq0)) call.ensures

pub put_points-requires : goal.put_points-requires
put_points-requires c =
    let tag = c.args.tag in
    let few : half_points (corrected (measure_at tag)) ≤ greatest_half_points = size_within (measure_at tag) (tag_measured tag c.requires.0 (long (goal.at.put_points-requires c).Else-length_in-eq0)) in
    (omega (arith, c.half_points_in.ensures, few), omega (arith, ap length (points c), c.requires.1))

pub returns : goal.returns
returns c =
    let call = c.put_points in
    subst (λ (text : List ℕ). Written c.args.output.now c.args.at text call.new.output call.result) (sym (points (goal.at.returns c).After-half_points_in)) call.ensures
