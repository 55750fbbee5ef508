-- `call_image::write_in` meets its contract. Assumes nothing.
use mathlib.Core.List.{List}
use mathlib.Core.Path.{sym, ◌∙◌}
use Prim.Native.Nat.{ℕ, ◌≤◌}
use native.Mathlib.Omega.{arith}
use lib.ListN.{length, take}
use lib.Seq.{length-take-le}
use Rattle.table.specs.Tags.{Beside}
use Rattle.table.specs.Table.{contents_of}
use Rattle.table.proofs.Tagged.{beside_of}
use Rattle.table.proofs.Soundness.{sound_measures}
use Rattle.table_examine.proofs.Verdicts.{told_false}
use Rattle.table_examine.proofs.Examined.{Examined, examined, examined_writable}
use Rattle.call_image.proofs.Imaging.{refused_short, accepted}
use Rattle.image.specs.Image.{image_of}
use Rattle.call_meaning.proofs.Texts.{refused_table}
use Rattle.call_image.proofs.write_in.Goals as goal
use Rattle.call_image.proofs.write_in.Goals.{In-Some}

abbrev size : In-Some → ℕ
size p = p.in-Some.n

abbrev listed : In-Some → List ℕ
listed p = p.examine.new.keys

abbrev tags_listed : In-Some → List ℕ
tags_listed p = p.examine.new.tags

found : (p : In-Some) → Examined p.args.many p.args.table.now p.args.keys.now (listed p) p.args.tags.now (tags_listed p) (size p)
found p =
    examined p.args.many p.args.table.now p.args.keys.now (listed p) p.args.tags.now (tags_listed p) (size p) p.examine.result p.examine.ensures.value
    p.in-Some.is p.examine.ensures.keys_after p.examine.ensures.tags_after p.requires.3 p.requires.4

inside : (p : In-Some) → size p ≤ length (listed p)
inside p = omega (arith, (found p).most, (found p).keys_there.long, p.requires.3)

tags_inside : (p : In-Some) → size p ≤ length (tags_listed p)
tags_inside p = omega (arith, (found p).most, (found p).tags_there.long, p.requires.4)

beside : (p : In-Some) → Beside (take (size p) (listed p)) (take (size p) (tags_listed p))
beside p =
    let many = p.args.many in
    let words = p.args.table.now in
    beside_of (contents_of many words).entries (sound_measures many words (found p).sound) (found p).keys_there.taken (found p).tags_there.taken

pub returns-in_default : goal.returns-in_default
returns-in_default c =
    refused_table image_of c.args.table.now c.args.output.now c.args.many c.requires.0 c.requires.1 c.requires.2
    (told_false c.args.many c.args.table.now (sym c.examine.ensures.value ∙ c.in_default.is))

pub slice_bounds-write-end : goal.slice_bounds-write-end
slice_bounds-write-end c = inside (goal.at.slice_bounds-write-end c).In-Some

pub slice_bounds-write-end-2 : goal.slice_bounds-write-end-2
slice_bounds-write-end-2 c = sym (length-take-le _ _ (inside (goal.at.slice_bounds-write-end-2 c).In-Some))

pub slice_bounds-write-end-3 : goal.slice_bounds-write-end-3
slice_bounds-write-end-3 c = tags_inside (goal.at.slice_bounds-write-end-3 c).In-Some

pub slice_bounds-write-end-4 : goal.slice_bounds-write-end-4
slice_bounds-write-end-4 c = sym (length-take-le _ _ (tags_inside (goal.at.slice_bounds-write-end-4 c).In-Some))

pub write-size-requires : goal.write-size-requires
write-size-requires c =
    let p = (goal.at.write-size-requires c).In-Some in
    (examined_writable c.args.many c.args.table.now c.args.keys.now (listed p) c.args.tags.now (tags_listed p) (size p) c.requires.1 (found p), beside p)

pub returns-then-output-size : goal.returns-then-output-size
returns-then-output-size c =
    let p = (goal.at.returns-then-output-size c).In-Some in
    refused_short c.args.table.now c.args.output.now c.args.many c.requires.0 c.requires.1 c.requires.2 (found p).sound
    (take (size p) (listed p)) (take (size p) (tags_listed p)) (found p).keys_there.taken (found p).tags_there.taken c.write-size.result c.write-size.ensures.value
    c.write-size.new.output c.write-size.ensures.output_after (omega (arith, c.if-output-size.true))

pub returns : goal.returns
returns c =
    let p = (goal.at.returns c).In-Some in
    accepted c.args.table.now c.args.output.now c.args.many c.requires.0 c.requires.1 c.requires.2 (found p).sound
    (take (size p) (listed p)) (take (size p) (tags_listed p)) (found p).keys_there.taken (found p).tags_there.taken c.write-size.result c.write-size.ensures.value
    c.write-size.new.output c.write-size.ensures.output_after (omega (arith, c.if-output-size.false))
