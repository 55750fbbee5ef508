-- `call_range::range_with_room` meets its contract. Assumes nothing.
use mathlib.Core.List.{List}
use mathlib.Core.Path.{sym, ap, ◌∙◌}
use Prim.Native.Nat.{ℕ, ◌≤◌}
use native.Mathlib.Omega.{arith}
use lib.ListN.{length, take, replicate}
use Rattle.table_examine.proofs.Verdicts.{told_false}
use Rattle.table_examine.proofs.Examined.{Examined, examined}
use Rattle.intervals.specs.Intervals.{within}
use Rattle.call_range.proofs.Ranging.{refused_table, refused_short, accepted}
use Rattle.call_range.proofs.range_with_room.Goals as goal
use Rattle.call_range.proofs.range_with_room.Goals.{In-Some}

-- of a sound table the keys are at the start of the list that was made for them
abbrev blank : List ℕ
blank = replicate 4096 0

abbrev listed : In-Some → List ℕ
listed p = p.examine.new.keys

abbrev size : In-Some → ℕ
size p = p.in-Some.n

found : (p : In-Some) → Examined p.args.many p.args.table.now blank (listed p) blank p.examine.new.tags (size p)
found p =
    examined p.args.many p.args.table.now blank (listed p) blank p.examine.new.tags (size p) p.examine.result p.examine.ensures.value p.in-Some.is
    p.examine.ensures.keys_after p.examine.ensures.tags_after p.requires.1 p.requires.1

abbrev chosen : In-Some → List ℕ
chosen p = within p.args.low p.args.high (take (size p) (listed p))

fits : (p : In-Some) → size p ≤ length (listed p)
fits p = omega (arith, (found p).most, (found p).keys_there.long, p.requires.1)

pub examine-requires : goal.examine-requires
examine-requires c = (c.requires.0, c.requires.1, c.requires.2, c.requires.1, c.requires.1)

pub returns-in_default : goal.returns-in_default
returns-in_default c =
    refused_table c.args.table.now c.args.low c.args.high c.args.output.now c.args.many c.requires.0 c.requires.1 c.requires.2 c.requires.3
    (told_false c.args.many c.args.table.now (sym c.examine.ensures.value ∙ c.in_default.is))

pub count_within-wanted-requires : goal.count_within-wanted-requires
count_within-wanted-requires c = fits (goal.at.count_within-wanted-requires c).In-Some

pub returns-then-output-wanted : goal.returns-then-output-wanted
returns-then-output-wanted c =
    let p = (goal.at.returns-then-output-wanted c).In-Some in
    refused_short c.args.table.now c.args.low c.args.high c.args.output.now c.args.many c.requires.0 c.requires.1 c.requires.2 c.requires.3
    (found p).sound (chosen p) (ap (within c.args.low c.args.high) (found p).keys_there.taken) (omega (arith, c.if-output-wanted.true, c.count_within-wanted.ensures))

pub copy_within-requires : goal.copy_within-requires
copy_within-requires c =
    (fits (goal.at.copy_within-requires c).In-Some, omega (arith, c.if-output-wanted.false, c.count_within-wanted.ensures))

pub returns : goal.returns
returns c =
    let p = (goal.at.returns c).In-Some in
    accepted c.args.table.now c.args.low c.args.high c.args.output.now c.args.many c.requires.0 c.requires.1 c.requires.2 c.requires.3
    (found p).sound (chosen p) (ap (within c.args.low c.args.high) (found p).keys_there.taken) (omega (arith, c.if-output-wanted.false, c.count_within-wanted.ensures))
    c.count_within-wanted.result c.count_within-wanted.ensures c.copy_within.new.output c.copy_within.ensures
