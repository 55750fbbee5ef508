-- `call_pages::pages_in` meets its contract. Assumes nothing.
use mathlib.Core.List.{List}
use mathlib.Core.Path.{◌≡◌, refl, sym, ap, ◌∙◌}
use Prim.Native.Nat.{ℕ, ◌≤◌}
use native.Mathlib.Omega.{arith}
use lib.ListN.{length, get_or, take}
use lib.Seq.{length-take-le}
use Rattle.lists.specs.Lists.{overwrite}
use Rattle.table.specs.Layout.{order_word, salt_word}
use Rattle.table.specs.Tags.{tagged, Beside}
use Rattle.table.specs.Table.{contents_of}
use Rattle.table.proofs.Tagged.{beside_of}
use Rattle.table.proofs.Soundness.{sound_measures}
use Rattle.table_examine.proofs.Verdicts.{told_false}
use Rattle.table_examine.proofs.Examined.{Examined, examined, examined_writable}
use Rattle.text_pages.specs.Pages.{pages_of}
use Rattle.text_pages.specs.Claims.{pages_bytes}
use Rattle.call_meaning.proofs.Texts.{refused_table, refused_short, accepted}
use Rattle.call_pages.proofs.Printing.{text_length, pages_tagged}
use Rattle.call_pages.proofs.pages_in.Goals as goal
use Rattle.call_pages.proofs.pages_in.Goals.{After-size, Else-output-size}

-- How many keys were found, the lists that hold them and their tags, and the table's pages.
abbrev size : After-size → ℕ
size p = p.in-Some.n

abbrev listed : After-size → List ℕ
listed p = p.examine.new.keys

abbrev tags_listed : After-size → List ℕ
tags_listed p = p.examine.new.tags

abbrev text : After-size → List ℕ
text p = pages_of (contents_of p.args.many p.args.table.now)

found : (p : After-size) → Examined p.args.many p.args.table.now p.args.keys.now (listed p)
    p.args.tags.now (tags_listed p) (size p)
found p =
    examined p.args.many p.args.table.now p.args.keys.now (listed p) p.args.tags.now (tags_listed p) (size p) p.examine.result p.examine.ensures.value
    p.in-Some.is p.examine.ensures.keys_after p.examine.ensures.tags_after p.requires.3 p.requires.4

inside : (p : After-size) → size p ≤ length (listed p)
inside p = omega (arith, (found p).most, (found p).keys_there.long, p.requires.3)

tags_inside : (p : After-size) → size p ≤ length (tags_listed p)
tags_inside p = omega (arith, (found p).most, (found p).tags_there.long, p.requires.4)

beside : (p : After-size) → Beside (take (size p) (listed p)) (take (size p) (tags_listed p))
beside p =
    let many = p.args.many in
    let words = p.args.table.now in
    beside_of (contents_of many words).entries (sound_measures many words (found p).sound) (found p).keys_there.taken (found p).tags_there.taken

-- They are the pages of the order word, the salt word, the keys and their tags.
text_is : (p : After-size) → text p ≡ pages_of (tagged (get_or p.args.table.now order_word 0) (get_or p.args.table.now salt_word 0) (take (size p) (listed p)) (take (size p) (tags_listed p)))
text_is p =
    pages_tagged p.args.many p.args.table.now (found p).sound (found p).keys_there.taken (found p).tags_there.taken

-- The size that was worked out is their length.
size_is : (s : After-size) → s.size.result ≡ length (text s)
size_is s =
    s.size.ensures ∙ ap pages_bytes (found s).size ∙ sym (text_length s.args.many s.args.table.now (found s).sound s.requires.1)

room : (e : Else-output-size) → length (text (goal.at.Else-output-size e).After-size) ≤ length e.args.output.now
room e = omega (arith, e.if-output-size.false, size_is (goal.at.Else-output-size e).After-size)

pub returns-in_default : goal.returns-in_default
returns-in_default c =
    refused_table pages_of c.args.table.now c.args.output.now c.args.many c.requires.0 c.requires.1 c.requires.2
    (told_false c.args.many c.args.table.now (sym c.examine.ensures.value ∙ c.in_default.is))

pub size-requires : goal.size-requires
size-requires c =
    let read = c.examine in
    let known =
    examined c.args.many c.args.table.now c.args.keys.now read.new.keys c.args.tags.now read.new.tags c.in-Some.n read.result read.ensures.value
    c.in-Some.is read.ensures.keys_after read.ensures.tags_after c.requires.3 c.requires.4
    in omega (arith, known.most, c.requires.1)

pub returns-then-output-size : goal.returns-then-output-size
returns-then-output-size c =
    let p = (goal.at.returns-then-output-size c).After-size in
    refused_short pages_of c.args.table.now c.args.output.now c.args.many c.requires.0 c.requires.1 c.requires.2 (found p).sound
    c.size.result (size_is p) c.if-output-size.true c.args.output.now refl

pub slice_bounds-print-end : goal.slice_bounds-print-end
slice_bounds-print-end c = inside (goal.at.slice_bounds-print-end c).After-size

pub slice_bounds-print-end-2 : goal.slice_bounds-print-end-2
slice_bounds-print-end-2 c = sym (length-take-le _ _ (inside (goal.at.slice_bounds-print-end-2 c).After-size))

pub slice_bounds-print-end-3 : goal.slice_bounds-print-end-3
slice_bounds-print-end-3 c = tags_inside (goal.at.slice_bounds-print-end-3 c).After-size

pub slice_bounds-print-end-4 : goal.slice_bounds-print-end-4
slice_bounds-print-end-4 c = sym (length-take-le _ _ (tags_inside (goal.at.slice_bounds-print-end-4 c).After-size))

pub print-requires-clause-keys : goal.print-requires-clause-keys
print-requires-clause-keys c =
    let at = goal.at.print-requires-clause-keys c in
    let p = at.After-size in (
      examined_writable c.args.many c.args.table.now c.args.keys.now (listed p) c.args.tags.now (tags_listed p) (size p) c.requires.1 (found p),
      beside p,
      omega (arith, ap length (text_is p), room at.Else-output-size),
    )

pub print-requires-clause-many_enough : goal.print-requires-clause-many_enough
print-requires-clause-many_enough c =
    let p = (goal.at.print-requires-clause-many_enough c).After-size in
    (c.requires.0, c.requires.1, omega (arith, length-take-le (size p) (listed p) (inside p), (found p).most))

pub returns : goal.returns
returns c =
    let at = goal.at.returns c in
    let p = at.After-size in
    let w = c.print in
    accepted pages_of c.args.table.now c.args.output.now c.args.many c.requires.0 c.requires.1 c.requires.2 (found p).sound w.result
    (w.ensures.ends ∙ omega (arith, ap length (text_is p))) (omega (arith, w.ensures.ends, ap length (text_is p), room at.Else-output-size)) w.new.output
    (w.ensures.holds ∙ ap (overwrite c.args.output.now 0) (sym (text_is p)))
