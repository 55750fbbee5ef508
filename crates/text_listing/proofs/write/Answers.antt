-- `text_listing::write` meets its contract: the header's line is written, then those of the records. Assumes nothing.
use mathlib.Core.List.{List, ◌++◌}
use mathlib.Core.Path.{sym, ap, ◌∙◌, subst}
use Prim.Native.Nat.{ℕ}
use native.Mathlib.Nat.{zero-add}
use native.Mathlib.Omega.{arith}
use lib.ListN.{length}
use Rattle.lists.specs.Lists.{overwrite}
use Rattle.text.specs.Written.{Written}
use Rattle.text.proofs.Ongoing.{Ongoing, ongoing_none, ongoing_fits, ongoing_next, ongoing_all}
use Rattle.text_listing.specs.declared.line.Line.{Line}
use Rattle.text_listing.specs.declared.records.Records.{Records}
use Rattle.text_listing.specs.Shown.{shown}
use Rattle.text_listing.specs.Lines.{text_of, header_in, lines_left}
use Rattle.text_listing.proofs.Shows.{bytes_have_records, bytes_show, bytes_fit, listing_header_fits}
use Rattle.text_listing.proofs.write.Goals as goal
use Rattle.text_listing.proofs.write.Goals.{In-Some, In-None}

-- the next line, and then those of the records after it, are still to come
turn : (c : In-Some) →
    let loop = c.loop-line in
    Ongoing c.args.output.now 0 (shown c.args.image.now) (text_of c.in-Some.line ++ lines_left c.next.new.self) loop.output loop.to
turn c =
    let loop = c.loop-line in
    subst (λ (rest : List ℕ). Ongoing c.args.output.now 0 (shown c.args.image.now) rest loop.output loop.to) c.in-Some.ensures.steps.shows loop.invariant

-- no line is left
wrote : (c : In-None) → let loop = c.loop-line in Written c.args.output.now 0 (shown c.args.image.now) loop.output loop.to
wrote c =
    let loop = c.loop-line in
    ongoing_all (subst (λ (rest : List ℕ). Ongoing c.args.output.now 0 (shown c.args.image.now) rest loop.output loop.to) c.in-None.ensures.steps loop.invariant)

pub header_line-requires : goal.header_line-requires
header_line-requires c = bytes_have_records _ c.type_inv.image c.requires.image_value

pub put-to-requires : goal.put-to-requires
put-to-requires c =
    omega (arith, ap (λ l. length (text_of l)) c.header_line.ensures, listing_header_fits _ c.type_inv.image c.requires.image_value _ c.requires.room)

pub new-line-items-requires : goal.new-line-items-requires
new-line-items-requires c = bytes_have_records _ c.type_inv.image c.requires.image_value

pub loop-line-init : goal.loop-line-init
loop-line-init c =
    let image = c.args.image.now in
    let left = c.new-line-items.result in
    let first : Ongoing c.args.output.now 0 (shown image) (text_of (header_in image) ++ lines_left left) c.args.output.now 0 = subst (λ (rest : List ℕ). Ongoing c.args.output.now 0 (shown image) rest c.args.output.now 0) c.new-line-items.ensures.shows (ongoing_none _ _ _) in
    subst (λ (records : Records). Ongoing c.args.output.now 0 (shown image) (lines_left records) c.put-to.new.output c.put-to.result) (sym c.into_iter-line-iterator.ensures.into_iter_gives)
    (ongoing_next (bytes_fit _ c.type_inv.image c.requires.image_value _ c.requires.room) (text_of (header_in image)) (lines_left left) first
    (subst (λ (line : Line). Written c.args.output.now 0 (text_of line) c.put-to.new.output c.put-to.result) c.header_line.ensures c.put-to.ensures))

pub put-to-requires-in-loop-line : goal.put-to-requires-in-loop-line
put-to-requires-in-loop-line c =
    ongoing_fits (bytes_fit _ c.type_inv.image c.requires.image_value _ c.requires.room) (text_of c.in-Some.line) (lines_left c.next.new.self)
    (turn (goal.at.put-to-requires-in-loop-line c).In-Some)

pub loop-line-preserved : goal.loop-line-preserved
loop-line-preserved c =
    ongoing_next (bytes_fit _ c.type_inv.image c.requires.image_value _ c.requires.room) (text_of c.in-Some.line) (lines_left c.next.new.self)
    (turn (goal.at.loop-line-preserved c).In-Some) c.put-to-in-loop-line.ensures

pub returns-clause-value : goal.returns-clause-value
returns-clause-value c =
    (wrote (goal.at.returns-clause-value c).In-None).ends ∙ zero-add _ ∙ ap length (bytes_show _ c.type_inv.image c.requires.image_value)

pub returns-clause-output_after : goal.returns-clause-output_after
returns-clause-output_after c =
    (wrote (goal.at.returns-clause-output_after c).In-None).holds ∙ ap (overwrite c.args.output.now 0) (bytes_show _ c.type_inv.image c.requires.image_value)
