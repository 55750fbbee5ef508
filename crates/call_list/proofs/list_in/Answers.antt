-- `call_list::list_in` meets its contract. Assumes nothing.
use mathlib.Core.Bool.{true}
use mathlib.Core.Path.{◌≡◌, sym, ◌∙◌}
use native.Mathlib.Omega.{arith}
use Rattle.image.specs.Image.{is_image}
use Rattle.image_recognize.proofs.Answers.{told_image, told_other}
use Rattle.call_list.proofs.Calling.{refused_bytes, refused_short, accepted}
use Rattle.call_list.proofs.list_in.Goals as goal
use Rattle.call_list.proofs.list_in.Goals.{In-Some}

one : (p : In-Some) → is_image p.args.image.now ≡ true
one p = told_image p.args.image.now p.in-Some.field-0 (sym p.recognize.ensures.value ∙ p.in-Some.is)

pub returns-in_default : goal.returns-in_default
returns-in_default c =
    let args = c.args in
    refused_bytes args.image.now args.output.now (told_other args.image.now (sym c.recognize.ensures.value ∙ c.in_default.is))

pub size-requires : goal.size-requires
size-requires c = one (goal.at.size-requires c).In-Some

pub returns-then-output-size : goal.returns-then-output-size
returns-then-output-size c =
    let args = c.args in
    refused_short args.image.now args.output.now (one (goal.at.returns-then-output-size c).In-Some) c.size.result c.size.ensures.value c.if-output-size.true

pub write-requires-clause-image_value : goal.write-requires-clause-image_value
write-requires-clause-image_value c = one (goal.at.write-requires-clause-image_value c).In-Some

pub returns : goal.returns
returns c =
    let args = c.args in
    accepted args.image.now args.output.now (one (goal.at.returns c).In-Some) c.write.result c.write.ensures.value
    (omega (arith, c.if-output-size.false, c.size.ensures.value, c.write.ensures.value)) c.write.new.output c.write.ensures.output_after
