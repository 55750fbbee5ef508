-- `call_image::read` meets its contract. Assumes nothing.
use mathlib.Core.Path.{sym, ◌∙◌}
use Rattle.table_limits.proofs.Lengths.{slots_none, slots_sized}
use Rattle.call_image.proofs.Reading.{refused_length}
use Rattle.call_image.proofs.read.Goals as goal

pub returns-in_default : goal.returns-in_default
returns-in_default c = refused_length c.args.table.now c.args.image.now (slots_none _ (sym c.slots_for.ensures ∙ c.in_default.is))

pub read_with_room-requires : goal.read_with_room-requires
read_with_room-requires c =
    let right = slots_sized _ _ (sym c.slots_for.ensures ∙ c.in-Some.is) in
    (right.some, right.within, right.long)
