-- `call_pages::pages` meets its contract. Assumes nothing.
use mathlib.Core.Path.{sym, ◌∙◌}
use Rattle.table_limits.proofs.Lengths.{slots_none, slots_sized}
use Rattle.text_pages.specs.Pages.{pages_of}
use Rattle.call_meaning.proofs.Texts.{refused_length}
use Rattle.call_pages.proofs.pages.Goals as goal

pub returns-in_default : goal.returns-in_default
returns-in_default c = refused_length pages_of c.args.table.now c.args.output.now (slots_none _ (sym c.slots_for.ensures ∙ c.in_default.is))

pub pages_with_room-requires : goal.pages_with_room-requires
pages_with_room-requires c =
    let right = slots_sized _ _ (sym c.slots_for.ensures ∙ c.in-Some.is) in
    (right.some, right.within, right.long)
