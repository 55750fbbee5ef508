-- `table_entries::rank_of` meets its contract. Assumes nothing.
use mathlib.Core.Path.{◌∙◌}
use native.Mathlib.Omega.{arith}
use Rattle.table_entries.proofs.Answers.{key_in_slot}
use Rattle.table_entries.proofs.Fields.{rank_is}
use Rattle.table_entries.proofs.rank_of.Goals as goal

pub returns : goal.returns
returns c =
    let many = c.args.many in
    let words = c.args.table.now in
    let key = c.args.key in
    let slot = c.slot_of-slot.result in
    c.word_of.ensures
    ∙ rank_is many words key slot
    (key_in_slot many words c.requires.0 c.requires.1 c.requires.3 (λ i. omega (arith, c.type_inv.table i)) c.requires.2 key slot c.requires.4 c.slot_of-slot.ensures)
