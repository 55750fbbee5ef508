-- `table_descend::standing_of` meets its contract. Assumes nothing.
use mathlib.Core.Path.{ap₂, ◌∙◌}
use Prim.Native.Nat.{ℕ, ◌+◌}
use native.Mathlib.Omega.{arith}
use lib.ListN.{get_or}
use Rattle.measure.specs.Measure.{measure_from}
use Rattle.measure.proofs.Corrections.{correction_back}
use Rattle.table.specs.Layout.{length_field, correction_field, slot_start}
use Rattle.table_entries.proofs.Fields.{stored_small}
use Rattle.table_descend.proofs.Standings.{standing_is}
use Rattle.table_descend.proofs.standing_of.Goals as goal

pub correction_from-requires : goal.correction_from-requires
correction_from-requires c =
    omega (arith, c.word_of-stored.ensures, stored_small c.args.many c.args.table.now c.args.key c.args.slot c.requires)

pub returns : goal.returns
returns c =
    let words = c.args.table.now in
    let slot = c.args.slot in
    let long = c.word_of-length in
    let stored = c.word_of-stored in
    standing_is c.args.many c.args.table.now c.args.key c.args.slot c.requires
    c.word_of.result c.word_of-2.result c.word_of-3.result long.result _
    c.word_of.ensures c.word_of-2.ensures c.word_of-3.ensures long.ensures
    (correction_back (get_or words (slot_start slot + length_field) 0) (get_or words (slot_start slot + correction_field) 0) c.correction_from.result
    (stored_small c.args.many words c.args.key slot c.requires)
    (c.correction_from.ensures ∙ ap₂ (λ (l m : ℕ). (measure_from l m).correction) long.ensures stored.ensures))
