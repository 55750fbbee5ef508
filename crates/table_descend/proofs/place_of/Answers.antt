-- `table_descend::place_of` meets its contract. Assumes nothing.
use native.Mathlib.Omega.{arith}
use Rattle.table_entries.specs.Steps.{InSlot}
use Rattle.table_entries.proofs.Answers.{key_in_slot}
use Rattle.table_descend.proofs.place_of.Goals as goal
use Rattle.table_descend.proofs.place_of.Goals.{After-slot_of-slot}

-- the slot that is found holds the key; the words lent are 64-bit numbers
in_slot : (p : After-slot_of-slot) → InSlot p.args.many p.args.table.now p.args.key p.slot_of-slot.result
in_slot p =
    let pre = p.requires in
    key_in_slot p.args.many p.args.table.now pre.0 pre.1 pre.3 (λ i. omega (arith, p.type_inv.table i)) pre.2 p.args.key _ pre.4 p.slot_of-slot.ensures

pub level_of-level-requires : goal.level_of-level-requires
level_of-level-requires c = in_slot (goal.at.level_of-level-requires c).After-slot_of-slot

pub returns-clause-placed : goal.returns-clause-placed
returns-clause-placed c =
    record {
      held = c.requires.4;
      in_slot = in_slot (goal.at.returns-clause-placed c).After-slot_of-slot;
      level_is = c.level_of-level.ensures;
    }
