-- `table_entries::slot_of` meets its contract. Assumes nothing.
use native.Mathlib.Omega.{arith}
use Rattle.table_entries.proofs.Answers.{Says, search_says, held_slot, held_found}
use Rattle.table_entries.proofs.slot_of.Goals as goal
use Rattle.table_entries.proofs.slot_of.Goals.{After-find}

-- what the answer of the search says; the words lent are 64-bit numbers
says : (p : After-find) → Says p.args.many p.args.table.now p.args.key p.find.result
says p =
    search_says p.args.many p.args.table.now p.requires.0 p.requires.1 p.requires.3
    (λ i. omega (arith, p.type_inv.table i)) p.args.key p.args.priority p.requires.5 p.find.result p.find.ensures

pub unwrap-requires : goal.unwrap-requires
unwrap-requires c = held_found _ _ _ _ (says (goal.at.unwrap-requires c).After-find) c.requires.4

pub returns : goal.returns
returns c =
    held_slot _ _ _ _ (says (goal.at.returns c).After-find) c.unwrap.result c.unwrap.ensures c.requires.4
