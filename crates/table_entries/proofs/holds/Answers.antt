-- `table_entries::holds` meets its contract. Assumes nothing.
use mathlib.Core.Path.{ap, ◌∙◌}
use Prim.Native.Nat.{ℕ}
use native.Mathlib.Omega.{arith}
use lib.Dec.{eqb}
use Rattle.table_entries.proofs.Answers.{Says, search_says, slot_inside, slot_decides, nowhere_decides}
use Rattle.table_entries.proofs.holds.Goals as goal
use Rattle.table_entries.proofs.holds.Goals.{After-find}

-- what the answer of the search says; the words lent are 64-bit numbers
says : (p : After-find) → Says p.args.many p.args.table.now p.args.key p.find.result
says p =
    search_says p.args.many p.args.table.now p.requires.0 p.requires.1 p.requires.3
    (λ i. omega (arith, p.type_inv.table i)) p.args.key p.args.priority p.requires.5 p.find.result p.find.ensures

pub returns-in_default : goal.returns-in_default
returns-in_default c = nowhere_decides _ _ _ _ (says (goal.at.returns-in_default c).After-find) c.in_default.is

pub word_of-requires : goal.word_of-requires
word_of-requires c =
    omega (arith, c.requires.2, slot_inside _ _ _ _ (says (goal.at.word_of-requires c).After-find) c.in-Some.slot c.in-Some.is)

pub returns : goal.returns
returns c =
    ap (λ (word : ℕ). eqb word c.args.key) c.word_of.ensures
    ∙ slot_decides _ _ _ _ (says (goal.at.returns c).After-find) c.in-Some.slot c.in-Some.is c.requires.4
