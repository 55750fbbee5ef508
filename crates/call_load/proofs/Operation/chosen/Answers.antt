-- `call_load::Operation::chosen` meets its contract. Assumes nothing.
use mathlib.Core.Path.{sym}
use native.Mathlib.Omega.{arith}
use Rattle.call_load.proofs.Choosing.{chooses_insert, chooses_delete, chooses_lookup}
use Rattle.call_load.proofs.Operation.chosen.Goals as goal

pub returns-then-choice-lt-DELETE-clause-value : goal.returns-then-choice-lt-DELETE-clause-value
returns-then-choice-lt-DELETE-clause-value c = sym (chooses_insert c.args.state (omega (arith, c.if-choice-lt-DELETE.true)))

pub returns-then-choice-eq-DELETE-clause-value : goal.returns-then-choice-eq-DELETE-clause-value
returns-then-choice-eq-DELETE-clause-value c =
    let more = c.if-choice-lt-DELETE.false in
    sym (chooses_delete c.args.state (omega arith) (omega (arith, c.if-choice-eq-DELETE.true)))

pub returns-clause-value : goal.returns-clause-value
returns-clause-value c =
    let more = c.if-choice-lt-DELETE.false in
    sym (chooses_lookup c.args.state (omega arith) c.if-choice-eq-DELETE.false)
