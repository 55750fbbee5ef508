-- `history_replay::ScriptCall::run` meets its contract. Assumes nothing.
use mathlib.Core.Path.{sym, ap, ◌∙◌}
use Rattle.history.specs.Call.{run}
use Rattle.history_replay.specs.declared.ScriptCall.{ScriptCall}
use Rattle.history_replay.specs.Script.{call_meant}
use Rattle.history_replay.proofs.ScriptCall.run.Goals as goal

pub returns-in-SetUp : goal.returns-in-SetUp
returns-in-SetUp c =
    c.set_up.ensures.table_after ∙ ap (λ (call : ScriptCall). run (call_meant call) c.args.table.now) (sym c.in-SetUp.is)

pub returns-in-Insert : goal.returns-in-Insert
returns-in-Insert c =
    c.insert.ensures.table_after ∙ ap (λ (call : ScriptCall). run (call_meant call) c.args.table.now) (sym c.in-Insert.is)

pub returns-in-Delete : goal.returns-in-Delete
returns-in-Delete c =
    c.delete.ensures.table_after ∙ ap (λ (call : ScriptCall). run (call_meant call) c.args.table.now) (sym c.in-Delete.is)

pub returns-in-LookUp : goal.returns-in-LookUp
returns-in-LookUp c = ap (λ (call : ScriptCall). run (call_meant call) c.args.table.now) (sym c.in-LookUp.is)
