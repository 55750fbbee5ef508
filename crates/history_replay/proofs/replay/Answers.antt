-- `history_replay::replay` meets its contract. The loop's invariant: the calls to come make of the table what all make of it at first. Assumes
-- nothing.
use mathlib.Core.Path.{◌≡◌, sym, ap, ◌∙◌}
use native.Mathlib.Omega.{arith}
use Rattle.lists.proofs.Keep.{all_of_indices}
use Rattle.history.specs.Call.{Call, IsWord, run, runs}
use Rattle.history_replay.specs.Script.{calls_in}
use Rattle.history_replay.proofs.Scripts.{built_from_book}
use Rattle.history_replay.proofs.Replaying.{none_left, one_done}
use Rattle.history_replay.proofs.replay.Goals as goal
use Rattle.history_replay.proofs.replay.Goals.{In_default}

-- at the end all calls are done
all_done : (p : In_default) → p.loop-rest.table ≡ runs (calls_in p.args.script.now) p.args.table.now
all_done p =
    let left : runs (calls_in p.loop-rest.rest.now) p.loop-rest.table ≡ runs (calls_in p.args.script.now) p.args.table.now = p.loop-rest.invariant in
    sym (none_left p.loop-rest.rest.now p.loop-rest.table (omega (arith, p.in_default.len_below))) ∙ left

pub loop-rest-preserved : goal.loop-rest-preserved
loop-rest-preserved c =
    let left : runs (calls_in c.loop-rest.rest.now) c.loop-rest.table ≡ runs (calls_in c.args.script.now) c.args.table.now = c.loop-rest.invariant in
    one_done c.loop-rest.rest.now c.loop-rest.table c.run.new.table (omega arith)
    (c.run.ensures ∙ ap (λ (call : Call). run call c.loop-rest.table) c.named.ensures)
    ∙ left

pub returns-clause-table_after : goal.returns-clause-table_after
returns-clause-table_after c = all_done c

pub returns-clause-built_from_book : goal.returns-clause-built_from_book
returns-clause-built_from_book c =
    let sized = all_of_indices IsWord c.args.script.now 0 (λ i l. omega (arith, c.type_inv.script i)) in
    built_from_book c.args.script.now c.args.table.now c.loop-rest.table sized (all_done c)
