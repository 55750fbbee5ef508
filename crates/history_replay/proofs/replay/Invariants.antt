-- `history_replay::replay` meets its contract. The loop's invariant: the calls to come make of the table what all make of it at first. Assumes
-- nothing.
use mathlib.Core.Path.{◌≡◌}
use lib.ListN.{length}
use Rattle.history.specs.Call.{runs}
use Rattle.history_replay.specs.Script.{calls_in}
use Rattle.history_replay.proofs.replay.Given as goal

abbrev pub invariant-loop-rest : goal.invariant-loop-rest
invariant-loop-rest l = runs (calls_in l.rest) l.table ≡ runs (calls_in l.script) l.initial.table

abbrev pub decreases-loop-rest : goal.decreases-loop-rest
decreases-loop-rest l = length l.rest
