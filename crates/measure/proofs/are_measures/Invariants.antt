-- The loop of `measure::are_measures`: all are measures where those left are. Assumes nothing.
use Rattle.std.proofs.Common.{◌≡◌, drop}
use Rattle.lists.specs.Lists.{every}
use Rattle.measure.specs.Measure.{is_measure, measures_beside}
use Rattle.measure.proofs.are_measures.Given as goal

abbrev pub invariant-loop-i : goal.invariant-loop-i
invariant-loop-i l = every is_measure (drop l.i (measures_beside l.fn.lengths l.fn.corrections)) ≡ every is_measure (measures_beside l.fn.lengths l.fn.corrections)
