-- `priority::Constants::new` meets its contract: the table passes the test of the constants' rule, which antt computes here.
-- Assumes nothing.
use mathlib.Core.Path.{refl}
use Rattle.priority.proofs.Table.{holds_constants}
use Rattle.priority.proofs.Constants.new.Goals as goal

pub invariant_of-result : goal.invariant_of-result
invariant_of-result c = record { right = holds_constants _ refl refl }
