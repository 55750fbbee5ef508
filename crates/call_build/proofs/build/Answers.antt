-- `call_build::build` meets its contract. Assumes nothing.
use mathlib.Core.Bool.{true}
use mathlib.Core.Path.{◌≡◌, sym, ◌∙◌}
use lib.ListN.{length}
use native.Mathlib.Omega.{arith}
use Rattle.std.specs.Prelude.{Some}
use Rattle.measure.specs.Measure.{are_measured}
use Rattle.table.specs.Contents.{new_order, rising_keys}
use Rattle.table_limits.specs.Lengths.{slots_for, slots_if}
use Rattle.call_build.proofs.Building.{Handed, sized, refused_length, refused_order, refused_list, refused_measures, refused_many, accepted, can_be_written}
use Rattle.call_build.proofs.build.Goals as goal
use Rattle.call_build.proofs.build.Goals.{In-Some, Else-not-are_measured, Else-not-is_new_order, Else-not-is_rising, Start}

-- What is handed in.
abbrev handed : Start → Handed
handed p =
    record {
      words = p.args.table.now;
      order = p.args.order;
      salt = p.args.salt;
      list = p.args.list.now;
      lengths = p.args.lengths.now;
      corrections = p.args.corrections.now;
    }

-- past the first test: the slots; past the others: a right order, a list that rises, right measures
here : (p : In-Some) → slots_if (slots_for (length p.args.table.now)) ≡ Some p.in-Some.many
here p = sym p.slots_for.ensures ∙ p.in-Some.is

right_order : (p : Else-not-is_new_order) → new_order p.args.order ≡ true
right_order p = sym p.is_new_order.ensures ∙ p.if-not-is_new_order.false

right_list : (p : Else-not-is_rising) → rising_keys p.args.list.now ≡ true
right_list p = sym p.is_rising.ensures ∙ p.if-not-is_rising.false

right_measures : (p : Else-not-are_measured) → are_measured (length p.args.list.now) p.args.lengths.now p.args.corrections.now ≡ true
right_measures p = sym p.are_measured.ensures ∙ p.if-not-are_measured.false

pub returns-in_default : goal.returns-in_default
returns-in_default c =
    let met = refused_length (handed (goal.at.returns-in_default c).Start) (sym c.slots_for.ensures ∙ c.in_default.is) in
    record { result_value = met.0; table_after = met.1 }

pub returns-then-not-is_new_order : goal.returns-then-not-is_new_order
returns-then-not-is_new_order c =
    let at = goal.at.returns-then-not-is_new_order c in
    let met = refused_order (handed at.Start) _ (here at.In-Some) (sym c.is_new_order.ensures ∙ c.if-not-is_new_order.true) in
    record { result_value = met.0; table_after = met.1 }

pub returns-then-not-is_rising : goal.returns-then-not-is_rising
returns-then-not-is_rising c =
    let at = goal.at.returns-then-not-is_rising c in
    let met =
    refused_list (handed at.Start) _ (here at.In-Some) (right_order at.Else-not-is_new_order) (sym c.is_rising.ensures ∙ c.if-not-is_rising.true)
    in
    record { result_value = met.0; table_after = met.1 }

pub returns-then-not-are_measured : goal.returns-then-not-are_measured
returns-then-not-are_measured c =
    let at = goal.at.returns-then-not-are_measured c in
    let met =
    refused_measures (handed at.Start) _ (here at.In-Some) (right_order at.Else-not-is_new_order) (right_list at.Else-not-is_rising)
    (sym c.are_measured.ensures ∙ c.if-not-are_measured.true)
    in
    record { result_value = met.0; table_after = met.1 }

pub returns-then-many-list : goal.returns-then-many-list
returns-then-many-list c =
    let at = goal.at.returns-then-many-list c in
    let met =
    refused_many (handed at.Start) _ (here at.In-Some) (right_order at.Else-not-is_new_order) (right_list at.Else-not-is_rising)
    (right_measures at.Else-not-are_measured) c.if-many-list.true
    in
    record { result_value = met.0; table_after = met.1 }

pub write-requires-clause-keys : goal.write-requires-clause-keys
write-requires-clause-keys c =
    let at = goal.at.write-requires-clause-keys c in
    can_be_written (handed at.Start) _ (here at.In-Some) (right_order at.Else-not-is_new_order) (right_list at.Else-not-is_rising) c.if-many-list.false

pub write-requires-clause-sized : goal.write-requires-clause-sized
write-requires-clause-sized c =
    let at = goal.at.write-requires-clause-sized c in
    let right = sized (handed at.Start) _ (here at.In-Some) in
    (omega (arith, right.some), c.if-many-list.false, right.long, right.within)

pub returns : goal.returns
returns c =
    let at = goal.at.returns c in
    let met =
    accepted (handed at.Start) _ (here at.In-Some) (right_order at.Else-not-is_new_order) (right_list at.Else-not-is_rising)
    (right_measures at.Else-not-are_measured) c.if-many-list.false c.write.new.table c.write.ensures
    in
    record { result_value = met.0; table_after = met.1 }
