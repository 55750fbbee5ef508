-- `call_load::load` meets its contract. Assumes nothing.
use mathlib.Core.Path.{sym, ap, ◌∙◌, subst}
use Prim.Native.Nat.{ℕ}
use Rattle.std.specs.Prelude.{Option}
use Rattle.std.specs.Option.{IsSome}
use Rattle.table.specs.Contents.{Contents}
use Rattle.call_replies.specs.Replies.{done_of}
use Rattle.call_load.proofs.Loads.{Begun, slots_there, begun, done_so}
use Rattle.call_load.proofs.load.Goals as goal
use Rattle.call_load.proofs.load.Goals.{After-unwrap}

pub unwrap-requires : goal.unwrap-requires
unwrap-requires c =
    let args = c.args in
    subst (λ (o : Option ℕ). IsSome o) (sym c.slots_for-slots.ensures)
    (slots_there args.table.now args.order (sym (ap done_of c.in_default.is) ∙ c.set_up.ensures.result_value))

-- past the refusals
begun_at : (p : After-unwrap) → Begun p.args.table.now p.args.order p.unwrap.result p.set_up.new.table
begun_at p =
    let args = p.args in
    begun args.table.now args.order (sym (ap done_of p.in_default.is) ∙ p.set_up.ensures.result_value)
    p.unwrap.result (sym p.slots_for-slots.ensures ∙ p.unwrap.ensures) p.set_up.new.table p.set_up.ensures.table_after

pub operate_within-requires-clause-sized : goal.operate_within-requires-clause-sized
operate_within-requires-clause-sized c = let b = begun_at c in (b.some, b.most, b.long, b.sound)

pub operate_within-requires-clause-blank : goal.operate_within-requires-clause-blank
operate_within-requires-clause-blank c = let b = begun_at c in ap (λ (d : Contents). d.entries) b.holds

pub returns : goal.returns
returns c =
    let args = c.args in
    let met =
    done_so args.table.now args.order args.seed args.count c.unwrap.result c.set_up.new.table (begun_at (goal.at.returns c).After-unwrap)
    c.operate_within.new.table c.operate_within.ensures
    in
    record { result_value = met.0; table_after = met.1 }
