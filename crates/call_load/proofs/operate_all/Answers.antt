-- `call_load::operate_all` meets its contract. The loop's invariant: what is left of the operations makes of the table's set what all of them
-- make of none. Assumes nothing.
use mathlib.Core.Path.{◌≡◌, refl, ◌∙◌, subst}
use Prim.Native.Nat.{suc, ◌+◌, ◌-◌}
use native.Mathlib.Omega.{arith}
use lib.ListN.{length}
use Rattle.call_sets.specs.Load as rules
use Rattle.call_changes.specs.Done.{with_done}
use Rattle.table.specs.Table.{contents_of}
use Rattle.call_load.proofs.Repeating.{Under, under_none, under_more, under_all}
use Rattle.call_load.proofs.operate_all.Goals as goal

pub loop-init : goal.loop-init
loop-init c =
    let args = c.args in
    let (some, most, long, sound) = c.requires.sized in
    let all_left : args.count ≡ args.count - 0 = omega arith in
    let under =
    under_none args.many args.table.now args.seed args.count args.keys.now args.tags.now some most long sound c.requires.blank.0 c.requires.blank.1 c.requires.blank.2
    in
    (subst (Under args.many args.table.now args.seed args.count args.table.now args.keys.now args.tags.now args.seed) all_left under, omega arith, refl, refl, refl)

pub loop-preserved : goal.loop-preserved
loop-preserved c =
    let args = c.args in
    let inv = c.loop.invariant in
    let table_long : length c.operate.new.table ≡ length c.loop.table = omega (arith, c.table-1.given) in
    let keys_long : length c.operate.new.keys ≡ length c.loop.keys = omega (arith, c.keys-1.given) in
    let tags_long : length c.operate.new.tags ≡ length c.loop.tags = omega (arith, c.tags-1.given) in
    let one_less : args.count - c.loop.counter ≡ suc (args.count - (c.loop.counter + 1)) = omega (arith, c.loop-test.true) in
    let operated =
    subst (λ (o : rules.Operation). contents_of args.many c.operate.new.table ≡ with_done args.many o (contents_of args.many c.loop.table)) c.chosen.ensures.value c.operate.ensures.table_after
    in (
      under_more args.many args.table.now args.seed args.count c.loop.table c.loop.keys c.loop.tags c.loop.state (args.count - c.loop.counter) inv.0
          (args.count - (c.loop.counter + 1)) one_less c.next-state.result c.next-state.ensures c.operate.new.table c.operate.new.keys c.operate.new.tags
          c.operate.ensures.known_after keys_long tags_long operated,
      omega (arith, c.loop-test.true),
      table_long ∙ inv.2,
      keys_long ∙ inv.3,
      tags_long ∙ inv.4,
    )

pub returns : goal.returns
returns c =
    let args = c.args in
    under_all args.many args.table.now args.seed args.count c.loop.table c.loop.keys c.loop.tags c.loop.state (args.count - c.loop.counter) c.loop.invariant.0
    (omega (arith, c.loop-test.false))
