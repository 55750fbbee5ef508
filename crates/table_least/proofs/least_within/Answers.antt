-- `table_least::least_within` meets its contract. The loop's invariant: the least key of the slots passed. Assumes nothing.
use mathlib.Core.Path.{◌≡◌, sym, ap, ◌∙◌, subst}
use Prim.Native.Nat.{ℕ}
use native.Mathlib.Numerals.{add-one}
use native.Mathlib.Omega.{arith}
use Rattle.table.specs.Contents.{keys_in}
use Rattle.table.specs.Table.{contents_of}
use Rattle.table_least.specs.LeastKey.{least_within, IsOrZero}
use Rattle.table_least.proofs.Least.{least_none, least_more}
use borrow.Author.Rules.{rules}
use Rattle.table_least.proofs.least_within.Goals as goal

pub loop-slot-init : goal.loop-slot-init
loop-slot-init c = let args = c.args in (search rules, sym (least_none args.table.now args.low args.high))

pub loop-slot-preserved : goal.loop-slot-preserved
loop-slot-preserved c =
    let loop = c.loop-slot in
    let words = c.args.table.now in
    let low = c.args.low in
    let high = c.args.high in (
      search rules,
      subst (IsOrZero c.lesser_of-least.result)
          (sym (ap (λ (slot : ℕ). least_within low high (keys_in (contents_of slot words))) (add-one loop.slot) ∙ least_more words loop.slot low high))
          (c.lesser_of-least.ensures (least_within low high (keys_in (contents_of loop.slot words))) loop.invariant.1),
    )

pub returns : goal.returns
returns c =
    let end : c.loop-slot.slot ≡ c.args.many = omega (arith, c.loop-slot-test.false, c.loop-slot.invariant.0) in
    subst (λ (slot : ℕ). IsOrZero c.loop-slot.least (least_within c.args.low c.args.high (keys_in (contents_of slot c.args.table.now)))) end c.loop-slot.invariant.1
