-- `image_fields::get` meets its contract. The loop's invariant: the number is that of the bytes passed. Assumes nothing.
use Prim.Native.Nat.{◌+◌, ◌-◌, ◌^◌, ◌<◌}
use native.Mathlib.Omega.{arith}
use Rattle.std.proofs.lemmas.Iterator.Adapters.{YieldsList-from_rev_slice}
use Rattle.std.proofs.lemmas.Iterator.Consumers.{YieldsList-turn, YieldsList-end}
use Rattle.std.proofs.lemmas.List.{length-reverse}
use lib.ListN.{drop, length-drop}
use lib.Seq.{length-take-le}
use Rattle.image_fields.proofs.Getting.{field, got_room, got_all}
use borrow.Author.Rules.{rules}
use Rattle.image_fields.proofs.get.Goals as goal
use Rattle.image_fields.proofs.get.Goals.{In-Some}

-- while a byte is left, fewer are passed than the field has, and the number leaves room for it
room : (c : In-Some) → c.loop-byte.number < 256 ^ 7
room c =
    let loop = c.loop-byte in
    let part = field c.args.bytes.now c.args.at c.args.width in
    let t = YieldsList-turn (YieldsList-from_rev_slice part (search rules)) loop.yielded _ loop.yielded_by _ _ c.in-Some.byte c.in-Some.is c.next.ensures.steps in
    let long = length-take-le (c.args.at + c.args.width - c.args.at) (drop c.args.at c.args.bytes.now) (omega (arith, c.requires.0, length-drop c.args.at c.args.bytes.now)) in
    got_room loop.number _ c.args.width loop.invariant.3 (omega (arith, t.0, length-reverse part, long)) c.requires.1

pub overflow_mul-number : goal.overflow_mul-number
overflow_mul-number c = omega (arith, room c)

pub overflow_add-number : goal.overflow_add-number
overflow_add-number c = let h = room (goal.at.overflow_add-number c).In-Some in search rules

pub returns : goal.returns
returns c =
    let loop = c.loop-byte in
    let t = YieldsList-end (YieldsList-from_rev_slice (field c.args.bytes.now c.args.at c.args.width) (search rules)) loop.yielded _ loop.yielded_by _ _ c.in-None.is c.next.ensures.steps in
    got_all c.args.bytes.now c.args.at c.args.width loop.number _ loop.invariant.2 t.0
