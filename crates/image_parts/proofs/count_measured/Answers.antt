-- `image_parts::count_measured` meets its contract. The loop's invariant: the measured keys among those passed are counted.
-- Assumes nothing.
use mathlib.Core.Path.{refl, sym, ◌∙◌, subst₂}
use Prim.Native.Nat.{ℕ}
use native.Mathlib.Numerals.{add-one}
use native.Mathlib.Omega.{arith}
use lib.ListN.{length, get_or}
use Rattle.lists.proofs.Copying.{Counted, counted_few, counted_more, counted_same}
use Rattle.image_parts.specs.Parts.{measured_at}
use Rattle.image_parts.proofs.Counting.{measured_when, measured_not}
use Rattle.image_parts.proofs.count_measured.Goals as goal
use Rattle.image_parts.proofs.count_measured.Goals.{else-length_in-ne0, then-length_in-ne0}

pub overflow_add-many : goal.overflow_add-many
overflow_add-many c =
    let few = counted_few c.loop-i.invariant in
    omega (arith, few, c.loop-i-test.true)

pub loop-i-preserved : goal.loop-i-preserved
loop-i-preserved c =
    let loop = c.loop-i in
    let more = c.loop-i-test.true in
    let tags = c.args.tags.now in
    let sorted = c.args.sorted.now in
    let told = c.length_in in
    let i = get_or sorted loop.i-index 0 in
    let Next : ℕ → ℕ → Type 0 = Counted (measured_at tags) sorted (length sorted) in
    elim c.if-length_in-ne0.branch [
      | then-length_in-ne0 w ↦ subst₂ Next (sym (w.many-is ∙ add-one loop.many)) (sym (add-one loop.i-index))
          (counted_more loop.invariant (omega arith) i refl more (measured_when tags i told.result told.ensures w.if-length_in-ne0.true))
      | else-length_in-ne0 w ↦ subst₂ Next (sym w.many-is) (sym (add-one loop.i-index)) (counted_same loop.invariant (omega arith) i refl more (measured_not tags i told.result told.ensures w.if-length_in-ne0.false))
    ]
