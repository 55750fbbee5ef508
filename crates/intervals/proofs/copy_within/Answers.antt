-- `intervals::copy_within` meets its contract. Assumes nothing.
use Rattle.std.proofs.Common.{ℕ, ◌<◌, ◌≤◌, ◌≡◌, List, length, take, get_or, add-one, arith, sym, ◌∙◌}
use mathlib.Core.Path.{subst₃}
use Rattle.std.proofs.lemmas.List.{get_or-take, length-take-le}
use Rattle.lists.specs.Lists.{lies}
use Rattle.lists.proofs.Copying.{kept, Copied, copied_none, copied_all, copied_size, copied_room, copied_more, copied_same}
use Rattle.intervals.specs.Intervals.{within}
use Rattle.intervals.proofs.copy_within.Goals as goal
use Rattle.intervals.proofs.copy_within.Goals.{In-loop-key, Then-is_within, then-is_within, else-is_within}

-- there is room for all keys of the range
all_fit : (low high n : ℕ) (keys output : List ℕ) → length (within low high (take n keys)) ≤ length output
    → length (kept (lies low high) keys n) ≤ length output
unfolding within
all_fit low high n keys output fits = fits

pub loop-key-init : goal.loop-key-init
loop-key-init c = copied_none (lies c.args.low c.args.high) c.args.keys.now c.args.output.now c.args.n

-- a turn is before the end, and its key is the one at that index
module _ (c : In-loop-key) where
  turn : c.loop-key.key-index < c.args.n
  turn = omega (arith, c.loop-key-test.true, length-take-le c.args.n c.args.keys.now c.requires.0)

  here : get_or (take c.args.n c.args.keys.now) c.loop-key.key-index 0 ≡ get_or c.args.keys.now c.loop-key.key-index 0
  here = get_or-take c.args.n c.args.keys.now c.loop-key.key-index 0 turn

-- the key that is copied has room
room : (c : Then-is_within) → c.loop-key.at < length c.loop-key.output
room c =
    let at = (goal.at.Then-is_within c).In-loop-key in
    let fit = all_fit c.args.low c.args.high c.args.n c.args.keys.now c.args.output.now c.requires.1 in
    let h = copied_room c.loop-key.invariant fit c.requires.0 _ (here at) (turn at) (sym c.is_within.ensures ∙ c.if-is_within.true) in
    omega (arith, h, copied_size c.loop-key.invariant fit)

pub offset_bounds-output-at : goal.offset_bounds-output-at
offset_bounds-output-at c = omega (arith, room (goal.at.offset_bounds-output-at c).Then-is_within)

pub bounds-output-at : goal.bounds-output-at
bounds-output-at c = room (goal.at.bounds-output-at c).Then-is_within

pub overflow_add-at : goal.overflow_add-at
overflow_add-at c = omega (arith, room (goal.at.overflow_add-at c).Then-is_within)

pub loop-key-preserved : goal.loop-key-preserved
loop-key-preserved c =
    let args = c.args in
    let loop = c.loop-key in
    let at = (goal.at.loop-key-preserved c).In-loop-key in
    let fit = all_fit args.low args.high args.n args.keys.now args.output.now c.requires.1 in
    let Next : List ℕ → ℕ → ℕ → Type 0 = Copied (lies args.low args.high) args.keys.now args.output.now args.n in
    elim c.if-is_within.branch [
      | then-is_within w ↦
          subst₃ Next (sym w.output-is) (sym (w.at-is ∙ add-one loop.at)) (sym (add-one loop.key-index))
          (copied_more loop.invariant fit c.requires.0 _ (here at) (turn at) (sym c.is_within.ensures ∙ w.if-is_within.true))
      | else-is_within w ↦
          subst₃ Next (sym w.output-is) (sym w.at-is) (sym (add-one loop.key-index))
          (copied_same loop.invariant fit c.requires.0 _ (here at) (turn at) (sym c.is_within.ensures ∙ w.if-is_within.false))
    ]

pub returns : goal.returns
unfolding within
returns c = copied_all c.loop-key.invariant (omega (arith, c.loop-key-test.false, length-take-le c.args.n c.args.keys.now c.requires.0))
