-- `table_slots::place` meets its contract. The loop's invariant: the first positions of the order are placed, and the skips hold. Assumes nothing.
use mathlib.Core.List.{List}
use mathlib.Core.Path.{◌≡◌, refl, sym, ap, ap₂, ◌∙◌, subst₂}
use Prim.Native.Nat.{ℕ, suc}
use native.Mathlib.Omega.{arith}
use native.Mathlib.Numerals.{add-one}
use lib.ListN.{length, get_or, set, length-replicate}
use Rattle.treap.specs.Slots.{first_empty, slots_of}
use Rattle.priority.proofs.Bounds.{home_of_below}
use Rattle.treap_columns.specs.Positions.{positions, weight_at}
use Rattle.table_slots.proofs.Placed.{home_at, Placed, Turn, turn, placed_end}
use borrow.Author.Rules.{rules}
use Rattle.table_slots.proofs.place.Goals as goal
use Rattle.table_slots.proofs.place.Goals.{At-loop-i, In-loop-i}

-- the loop: what was lent, and as many slots as were lent
module _ (p : At-loop-i) where
  abbrev weights : List ℕ
  weights = p.args.weights.now

  abbrev order : List ℕ
  order = p.args.order.now

  abbrev many : ℕ
  many = length p.begin.new.slots

  lent : many ≡ length p.args.slots.now
  lent = ap length p.begin.ensures.slots_after ∙ length-replicate (length p.args.slots.now) 0

-- a turn: the next index of the order, its home, and what placing it there gives
module _ (c : In-loop-i) where
  abbrev index : ℕ
  index = get_or (order (goal.at.In-loop-i c).At-loop-i) c.loop-i.i-index 0

  abbrev homed : ℕ
  homed = home_at (weights (goal.at.In-loop-i c).At-loop-i) (many (goal.at.In-loop-i c).At-loop-i) (suc index)

  turns : Turn (weights (goal.at.In-loop-i c).At-loop-i) (order (goal.at.In-loop-i c).At-loop-i) (many (goal.at.In-loop-i c).At-loop-i) c.loop-i.slots c.loop-i.i-index
  turns =
      let size = lent (goal.at.In-loop-i c).At-loop-i in
      turn (weights (goal.at.In-loop-i c).At-loop-i) (order (goal.at.In-loop-i c).At-loop-i) (many (goal.at.In-loop-i c).At-loop-i) c.requires.in_order (omega arith) (omega arith) c.loop-i.slots c.loop-i.i-index c.loop-i.invariant.2 (omega arith)

pub put-requires-clause-home_in_bounds : goal.put-requires-clause-home_in_bounds
put-requires-clause-home_in_bounds c =
    let size = lent (goal.at.put-requires-clause-home_in_bounds c).At-loop-i in
    let home : c.home-home.result ≡ homed (goal.at.put-requires-clause-home_in_bounds c).In-loop-i = c.home-home.ensures in
    let slots = c.loop-i.slots in
    let below = home_of_below (weight_at (weights (goal.at.put-requires-clause-home_in_bounds c).At-loop-i) (suc (index (goal.at.put-requires-clause-home_in_bounds c).In-loop-i))) {slots = many (goal.at.put-requires-clause-home_in_bounds c).At-loop-i} (omega arith) in
    let same = c.loop-i.invariant.2.size in (omega (arith, below, home), rw home (turns (goal.at.put-requires-clause-home_in_bounds c).In-loop-i).free, omega arith, λ e. omega arith)

pub loop-i-preserved : goal.loop-i-preserved
loop-i-preserved c =
    let loop = c.loop-i in
    let put = c.put in
    let written : put.new.slots ≡ set loop.slots (first_empty loop.slots (homed (goal.at.loop-i-preserved c).In-loop-i)) (suc (index (goal.at.loop-i-preserved c).In-loop-i)) =
    put.ensures.slots_after ∙ ap₂ (λ (home position : ℕ). set loop.slots (first_empty loop.slots home) position) c.home-home.ensures (add-one (index (goal.at.loop-i-preserved c).In-loop-i))
    in (
      refl,
      search rules,
      subst₂ (λ (s : List ℕ) (n : ℕ). Placed (weights (goal.at.loop-i-preserved c).At-loop-i) (order (goal.at.loop-i-preserved c).At-loop-i) (many (goal.at.loop-i-preserved c).At-loop-i) s n) (sym written) (sym (add-one loop.i-index)) (turns (goal.at.loop-i-preserved c).In-loop-i).next,
      put.ensures.skips_after,
    )

pub returns : goal.returns
returns c =
    placed_end (weights (goal.at.returns c).At-loop-i) (order (goal.at.returns c).At-loop-i) (many (goal.at.returns c).At-loop-i) c.requires.in_order c.loop-i.slots c.loop-i.i-index c.loop-i.invariant.2 (omega arith)
    ∙ ap (λ (n : ℕ). slots_of (weight_at (weights (goal.at.returns c).At-loop-i)) (home_at (weights (goal.at.returns c).At-loop-i) n) n (positions (length (weights (goal.at.returns c).At-loop-i)))) (lent (goal.at.returns c).At-loop-i)
