-- `table_limits::slots_for` meets its contract. Assumes nothing.
use Prim.Native.Nat.{◌-◌, ◌/◌}
use native.Mathlib.Omega.{arith}
use Rattle.table_limits.proofs.Lengths.{slots_for_is, slots_for_none, if_none, if_some}
use Rattle.table.specs.Layout.{header_words, slot_words}
use Rattle.table_limits.proofs.slots_for.Goals as goal

pub returns-then-words : goal.returns-then-words
returns-then-words c = if_none _ (slots_for_none c.args.words (λ m h k e. omega arith))

pub returns-then-rest-ne0 : goal.returns-then-rest-ne0
returns-then-rest-ne0 c = if_none _ (slots_for_none c.args.words (λ m h k e. c.if-rest-ne0.true (omega arith)))

pub returns-then-many-gt-MOST_SLOTS : goal.returns-then-many-gt-MOST_SLOTS
returns-then-many-gt-MOST_SLOTS c = if_none _ (slots_for_none c.args.words (λ m h k e. omega arith))

pub returns : goal.returns
returns c =
    let words = c.args.words in
    if_some _ _ (slots_for_is words ((words - header_words) / slot_words) (omega arith) (omega arith) (omega arith)) (omega arith)
