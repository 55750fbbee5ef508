-- `table_descend::is_new_block` meets its contract. Assumes nothing.
use mathlib.Core.Path.{◌≡◌, subst}
use Prim.Native.Nat.{ℕ}
use native.Mathlib.Omega.{arith}
use Rattle.treap_structure.proofs.Blocks.{block_level}
use Rattle.table.specs.Contents.{keys_in, priority_in}
use Rattle.table.specs.Table.{contents_of}
use Rattle.table.proofs.Soundness.{sound_valid}
use Rattle.table_descend.proofs.Deciding.{same_level, not_along, same_next, no_next, by_level}
use Rattle.table_descend.proofs.WayDown.{link_held, on_its_level}
use Rattle.table_descend.proofs.is_new_block.Goals as goal

pub returns-then-next-at : goal.returns-then-next-at
returns-then-next-at c =
    let args = c.args in
    same_level (contents_of args.many args.table.now) args.at.key args.low args.other args.at.level args.next.level c.if-next-at.true

pub returns-then-other-low : goal.returns-then-other-low
returns-then-other-low c =
    let args = c.args in
    not_along (contents_of args.many args.table.now) args.at.key args.low args.other args.at.level args.next.level c.if-next-at.false c.if-other-low.true

pub returns-then-there-next : goal.returns-then-there-next
returns-then-there-next c =
    let args = c.args in
    let next = c.requires.2 in
    same_next (contents_of args.many args.table.now) args.at.key args.low args.other args.at.level args.next.level c.if-next-at.false c.if-other-low.false
    c.next_of-there.result c.next_of-there.ensures args.next.key c.if-there-next.true
    (on_its_level _ _ _ (λ e. omega (arith, next.in_slot.positive)) next.level_is)

pub returns-then-there-eq0 : goal.returns-then-there-eq0
returns-then-there-eq0 c =
    let args = c.args in
    no_next (contents_of args.many args.table.now) args.at.key args.low args.other args.at.level args.next.level c.if-next-at.false c.if-other-low.false
    c.next_of-there.result c.next_of-there.ensures c.if-there-eq0.true

pub place_of-requires : goal.place_of-requires
place_of-requires c =
    let args = c.args in
    let here = c.requires.1 in
    let valid = sound_valid args.many args.table.now here.in_slot.sound (λ i. omega (arith, c.type_inv.table i)) in (
      c.requires.0,
      here.in_slot.few,
      here.in_slot.long,
      here.in_slot.sound,
      link_held args.many (contents_of args.many args.table.now) valid args.at.key here.held args.other c.next_of-there.result c.next_of-there.ensures c.if-there-eq0.false,
    )

pub returns : goal.returns
returns c =
    let args = c.args in
    let shown = contents_of args.many args.table.now in
    let there = c.place_of in
    let its_level : there.result.level ≡ block_level shown.order (priority_in shown) (keys_in shown) c.next_of-there.result =
    subst (λ (k : ℕ). there.result.level ≡ block_level shown.order (priority_in shown) (keys_in shown) k) there.ensures.its_key there.ensures.placed.level_is
    in
    by_level shown args.at.key args.low args.other args.at.level args.next.level c.if-next-at.false c.if-other-low.false
    c.next_of-there.result c.next_of-there.ensures c.if-there-eq0.false there.result.level its_level
