-- `table_descend::look_up_after` meets its contract. The loop's invariant: what is left to search is the subtree of `at`, and the blocks counted
-- with those ahead that no earlier lookup met are those of the whole way. The measure is the size of that subtree. Assumes nothing.
use mathlib.Core.Logic.{inl, inr}
use mathlib.Core.Path.{◌≡◌, sym, ap, ◌∙◌, subst}
use Prim.Native.Nat.{ℕ}
use native.Mathlib.Omega.{arith}
use Rattle.std.specs.Prelude.{Some}
use Rattle.lists.proofs.Changes.{Counted}
use Rattle.treap.specs.Treap.{top}
use Rattle.table.specs.Contents.{keys_in, priority_in}
use Rattle.table.specs.Table.{contents_of}
use Rattle.table.proofs.Soundness.{sound_valid, shown_fit}
use Rattle.table_entries.proofs.Fields.{root_is}
use Rattle.table_descend.specs.Entering.{new_block}
use Rattle.table_descend.specs.declared.Standing.{Standing}
use Rattle.table_descend.proofs.WayDown.{Searching, none_held, root_held, starts, room, found, ends, next_held, smaller, goes_on}
use Rattle.table_descend.proofs.look_up_after.Goals as goal
use Rattle.table_descend.proofs.look_up_after.Goals.{Joined-is_new_block, else-is_new_block, then-is_new_block}

-- a block is counted where it is new
is_counted : (p : Joined-is_new_block)
    → Counted p.is_new_block.result p.loop-at.met p.if-is_new_block.met
is_counted p = elim p.if-is_new_block.branch [
  | then-is_new_block w ↦ inl (w.if-is_new_block.true, w.met-is)
  | else-is_new_block w ↦ inr (w.if-is_new_block.false, w.met-is)
]

pub returns-then-root-eq0 : goal.returns-then-root-eq0
returns-then-root-eq0 c =
    let args = c.args in
    let words = args.table.now in
    let shown = contents_of args.many words in
    let valid = sound_valid args.many words c.requires.judged.3 (λ i. omega (arith, c.type_inv.table i)) in
    none_held args.many shown valid args.key args.last args.before (sym (root_is args.many words c.requires.judged.3) ∙ c.if-root-eq0.true)

pub place_of-at-requires : goal.place_of-at-requires
place_of-at-requires c =
    let args = c.args in
    let words = args.table.now in
    let shown = contents_of args.many words in
    let valid = sound_valid args.many words c.requires.judged.3 (λ i. omega (arith, c.type_inv.table i)) in
    let pre = c.requires.judged in
    (pre.0, pre.1, pre.2, pre.3, root_held args.many shown valid _ (root_is args.many words pre.3) c.if-root-eq0.false)

pub loop-at-init : goal.loop-at-init
loop-at-init c =
    let args = c.args in
    let words = args.table.now in
    let shown = contents_of args.many words in
    let valid = sound_valid args.many words c.requires.judged.3 (λ i. omega (arith, c.type_inv.table i)) in
    let at = c.place_of-at in
    let root : at.result.key ≡ top (priority_in shown) (keys_in shown) = at.ensures.its_key ∙ root_is args.many words c.requires.judged.3 in (
      subst (Searching shown args.key args.last args.before at.result.key at.result.level 0) (sym c.first_block-met.ensures)
          (starts args.many shown valid args.key args.last args.before c.requires.rising.0 c.requires.rising.1
          at.result.key at.result.level root (λ e. c.if-root-eq0.false (sym at.ensures.its_key ∙ e)) at.ensures.placed.level_is),
      at.ensures.placed,
    )

pub returns-then-link-eq0 : goal.returns-then-link-eq0
returns-then-link-eq0 c =
    let args = c.args in
    let words = args.table.now in
    let shown = contents_of args.many words in
    let valid = sound_valid args.many words c.requires.judged.3 (λ i. omega (arith, c.type_inv.table i)) in
    ends args.many shown valid args.key args.last args.before c.requires.rising.0 c.requires.rising.1 c.loop-at.invariant.0
    c.loop-at-test.true (sym c.next_of-link.ensures ∙ c.if-link-eq0.true)

pub place_of-next-requires : goal.place_of-next-requires
place_of-next-requires c =
    let args = c.args in
    let words = args.table.now in
    let shown = contents_of args.many words in
    let valid = sound_valid args.many words c.requires.judged.3 (λ i. omega (arith, c.type_inv.table i)) in
    let pre = c.requires.judged in (
      pre.0,
      pre.1,
      pre.2,
      pre.3,
      next_held args.many shown valid args.key args.last args.before c.requires.rising.0 c.requires.rising.1 c.loop-at.invariant.0
          c.loop-at-test.true c.next_of-link.result c.next_of-link.ensures c.if-link-eq0.false,
    )

pub overflow_add-met : goal.overflow_add-met
overflow_add-met c =
    let args = c.args in
    let words = args.table.now in
    let shown = contents_of args.many words in
    let valid = sound_valid args.many words c.requires.judged.3 (λ i. omega (arith, c.type_inv.table i)) in
    omega (arith, c.requires.judged.1, shown_fit args.many words, room args.many shown valid args.key args.last args.before c.requires.rising.0 c.requires.rising.1 c.loop-at.invariant.0)

pub loop-at-smaller : goal.loop-at-smaller
loop-at-smaller c =
    let args = c.args in
    let words = args.table.now in
    let shown = contents_of args.many words in
    let valid = sound_valid args.many words c.requires.judged.3 (λ i. omega (arith, c.type_inv.table i)) in
    let next = c.place_of-next in
    smaller args.many shown valid args.key args.last args.before c.requires.rising.0 c.requires.rising.1 c.loop-at.invariant.0
    c.loop-at-test.true next.result.key (next.ensures.its_key ∙ c.next_of-link.ensures) (λ e. c.if-link-eq0.false (sym next.ensures.its_key ∙ e))

pub loop-at-preserved : goal.loop-at-preserved
loop-at-preserved c =
    let args = c.args in
    let words = args.table.now in
    let shown = contents_of args.many words in
    let valid = sound_valid args.many words c.requires.judged.3 (λ i. omega (arith, c.type_inv.table i)) in
    let loop = c.loop-at in
    let next = c.place_of-next in
    let told =
    c.is_new_block.ensures
    ∙ ap (λ (n : ℕ). new_block shown loop.at.key loop.low n loop.at.level next.result.level) c.other_than-other.ensures
    in (
      subst (λ (n : ℕ). Searching shown args.key args.last args.before next.result.key next.result.level n c.if-is_new_block.met) (sym c.low_after-low.ensures)
          (goes_on args.many shown valid args.key args.last args.before c.requires.rising.0 c.requires.rising.1 loop.invariant.0
          c.loop-at-test.true next.result.key (next.ensures.its_key ∙ c.next_of-link.ensures) (λ e. c.if-link-eq0.false (sym next.ensures.its_key ∙ e))
          next.result.level next.ensures.placed.level_is c.if-is_new_block.met
          (subst (λ b. Counted b loop.met c.if-is_new_block.met) told (is_counted (goal.at.loop-at-preserved c).Joined-is_new_block))),
      next.ensures.placed,
    )

pub returns : goal.returns
returns c =
    let args = c.args in
    let words = args.table.now in
    let shown = contents_of args.many words in
    let valid = sound_valid args.many words c.requires.judged.3 (λ i. omega (arith, c.type_inv.table i)) in
    ap (λ (s : Standing). record { standing = Some s; blocks = c.loop-at.met }) c.standing_of.ensures
    ∙ found args.many shown valid args.key args.last args.before c.requires.rising.0 c.requires.rising.1 c.loop-at.invariant.0 c.loop-at-test.false
