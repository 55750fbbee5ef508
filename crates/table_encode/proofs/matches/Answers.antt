-- `table_encode::matches` meets its contract. The loop's invariant: the words before slot s are those of the columns. Assumes nothing.
use Rattle.treap_columns.specs.Lent.{lists_of}
use mathlib.Core.Bool.{not}
use mathlib.Core.Path.{◌≡◌, refl, sym, ap, ap₂, ◌∙◌, subst}
use native.Mathlib.Numerals.{add-one}
use native.Mathlib.Omega.{arith}
use lib.ListN.{get_or, take, drop}
use Rattle.lists.specs.Lists.{same}
use Rattle.table.specs.Layout.{slot_words, slot_start}
use Rattle.table_encode.specs.Encode.{slot_at, words_of}
use Rattle.table_encode.proofs.Matching.{Matched, matched_start, matched_next, matched_end, slot_differs, word_differs, same_words, not_turned}
use Rattle.table_encode.proofs.matches.Goals as goal
use Rattle.table_encode.proofs.matches.Goals.{After-ne}

pub returns-then-table-order : goal.returns-then-table-order
unfolding words_of
returns-then-table-order c =
    let args = c.args in
    let long = c.requires.table_len in
    word_differs args.order args.salt args.keys.now args.tags.now args.root (lists_of args.columns) args.slots.now args.table.now 0 c.if-table-order.true

pub returns-then-table-keys : goal.returns-then-table-keys
unfolding words_of
returns-then-table-keys c =
    let args = c.args in
    let long = c.requires.table_len in
    word_differs args.order args.salt args.keys.now args.tags.now args.root (lists_of args.columns) args.slots.now args.table.now 1 c.if-table-keys.true

pub returns-then-table-key_at : goal.returns-then-table-key_at
unfolding words_of
returns-then-table-key_at c =
    let args = c.args in
    let long = c.requires.table_len in
    word_differs args.order args.salt args.keys.now args.tags.now args.root (lists_of args.columns) args.slots.now args.table.now 2 (λ q. c.if-table-key_at.true (q ∙ sym c.key_at.ensures))

pub returns-then-table-salt : goal.returns-then-table-salt
unfolding words_of
returns-then-table-salt c =
    let args = c.args in
    let long = c.requires.table_len in
    word_differs args.order args.salt args.keys.now args.tags.now args.root (lists_of args.columns) args.slots.now args.table.now 3 c.if-table-salt.true

pub loop-s-init : goal.loop-s-init
loop-s-init c =
    let args = c.args in
    let long = c.requires.table_len in
    (refl, matched_start args.order args.salt args.keys.now args.tags.now args.root (lists_of args.columns) args.slots.now args.table.now long c.if-table-order.false c.if-table-keys.false (c.if-table-key_at.false ∙ c.key_at.ensures) c.if-table-salt.false)

-- what comparing a slot's words with those of the columns told
told : (c : After-ne) →
    let args = c.args in
    let s = c.loop-s.s in
    same (take slot_words (drop (slot_start s) args.table.now)) (slot_at args.keys.now args.tags.now (lists_of args.columns) (get_or args.slots.now s 0)) ≡ not c.ne.result
told c =
    let read = c.read_slot in
    let made = c.slot_at-slot in
    ap₂ same (sym read.ensures) (sym made.ensures) ∙ same_words read.result made.result ∙ not_turned c.ne.result _ c.ne.ensures

pub returns-then-ne : goal.returns-then-ne
returns-then-ne c =
    let args = c.args in
    let long = c.requires.table_len in
    slot_differs args.order args.salt args.keys.now args.tags.now args.root (lists_of args.columns) args.slots.now args.table.now c.loop-s.s (omega arith) (told (goal.at.returns-then-ne c).After-ne ∙ ap not c.if-ne.true)

pub loop-s-preserved : goal.loop-s-preserved
loop-s-preserved c =
    let args = c.args in
    let loop = c.loop-s in
    let long = c.requires.table_len in (
      refl,
      subst (Matched args.order args.salt args.keys.now args.tags.now args.root (lists_of args.columns) args.slots.now args.table.now) (sym (add-one loop.s))
          (matched_next args.order args.salt args.keys.now args.tags.now args.root (lists_of args.columns) args.slots.now args.table.now loop.s loop.invariant.1 (omega arith) long
          (told (goal.at.loop-s-preserved c).After-ne ∙ ap not c.if-ne.false)),
    )

pub returns : goal.returns
returns c =
    let args = c.args in
    let long = c.requires.table_len in
    matched_end args.order args.salt args.keys.now args.tags.now args.root (lists_of args.columns) args.slots.now args.table.now c.loop-s.s c.loop-s.invariant.1 (omega arith) long
