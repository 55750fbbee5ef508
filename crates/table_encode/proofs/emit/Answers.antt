-- `table_encode::emit` meets its contract. The loop's invariant: the first s slots are written. Assumes nothing.
use Rattle.treap_columns.specs.Lent.{lists_of}
use mathlib.Core.List.{List, [], ◌∷◌, ◌++◌, flat_map}
use mathlib.Core.Path.{◌≡◌, refl, sym, ap, ◌∙◌, subst₂}
use native.Mathlib.Numerals.{add-one}
use Prim.Native.Nat.{ℕ}
use native.Mathlib.Omega.{arith}
use lib.ListN.{length, set, length-set}
use Rattle.lists.specs.Lists.{overwrite}
use Rattle.table.specs.Layout.{slot_start, table_words}
use Rattle.treap_columns.specs.declared.Columns.{Columns}
use Rattle.table_encode.specs.Encode.{slot_at, words_of}
use Rattle.table_encode.proofs.Emitting.{Emitted, emitted_start, emitted_next, emitted_end, header_stores}
use Rattle.table_encode.proofs.emit.Goals as goal
use Rattle.table_encode.proofs.emit.Goals.{After-key_at}

-- where the loop begins the table is as long as it was lent
start-long : (c : After-key_at) → length (set (set (set (set c.args.table.now 0 c.args.order) 1 (length c.args.keys.now)) 2 c.key_at.result) 3 c.args.salt) ≡ table_words (length c.args.slots.now)
start-long c = simp length-set c.requires.table_len

pub loop-s-init : goal.loop-s-init
loop-s-init c = (refl, emitted_start _ _ _ _ _ (start-long c))

pub loop-s-preserved : goal.loop-s-preserved
loop-s-preserved c =
    let args = c.args in
    let loop = c.loop-s in
    let columns : Columns = (lists_of args.columns) in
    let lent = set (set (set (set args.table.now 0 args.order) 1 (length args.keys.now)) 2 c.key_at.result) 3 args.salt in (
      refl,
      subst₂ (Emitted args.keys.now args.tags.now columns args.slots.now lent)
          (sym (c.write_slot.ensures ∙ ap (overwrite loop.table (slot_start loop.s)) c.slot_at-slot.ensures)) (sym (add-one loop.s))
          (emitted_next args.keys.now args.tags.now columns args.slots.now lent (start-long (goal.at.loop-s-preserved c).After-key_at) loop.table loop.s loop.invariant.1 (omega arith)),
    )

pub returns : goal.returns
unfolding words_of
returns c =
    let args = c.args in
    let words = flat_map (slot_at args.keys.now args.tags.now (lists_of args.columns)) args.slots.now in
    let long = c.requires.table_len in
    emitted_end args.keys.now args.tags.now (lists_of args.columns) args.slots.now (set (set (set (set args.table.now 0 args.order) 1 (length args.keys.now)) 2 c.key_at.result) 3 args.salt) (start-long (goal.at.returns c).After-key_at) c.loop-s.table c.loop-s.s c.loop-s.invariant.1 (omega arith)
    ∙ ap (λ (xs : List ℕ). xs ++ words) (header_stores args.table.now args.order (length args.keys.now) c.key_at.result args.salt (omega arith))
    ∙ ap (λ (z : ℕ). (args.order ∷ length args.keys.now ∷ z ∷ args.salt ∷ []) ++ words) c.key_at.ensures
