-- `table_write::write` meets its contract: what is prepared is written. Assumes nothing.
use mathlib.Core.Path.{sym, ap, ◌∙◌, subst}
use Prim.Native.Nat.{ℕ}
use native.Mathlib.Omega.{arith}
use lib.ListN.{take}
use Rattle.treap_columns.specs.declared.Columns.{Columns}
use Rattle.table.specs.Contents.{Contents}
use Rattle.table.specs.Table.{fresh}
use Rattle.table.specs.Tags.{tagged}
use Rattle.table_encode.specs.Encode.{Linked, words_of}
use Rattle.table_encode.proofs.Linking.{linked, root_within, slots_low, prepared_words}
use Rattle.table_write.proofs.write.Goals as goal

pub emit-requires-clause-linked : goal.emit-requires-clause-linked
emit-requires-clause-linked c =
    subst (Linked c.args.keys.now) (sym c.lent.ensures) (linked _ _ c.requires.keys.0.wide _ _ _ _ c.prepare-root.ensures.prepared)

pub emit-requires-clause-root_in_bounds : goal.emit-requires-clause-root_in_bounds
emit-requires-clause-root_in_bounds c =
    let keys = c.requires.keys.0 in
    let made = c.prepare-root.ensures.prepared in (
      root_within _ _ keys.wide _ _ _ _ made,
      slots_low _ _ keys.wide _ _ _ _ made keys.rising keys.some,
      let many = c.requires.keys.1.as_many in omega arith,
    )

pub returns : goal.returns
returns c =
    let args = c.args in
    let room = c.prepare-root in
    let keys = c.requires.keys.0 in
    let slots = take args.many room.new.self.slots in
    let contents : Contents = tagged args.order args.salt args.keys.now args.tags.now in
    c.emit.ensures
    ∙ ap (λ (columns : Columns). words_of args.order args.salt args.keys.now args.tags.now room.result columns slots) c.lent.ensures
    ∙ prepared_words args.order args.salt keys.wide args.keys.now room.new.self.columns slots room.result room.ensures.prepared keys.rising keys.some args.tags.now c.requires.keys.1
    ∙ ap (λ (m : ℕ). fresh m contents) room.ensures.slots_len
