-- `call_load::operate` meets its contract. Assumes nothing.
use mathlib.Core.Path.{refl, sym, ap, ◌∙◌, subst}
use Prim.Native.Nat.{◌<◌}
use native.Mathlib.Omega.{arith}
use Rattle.lists.specs.Lists.{lies}
use Rattle.measure.specs.Tag.{is_tag, is_stored, length_in, stored_in}
use Rattle.measure.proofs.Tags.{no_tag}
use Rattle.table.specs.Contents.{keys_in, IsKey}
use Rattle.table.specs.Table.{contents_of}
use Rattle.table.proofs.Soundness.{WordSized}
use Rattle.call_sets.specs.Load.{done}
use Rattle.call_meaning.specs.Calls.{insert_after}
use Rattle.call_changes.specs.Done.{IsLoadKey, with_done}
use Rattle.call_changes.proofs.Knowing.{facts}
use Rattle.call_load.specs.declared.Operation.{Operation}
use Rattle.call_load.specs.Choice.{operation_of, key_of}
use Rattle.call_load.proofs.Operating.{room_left, insert_operates, delete_operates}
use Rattle.call_load.proofs.operate.Goals as goal
use Rattle.call_load.proofs.operate.Goals.{In-Delete, In-Insert}

-- the key that is inserted, and the one that is deleted, is a load's
inserted : (p : In-Insert) → IsLoadKey p.in-Insert.key
inserted p = subst (λ (o : Operation). IsLoadKey (key_of o)) p.in-Insert.is p.requires.chosen_key

deleted : (p : In-Delete) → IsLoadKey p.in-Delete.key
deleted p = subst (λ (o : Operation). IsLoadKey (key_of o)) p.in-Delete.is p.requires.chosen_key

-- the table's words are numbers of 64 bits
before_insert : (p : In-Insert) → WordSized p.args.table.now
before_insert p i = omega (arith, p.slice_known-1.given i)

before_delete : (p : In-Delete) → WordSized p.args.table.now
before_delete p i = omega (arith, p.slice_known-1.given i)

pub insert_known-requires-clause-insertable : goal.insert_known-requires-clause-insertable
unfolding lies is_tag is_stored length_in stored_in
insert_known-requires-clause-insertable c =
    let p = (goal.at.insert_known-requires-clause-insertable c).In-Insert in
    let ours = inserted p in
    let rise = (facts c.args.many c.args.table.now c.args.keys.now c.args.tags.now c.requires.known (before_insert p)).valid.keys_rise in
    let few = room_left c.in-Insert.key (keys_in (contents_of c.args.many c.args.table.now)) ours c.requires.load_keys.0 rise in
    (ours.0, refl, λ absent (room : _ < _). omega (arith, c.requires.load_keys.1, few absent), λ absent (room : _ < _). omega (arith, c.requires.load_keys.2, few absent))

pub returns-in-Insert-clause-table_after : goal.returns-in-Insert-clause-table_after
returns-in-Insert-clause-table_after c =
    let args = c.args in
    let p = (goal.at.returns-in-Insert-clause-table_after c).In-Insert in
    let is_key : IsKey c.in-Insert.key = ((inserted p).0, omega (arith, (inserted p).1)) in
    ap (contents_of args.many) (c.insert_known.ensures.table_after ∙ ap (insert_after args.table.now c.in-Insert.key) no_tag)
    ∙ insert_operates args.many args.table.now args.keys.now args.tags.now c.requires.known (before_insert p) c.in-Insert.key is_key
    ∙ ap (λ (o : Operation). with_done args.many (operation_of o) (contents_of args.many args.table.now)) (sym c.in-Insert.is)

pub returns-in-Delete-clause-table_after : goal.returns-in-Delete-clause-table_after
returns-in-Delete-clause-table_after c =
    let args = c.args in
    let p = (goal.at.returns-in-Delete-clause-table_after c).In-Delete in
    let is_key : IsKey c.in-Delete.key = ((deleted p).0, omega (arith, (deleted p).1)) in
    ap (contents_of args.many) c.delete_known.ensures.table_after
    ∙ delete_operates args.many args.table.now args.keys.now args.tags.now c.requires.known (before_delete p) c.in-Delete.key is_key
    ∙ ap (λ (o : Operation). with_done args.many (operation_of o) (contents_of args.many args.table.now)) (sym c.in-Delete.is)

pub returns-in-LookUp-clause-table_after : goal.returns-in-LookUp-clause-table_after
unfolding done
returns-in-LookUp-clause-table_after c =
    ap (λ (o : Operation). with_done c.args.many (operation_of o) (contents_of c.args.many c.args.table.now)) (sym c.in-LookUp.is)
