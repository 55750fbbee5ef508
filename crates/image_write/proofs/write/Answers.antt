-- `image_write::write` meets its contract: what is arranged is written. Assumes nothing.
use mathlib.Core.Path.{◌≡◌, sym, ap, ◌∙◌, subst}
use lib.ListN.{length, take}
use Rattle.table.specs.Tags.{tagged}
use Rattle.treap_columns.specs.declared.Columns.{Columns}
use Rattle.treap_columns.specs.Lent.{lists_of}
use Rattle.image.specs.Image.{image_of}
use Rattle.image_parts.specs.Parts.{image_at}
use Rattle.image_parts.specs.Written.{written_to}
use Rattle.image_write.specs.Arranged.{Arranged}
use Rattle.image_write.proofs.Arranging.{ranked, listed, as_many_weights, as_many_sorted, sorted_within}
use Rattle.image_write.proofs.Connected.{arranged_image}
use Rattle.image_write.proofs.write.Goals as goal
use Rattle.image_write.proofs.write.Goals.{After-lent}

-- what is arranged, with the columns as they are lent
made : (c : After-lent) → Arranged c.args.order c.args.salt c.args.keys.now c.arrange-root.new.room.weights c.arrange-root.new.room.ranking (lists_of c.lent.result) c.arrange-root.result
made c = subst (λ (columns : Columns). Arranged c.args.order c.args.salt c.args.keys.now c.arrange-root.new.room.weights c.arrange-root.new.room.ranking columns c.arrange-root.result) (sym c.lent.ensures) c.arrange-root.ensures

pub emit-requires-clause-listed : goal.emit-requires-clause-listed
emit-requires-clause-listed c = let m = made (goal.at.emit-requires-clause-listed c).After-lent in listed c.args.order c.args.salt c.args.keys.now c.requires.0 (lists_of c.lent.result) m.filled c.args.tags.now c.requires.1.as_many

pub emit-requires-clause-ranked : goal.emit-requires-clause-ranked
emit-requires-clause-ranked c = let m = made (goal.at.emit-requires-clause-ranked c).After-lent in ranked c.args.order c.args.salt c.args.keys.now c.requires.0 (lists_of c.lent.result) m.filled c.arrange-root.result m.root_is

pub emit-requires-clause-indices : goal.emit-requires-clause-indices
emit-requires-clause-indices c = let m = made (goal.at.emit-requires-clause-indices c).After-lent in (
  as_many_weights _ _ _ _ _ (lists_of c.lent.result) c.arrange-root.result m,
  as_many_sorted _ _ _ _ _ (lists_of c.lent.result) c.arrange-root.result m,
  sorted_within _ _ _ _ _ (lists_of c.lent.result) c.arrange-root.result m,
)

-- the image of the columns is that of the keys and the tags
drawn : (c : After-lent)
    → image_at c.args.order c.args.salt c.args.keys.now c.args.tags.now c.arrange-root.result (lists_of c.lent.result) (take (length c.args.keys.now) c.arrange-root.new.room.weights) (take (length c.args.keys.now) c.arrange-root.new.room.ranking)
    ≡ image_of (tagged c.args.order c.args.salt c.args.keys.now c.args.tags.now)
drawn c = arranged_image c.args.order c.args.salt c.args.keys.now c.args.tags.now _ _ (lists_of c.lent.result) c.arrange-root.result c.requires.0 c.requires.1 (made c)

pub returns-clause-output_after : goal.returns-clause-output_after
returns-clause-output_after c = c.emit.ensures.output_after ∙ ap (written_to c.args.output.now) (drawn (goal.at.returns-clause-output_after c).After-lent)

pub returns-clause-value : goal.returns-clause-value
returns-clause-value c = c.emit.ensures.value ∙ ap length (drawn (goal.at.returns-clause-value c).After-lent)
