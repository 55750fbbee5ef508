-- `image_records::put_node` meets its contract: by whether the key is measured. Assumes nothing.
use Rattle.image_records.proofs.Fields.{plain_written, measured_written}
use Rattle.image_records.proofs.put_node.Goals as goal

pub returns-then-long-eq0-clause-output_after : goal.returns-then-long-eq0-clause-output_after
returns-then-long-eq0-clause-output_after c =
    let none = c.if-long-eq0.true in plain_written c.args.output.now _ c.args.at c.args.key c.args.left c.args.right c.args.rank c.args.count c.args.long c.args.stored none c.put_fields.ensures

pub returns-clause-output_after : goal.returns-clause-output_after
returns-clause-output_after c =
    let some = c.if-long-eq0.false in measured_written c.args.output.now _ c.args.at c.args.key c.args.left c.args.right c.args.rank c.args.count c.args.long c.args.stored _ _ some c.requires c.put_fields-2.ensures c.put.ensures c.put-2.ensures
