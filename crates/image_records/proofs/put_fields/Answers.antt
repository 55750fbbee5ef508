-- `image_records::put_fields` meets its contract. Assumes nothing.
use Rattle.image_records.proofs.Fields.{fields_written}
use Rattle.image_records.proofs.put_fields.Goals as goal

pub returns : goal.returns
returns c =
    fields_written c.args.output.now _ _ _ _ _ _ c.args.at c.args.kind c.args.key c.args.left c.args.right c.args.rank c.args.count c.requires c.put_mark.ensures c.put.ensures c.put-2.ensures c.put-3.ensures c.put-4.ensures c.put-5.ensures
