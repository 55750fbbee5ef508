-- `image_records::put_head` meets its contract. Assumes nothing.
use Rattle.image_records.proofs.Fields.{head_written}
use Rattle.image_records.proofs.put_head.Goals as goal

pub returns : goal.returns
returns c =
    head_written c.args.output.now _ _ _ _ _ c.args.at c.args.kind c.args.order c.args.size c.args.blocks c.args.root c.requires c.put_mark.ensures c.put.ensures c.put-2.ensures c.put-3.ensures c.put-4.ensures
