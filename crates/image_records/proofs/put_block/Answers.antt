-- `image_records::put_block` meets its contract. Assumes nothing.
use Rattle.image_records.proofs.Fields.{block_written}
use Rattle.image_records.proofs.put_block.Goals as goal

pub returns : goal.returns
returns c =
    block_written c.args.output.now _ _ _ _ c.args.at c.args.leader c.args.level c.args.held c.requires c.put_mark.ensures c.put.ensures c.put-2.ensures c.put-3.ensures
