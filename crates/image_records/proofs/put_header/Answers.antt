-- `image_records::put_header` meets its contract: by whether the image has a salt. Assumes nothing.
use Rattle.image_records.proofs.Fields.{unsalted_written, salted_written}
use Rattle.image_records.proofs.put_header.Goals as goal

pub returns-then-salt-eq0 : goal.returns-then-salt-eq0
returns-then-salt-eq0 c =
    unsalted_written c.args.output.now _ c.args.at c.args.order c.args.size c.args.blocks c.args.root c.args.salt c.if-salt-eq0.true c.put_head.ensures

pub returns : goal.returns
returns c =
    salted_written c.args.output.now _ c.args.at c.args.order c.args.size c.args.blocks c.args.root c.args.salt _ c.if-salt-eq0.false c.requires c.put_head-2.ensures c.put.ensures
