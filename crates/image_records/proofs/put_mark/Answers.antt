-- `image_records::put_mark` meets its contract. Assumes nothing.
use Rattle.image_records.proofs.Fields.{mark_written}
use Rattle.image_records.proofs.put_mark.Goals as goal

pub returns : goal.returns
returns c =
    mark_written c.args.output.now c.args.at 76 c.args.kind c.requires
