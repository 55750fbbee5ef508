-- `image_programs::read_in` meets its contract. Assumes nothing.
use Rattle.call_replies.specs.Replies.{done_of}
use Rattle.image_programs.proofs.Printing.{reply_refusal, read_when}
use Rattle.image_programs.proofs.read_in.Goals as goal

pub returns-clause-refusal : goal.returns-clause-refusal
returns-clause-refusal c = reply_refusal c.args.table.now c.args.image.now (done_of c.read.result) c.requires.0 c.read.ensures.reply_value

pub returns-clause-read_into : goal.returns-clause-read_into
returns-clause-read_into c =
    read_when c.args.image.now c.type_inv.image c.args.table.now c.read.new.table c.requires.0 c.requires.1 c.read.ensures.table_after c.read.result
    (reply_refusal c.args.table.now c.args.image.now (done_of c.read.result) c.requires.0 c.read.ensures.reply_value)
