-- `table_entries::next_of` meets its contract. Assumes nothing.
use Rattle.table_entries.proofs.Fields.{next_is_left, next_is_right}
use Rattle.table_entries.proofs.next_of.Goals as goal

pub returns-then-key-at : goal.returns-then-key-at
returns-then-key-at c =
    next_is_left c.args.many c.args.table.now c.args.at c.args.slot c.requires
    c.word_of.result c.args.key c.word_of.ensures c.if-key-at.true

pub returns : goal.returns
returns c =
    next_is_right c.args.many c.args.table.now c.args.at c.args.slot c.requires
    c.word_of-2.result c.args.key c.word_of-2.ensures c.if-key-at.false
