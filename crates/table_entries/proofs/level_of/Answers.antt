-- `table_entries::level_of` meets its contract. Assumes nothing.
use native.Mathlib.Omega.{arith}
use Rattle.table_entries.proofs.Fields.{rank_word_small, root_level_is, other_level_is}
use Rattle.table_entries.proofs.level_of.Goals as goal

pub returns-then-key-table : goal.returns-then-key-table
returns-then-key-table c =
    root_level_is c.args.many c.args.table.now c.args.key c.args.slot c.requires
    c.word_of-rank.result c.word_of-rank.ensures c.if-key-table.true

pub overflow_add-result : goal.overflow_add-result
overflow_add-result c =
    omega (arith, c.word_of-rank.ensures, rank_word_small c.args.many c.args.table.now c.args.key c.args.slot c.requires)

pub returns : goal.returns
returns c =
    other_level_is c.args.many c.args.table.now c.args.key c.args.slot c.requires
    c.word_of-rank.result c.word_of-rank.ensures c.if-key-table.false
