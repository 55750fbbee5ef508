-- `table_descend::look_up` meets its contract. Assumes nothing.
use mathlib.Core.Path.{◌∙◌}
use Rattle.table.specs.Table.{contents_of}
use Rattle.table_descend.proofs.InRow.{first_lookup}
use Rattle.table_descend.proofs.look_up.Goals as goal

pub returns : goal.returns
returns c =
    let args = c.args in
    c.look_up_after.ensures ∙ first_lookup (contents_of args.many args.table.now) args.key
