-- `table_encode::write_slot` meets its contract: stores to words in a row overwrite them. Assumes nothing.
use Rattle.table_encode.proofs.Stores.{slot_stores}
use Rattle.table_encode.proofs.write_slot.Goals as goal

pub returns : goal.returns
returns c =
    let slot = c.args.slot in
    slot_stores c.args.table.now c.args.at slot.key slot.left slot.right slot.leader slot.rank slot.count slot.length slot.correction c.requires
