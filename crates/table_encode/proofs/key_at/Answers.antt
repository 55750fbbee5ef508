-- `table_encode::key_at` meets its contract. Assumes nothing.
use Rattle.table_encode.proofs.Stores.{key_at_none, key_at_some}
use Rattle.table_encode.proofs.key_at.Goals as goal

pub returns-then-position-eq0 : goal.returns-then-position-eq0
returns-then-position-eq0 c = key_at_none c.args.keys.now c.args.position c.if-position-eq0.true

pub returns : goal.returns
returns c = key_at_some c.args.keys.now c.args.position c.if-position-eq0.false
