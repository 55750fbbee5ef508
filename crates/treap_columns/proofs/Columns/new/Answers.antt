-- `treap_columns::Columns::new` meets its contract. Assumes nothing.
use mathlib.Core.Path.{refl}
use Rattle.treap_columns.specs.Blank.{blank_columns}
use Rattle.treap_columns.proofs.Columns.new.Goals as goal

pub returns : goal.returns
unfolding blank_columns
returns c = refl
