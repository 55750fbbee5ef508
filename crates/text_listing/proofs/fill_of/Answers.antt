-- `text_listing::fill_of` meets its contract. Assumes nothing.
use Rattle.text_listing.proofs.Filling.{fill_no_keys, fill_some}
use Rattle.text_listing.proofs.fill_of.Goals as goal

pub returns-then-keys-eq0 : goal.returns-then-keys-eq0
returns-then-keys-eq0 c = let args = c.args in fill_no_keys args.order args.keys args.blocks c.if-keys-eq0.true

pub returns : goal.returns
returns c = let args = c.args in fill_some args.order args.keys args.blocks c.if-keys-eq0.false
