-- `text::put_bytes` meets its contract. Assumes nothing.
use mathlib.Core.Path.{refl}
use Rattle.text.proofs.Pieces.{written_part}
use Rattle.text.proofs.put_bytes.Goals as goal

pub returns : goal.returns
returns c = written_part _ _ _ _ _ refl c.copy_from_slice.ensures.after
