-- `text_lines::put_number` meets its contract. Assumes nothing.
use Rattle.text.proofs.Pieces.{written_then}
use Rattle.text_lines.proofs.put_number.Goals as goal

pub returns : goal.returns
returns c = written_then c.put_bytes-end.ensures c.put_decimal.ensures c.requires
