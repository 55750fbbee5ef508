-- `text_lines::put_key` meets its contract. Assumes nothing.
use Rattle.text.proofs.Pieces.{written_then}
use Rattle.text_lines.proofs.put_key.Goals as goal

pub returns : goal.returns
returns c = written_then c.put_bytes-end.ensures c.put_hexadecimal.ensures c.requires
