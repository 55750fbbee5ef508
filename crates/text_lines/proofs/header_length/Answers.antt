-- `text_lines::header_length` meets its contract. Assumes nothing.
use native.Mathlib.Omega.{arith}
use Rattle.text_lines.proofs.Lengths.{header_line_length}
use Rattle.text_lines.proofs.header_length.Goals as goal

pub returns : goal.returns
returns c = omega (arith, header_line_length c.args.order c.args.keys c.args.blocks c.args.fill c.args.root)
