-- `text_lines::block_length` meets its contract. Assumes nothing.
use native.Mathlib.Omega.{arith}
use Rattle.text_lines.proofs.Lengths.{block_line_length}
use Rattle.text_lines.proofs.block_length.Goals as goal

pub returns : goal.returns
returns c = omega (arith, block_line_length c.args.leader c.args.level c.args.keys)
