-- `text_lines::key_length` meets its contract. Assumes nothing.
use native.Mathlib.Omega.{arith}
use Rattle.text_lines.proofs.Lengths.{key_line_length}
use Rattle.text_lines.proofs.key_length.Goals as goal

pub returns : goal.returns
returns c = omega (arith, key_line_length c.args.key c.args.rank c.args.count)
