-- `text::put_hexadecimal` meets its contract. Assumes nothing.
use native.Mathlib.Omega.{arith}
use Rattle.text.specs.Digits.{hexadecimal}
use Rattle.text.proofs.Spelling.{hexadecimal_length}
use Rattle.text.proofs.put_hexadecimal.Goals as goal

pub put_digits-requires : goal.put_digits-requires
put_digits-requires c = omega (arith, hexadecimal_length c.args.n)

pub returns : goal.returns
unfolding hexadecimal
returns c = c.put_digits.ensures
