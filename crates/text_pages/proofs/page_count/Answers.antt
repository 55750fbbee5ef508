-- `text_pages::page_count` meets its contract. Assumes nothing.
use native.Mathlib.Omega.{arith}
use Rattle.text_pages.proofs.Counting.{count_rounded}
use Rattle.text_pages.proofs.page_count.Goals as goal

pub returns : goal.returns
returns c = omega (arith, count_rounded c.args.n, c.div_ceil.ensures, c.max.ensures)
