-- `text_pages::size` meets its contract. Assumes nothing.
use native.Mathlib.Omega.{arith}
use Rattle.text_pages.specs.Claims.{pages_bytes}
use Rattle.text_pages.proofs.Counting.{pages_reach}
use Rattle.text_pages.proofs.size.Goals as goal

pub overflow_mul-result : goal.overflow_mul-result
overflow_mul-result c = omega (arith, c.page_count.ensures, pages_reach c.args.n, c.requires)

pub overflow_add-result : goal.overflow_add-result
overflow_add-result c = omega (arith, c.page_count.ensures, pages_reach c.args.n, c.requires)

pub returns : goal.returns
unfolding pages_bytes
returns c = omega (arith, c.page_count.ensures)
