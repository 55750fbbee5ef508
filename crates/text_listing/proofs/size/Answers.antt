-- `text_listing::size` meets its contract: the header's line is measured, then those of the records. Assumes nothing.
use mathlib.Core.Path.{ap}
use native.Mathlib.Omega.{arith}
use lib.ListN.{length}
use Rattle.text_listing.proofs.Shows.{bytes_have_records, bytes_show, bytes_most}
use Rattle.text_listing.proofs.Measuring.{measured_next}
use Rattle.text_listing.proofs.size.Goals as goal

pub header_line-requires : goal.header_line-requires
header_line-requires c = bytes_have_records _ c.type_inv.image c.requires

pub new-line-items-requires : goal.new-line-items-requires
new-line-items-requires c = bytes_have_records _ c.type_inv.image c.requires

pub overflow_add-total : goal.overflow_add-total
overflow_add-total c =
    let next = measured_next c.loop-line.invariant c.in-Some.line c.next.new.self c.in-Some.ensures.steps c.length-total-in-loop-line.result c.length-total-in-loop-line.ensures.value c.length-total-in-loop-line.ensures.upper_bound in
    omega (arith, next.few, bytes_most _ c.type_inv.image c.requires)

pub returns-clause-value : goal.returns-clause-value
returns-clause-value c =
    omega (arith, c.loop-line.invariant.counted, ap length c.in-None.ensures.steps, ap length (bytes_show _ c.type_inv.image c.requires))
