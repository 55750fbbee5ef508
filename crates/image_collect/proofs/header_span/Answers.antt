-- `image_collect::header_span` meets its contract. Assumes nothing.
use mathlib.Core.Path.{sym, ◌∙◌}
use Rattle.image.proofs.Records.{span_salted, span_unsalted}
use Rattle.image_collect.proofs.header_span.Goals as goal

pub returns-then-is_salted : goal.returns-then-is_salted
returns-then-is_salted c = sym (span_salted c.args.image.now (sym c.is_salted.ensures ∙ c.if-is_salted.true))

pub returns : goal.returns
returns c = sym (span_unsalted c.args.image.now (sym c.is_salted.ensures ∙ c.if-is_salted.false))
