-- `image_collect::node_span` meets its contract. Assumes nothing.
use mathlib.Core.Path.{sym, ◌∙◌}
use Rattle.image_collect.proofs.Nodes.{span_measured, span_plain}
use Rattle.image_collect.proofs.node_span.Goals as goal

pub returns-then-is_measured : goal.returns-then-is_measured
returns-then-is_measured c = sym (span_measured c.args.node.now (sym c.is_measured.ensures ∙ c.if-is_measured.true))

pub returns : goal.returns
returns c = sym (span_plain c.args.node.now (sym c.is_measured.ensures ∙ c.if-is_measured.false))
