-- `image_collect::salt_shown` meets its contract. Assumes nothing.
use mathlib.Core.Path.{sym, ◌∙◌}
use native.Mathlib.Omega.{arith}
use Rattle.image.specs.Image.{salt_shown}
use Rattle.image.proofs.Records.{span_salted}
use Rattle.image_collect.proofs.salt_shown.Goals as goal

pub get-requires : goal.get-requires
get-requires c =
    (omega (arith, c.requires, span_salted c.args.image.now (sym c.is_salted.ensures ∙ c.if-is_salted.true)), omega arith)

pub returns-then-is_salted : goal.returns-then-is_salted
unfolding salt_shown
returns-then-is_salted c = rw (sym c.is_salted.ensures ∙ c.if-is_salted.true) c.get.ensures

pub returns : goal.returns
unfolding salt_shown
returns c = rw (sym c.is_salted.ensures ∙ c.if-is_salted.false)
