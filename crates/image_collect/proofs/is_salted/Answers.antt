-- `image_collect::is_salted` meets its contract. Assumes nothing.
use Rattle.image.specs.Image.{is_salted}
use Rattle.image_collect.proofs.Nodes.{mark_short}
use Rattle.image_collect.proofs.is_salted.Goals as goal

pub returns-then-image-lt2 : goal.returns-then-image-lt2
unfolding is_salted
returns-then-image-lt2 c = mark_short 83 c.args.image.now c.if-image-lt2.true

pub returns : goal.returns
unfolding is_salted
returns c = c.is_marked.ensures
