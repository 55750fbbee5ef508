-- `image_collect::is_measured` meets its contract. Assumes nothing.
use Rattle.image.specs.Image.{is_measured}
use Rattle.image_collect.proofs.is_measured.Goals as goal

pub returns : goal.returns
unfolding is_measured
returns c = c.is_marked.ensures
