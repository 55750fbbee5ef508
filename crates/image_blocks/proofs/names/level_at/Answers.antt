-- `image_blocks::names::level_at` meets its contract. Assumes nothing.
use Rattle.image_blocks.proofs.Weights.{level_of_root, level_of_other}
use Rattle.image_blocks.proofs.names.level_at.Goals as goal

pub returns-then-i-root : goal.returns-then-i-root
returns-then-i-root c = level_of_root _ _ _ c.if-i-root.true

pub returns-else-i-root : goal.returns-else-i-root
returns-else-i-root c = level_of_other _ _ _ c.if-i-root.false
