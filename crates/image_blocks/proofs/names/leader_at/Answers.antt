-- `image_blocks::names::leader_at` meets its contract. Assumes nothing.
use Rattle.image_blocks.proofs.Weights.{leader_of_root, leader_of_other}
use Rattle.image_blocks.proofs.names.leader_at.Goals as goal

pub returns-then-i-root : goal.returns-then-i-root
returns-then-i-root c = leader_of_root _ _ _ c.if-i-root.true

pub returns-else-i-root : goal.returns-else-i-root
returns-else-i-root c = leader_of_other _ _ _ c.if-i-root.false
