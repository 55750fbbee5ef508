-- `treap_links::links` meets its contract: the part is the whole list, and what the pass wrote is overwritten. Assumes nothing.
use Rattle.treap_links.proofs.Growth.{whole_left, whole_right}
use Rattle.treap_links.proofs.links.Goals as goal

pub returns-clause-left_after : goal.returns-clause-left_after
returns-clause-left_after c =
    let ws = c.args.weights.now in
    whole_left ws _ _ _ c.nearest.ensures.left_unchanged c.grow.ensures.left_after

pub returns-clause-right_after : goal.returns-clause-right_after
returns-clause-right_after c =
    let ws = c.args.weights.now in
    whole_right ws _ _ _ c.nearest.ensures.right_unchanged c.grow.ensures.right_after
