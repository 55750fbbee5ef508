-- `image_blocks::names::block_weight` meets its contract. Assumes nothing.
use native.Mathlib.Omega.{arith}
use Rattle.image_blocks.proofs.Weights.{level_bound, leader_bound, weight_is}
use Rattle.image_blocks.proofs.names.block_weight.Goals as goal

pub overflow_mul-result : goal.overflow_mul-result
overflow_mul-result c =
    omega (arith, level_bound c.args.n c.args.root c.args.rank.now c.args.leader.now c.requires.ranked c.args.i c.requires.i_lt_n)

pub overflow_sub-result : goal.overflow_sub-result
overflow_sub-result c =
    omega (arith, c.requires.ranked.few, leader_bound c.args.n c.args.root c.args.rank.now c.args.leader.now c.requires.ranked c.args.i c.requires.i_lt_n)

pub overflow_add-result : goal.overflow_add-result
overflow_add-result c =
    omega (arith, level_bound c.args.n c.args.root c.args.rank.now c.args.leader.now c.requires.ranked c.args.i c.requires.i_lt_n, c.requires.ranked.few, leader_bound c.args.n c.args.root c.args.rank.now c.args.leader.now c.requires.ranked c.args.i c.requires.i_lt_n)

pub returns : goal.returns
returns c =
    weight_is c.args.root c.args.rank.now c.args.leader.now c.args.i c.level_at.result c.leader_at.result c.level_at.ensures c.leader_at.ensures
