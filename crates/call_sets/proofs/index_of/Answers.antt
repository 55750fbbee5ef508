-- `call_sets::index_of` meets its contract. Assumes nothing.
use lib.Dec.{ltb}
use lib.ListN.{take}
use borrow.Author.Rules.{rules}
use Rattle.std.proofs.lemmas.List.Sorted.{IsPartitionPoint-from_clause, IsPartitionedBy-ltb}
use Rattle.call_sets.proofs.Placing.{never_falls, parted_there}
use Rattle.call_sets.proofs.index_of.Goals as goal

pub returns : goal.returns
returns c =
    let keys = take c.args.n c.args.keys.now in
    let parted = IsPartitionedBy-ltb (λ k. k) keys c.args.key (never_falls keys c.requires.1) in
    let point = IsPartitionPoint-from_clause (λ k. ltb k c.args.key) _ _ c.partition_point.ensures.partitioned parted (λ a r q k. search rules) in
    parted_there c.args.key keys c.partition_point.result c.requires.1 c.partition_point.ensures.bound point
