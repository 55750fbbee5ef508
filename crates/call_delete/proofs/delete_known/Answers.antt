-- `call_delete::delete_known` meets its contract. Assumes nothing.
use mathlib.Core.Bool.{true}
use mathlib.Core.Path.{◌≡◌, sym, ◌∙◌, subst}
use Prim.Native.Nat.{ℕ}
use native.Mathlib.Omega.{arith}
use Rattle.lists.specs.Lists.{Rising, member}
use Rattle.table.specs.Contents.{keys_in}
use Rattle.table.specs.Table.{contents_of}
use Rattle.call_changes.proofs.Knowing.{Facts, facts}
use Rattle.call_changes.proofs.Editing.{Removed}
use Rattle.call_delete.proofs.Deleting.{leaves_absent, key_there, some_left, can_be_written, leaves_without}
use Rattle.call_delete.proofs.delete_known.Goals as goal
use Rattle.call_delete.proofs.delete_known.Goals.{After-holds, After-take_out, Else-not-holds}

abbrev key : After-holds → ℕ
key p = p.args.key

told : (p : After-holds) → Facts p.args.many p.args.table.now p.args.keys.now p.args.tags.now
told p = facts _ _ _ _ p.requires.known (λ i. omega (arith, p.slice_known-1.given i))

held : (p : Else-not-holds) → member p.args.key (keys_in (contents_of p.args.many p.args.table.now)) ≡ true
held p = sym p.holds.ensures ∙ p.if-not-holds.false

out : (p : After-take_out) → Removed (told (goal.at.After-take_out p).After-holds) p.args.key p.take_out.new.keys p.take_out.new.tags
out p = record { keys_left = p.take_out.ensures.keys_after; tags_left = p.take_out.ensures.tags_after }

pub returns-then-not-holds : goal.returns-then-not-holds
returns-then-not-holds c =
    let p = (goal.at.returns-then-not-holds c).After-holds in
    let met = leaves_absent (told p) (key p) c.requires.positive (sym c.holds.ensures ∙ c.if-not-holds.true) in
    record { result_value = met.0; table_after = met.1.0; known_after = met.1.1 }

pub take_out-requires : goal.take_out-requires
take_out-requires c =
    let at = goal.at.take_out-requires c in
    let t = told at.After-holds in
    (omega (arith, t.size, t.inside), omega (arith, t.size, t.tags_inside), subst Rising (sym t.taken) t.valid.keys_rise, key_there t (key at.After-holds) c.requires.positive (held at.Else-not-holds))

pub overflow_sub-n : goal.overflow_sub-n
overflow_sub-n c =
    let at = goal.at.overflow_sub-n c in
    omega (arith, some_left (told at.After-holds) (key at.After-holds) c.requires.positive (held at.Else-not-holds))

pub rewrite-requires-clause-sized : goal.rewrite-requires-clause-sized
rewrite-requires-clause-sized c =
    let t = told (goal.at.rewrite-requires-clause-sized c).After-holds in
    let k = t.known in (k.some, k.most, k.long, omega (arith, t.size, t.inside), omega (arith, t.size, t.tags_inside))

pub rewrite-requires-clause-valid : goal.rewrite-requires-clause-valid
rewrite-requires-clause-valid c =
    let at = goal.at.rewrite-requires-clause-valid c in
    can_be_written (told at.After-holds) (key at.After-holds) c.requires.positive (held at.Else-not-holds) c.take_out.new.keys c.take_out.new.tags (out at.After-take_out)

pub returns : goal.returns
returns c =
    let at = goal.at.returns c in
    let met =
    leaves_without (told at.After-holds) (key at.After-holds) c.requires.positive (held at.Else-not-holds) c.take_out.new.keys c.take_out.new.tags (out at.After-take_out)
    c.rewrite.new.table c.rewrite.ensures.table_after c.rewrite.ensures.known c.rank_of-rank.result c.rank_of-rank.ensures
    in
    record { result_value = met.0; table_after = met.1.0; known_after = met.1.1 }
