-- `call_insert::insert_known` meets its contract. Assumes nothing.
use mathlib.Core.Bool.{false}
use mathlib.Core.List.{List}
use mathlib.Core.Path.{◌≡◌, sym, ◌∙◌, subst}
use Prim.Native.Nat.{ℕ, ◌<◌}
use native.Mathlib.Omega.{arith}
use lib.ListN.{length, get_or}
use Rattle.lists.specs.Lists.{Rising, member}
use Rattle.table.specs.Layout.{size_word}
use Rattle.table.specs.Contents.{keys_in, IsKey}
use Rattle.table.specs.Table.{contents_of}
use Rattle.call_changes.specs.Known.{RoomFor}
use Rattle.call_changes.proofs.Knowing.{Facts, facts}
use Rattle.call_changes.proofs.Editing.{Put}
use Rattle.call_insert.proofs.Inserting.{leaves_held, leaves_full, fits, can_be_written, then_held, same_priority, leaves_joined}
use Rattle.call_insert.proofs.insert_known.Goals as goal
use Rattle.call_insert.proofs.insert_known.Goals.{After-holds, After-put_in, Else-holds, Else-n-many}

-- the key and its tag, and what is known of the table
abbrev key : After-holds → ℕ
key p = p.args.key

abbrev tag : After-holds → ℕ
tag p = p.args.tag

told : (p : After-holds) → Facts p.args.many p.args.table.now p.args.keys.now p.args.tags.now
told p = facts _ _ _ _ p.requires.known (λ i. omega (arith, p.slice_known-1.given i))

right : (p : After-holds) → IsKey (key p)
right p = (p.requires.insertable.0, omega (arith, p.ranges.key))

-- past the first test the key is absent, past the second there is room for it
absent : (p : Else-holds) → member p.args.key (keys_in (contents_of p.args.many p.args.table.now)) ≡ false
absent p = sym p.holds.ensures ∙ p.if-holds.false

fitting : (p : Else-n-many) (list : List ℕ) → RoomFor p.args.key p.args.many p.args.table.now list → get_or p.args.table.now size_word 0 < length list
fitting p list room =
    let at = goal.at.Else-n-many p in
    fits (told at.After-holds) (key at.After-holds) (tag at.After-holds) (right at.After-holds) p.requires.insertable.1 (absent at.Else-holds) p.if-n-many.false list room

put : (p : After-put_in) → Put (told (goal.at.After-put_in p).After-holds) p.args.key p.args.tag p.put_in.new.keys p.put_in.new.tags
put p = record { keys_put = p.put_in.ensures.keys_after; tags_put = p.put_in.ensures.tags_after }

pub returns-then-holds : goal.returns-then-holds
returns-then-holds c =
    let p = (goal.at.returns-then-holds c).After-holds in
    let met = leaves_held (told p) (key p) (tag p) (right p) c.requires.insertable.1 (sym c.holds.ensures ∙ c.if-holds.true) in
    record { result_value = met.0; table_after = met.1.0; known_after = met.1.1 }

pub returns-then-n-many : goal.returns-then-n-many
returns-then-n-many c =
    let at = goal.at.returns-then-n-many c in
    let p = at.After-holds in
    let met = leaves_full (told p) (key p) (tag p) (right p) c.requires.insertable.1 (absent at.Else-holds) c.if-n-many.true in
    record { result_value = met.0; table_after = met.1.0; known_after = met.1.1 }

pub put_in-requires : goal.put_in-requires
put_in-requires c =
    let at = goal.at.put_in-requires c in
    let t = told at.After-holds in
    (fitting at.Else-n-many c.args.keys.now c.requires.insertable.2, fitting at.Else-n-many c.args.tags.now c.requires.insertable.3, subst Rising (sym t.taken) t.valid.keys_rise)

pub overflow_add-n : goal.overflow_add-n
overflow_add-n c =
    let t = told (goal.at.overflow_add-n c).After-holds in
    omega (arith, t.size, t.valid.keys_fit, t.known.most)

pub rewrite-requires-clause-sized : goal.rewrite-requires-clause-sized
rewrite-requires-clause-sized c =
    let at = goal.at.rewrite-requires-clause-sized c in
    let k = (told at.After-holds).known in (
      k.some,
      k.most,
      k.long,
      omega (arith, fitting at.Else-n-many c.args.keys.now c.requires.insertable.2, c.keys-1.given),
      omega (arith, fitting at.Else-n-many c.args.tags.now c.requires.insertable.3, c.tags-1.given),
    )

pub rewrite-requires-clause-valid : goal.rewrite-requires-clause-valid
rewrite-requires-clause-valid c =
    let at = goal.at.rewrite-requires-clause-valid c in
    let p = at.After-holds in
    can_be_written (told p) (key p) (tag p) (right p) c.requires.insertable.1 (absent at.Else-holds) c.if-n-many.false c.put_in.new.keys c.put_in.new.tags (put at.After-put_in)

pub rank_of-requires : goal.rank_of-requires
rank_of-requires c =
    let at = goal.at.rank_of-requires c in
    let p = at.After-holds in
    let k = c.rewrite.ensures.known in (
      k.some,
      k.most,
      k.long,
      k.sound,
      then_held (told p) (key p) (tag p) (right p) c.requires.insertable.1 (absent at.Else-holds) c.if-n-many.false c.put_in.new.keys c.put_in.new.tags (put at.After-put_in) c.rewrite.new.table c.rewrite.ensures.table_after,
      same_priority (told p) (key p) (tag p) (right p) c.requires.insertable.1 (absent at.Else-holds) c.if-n-many.false c.put_in.new.keys c.put_in.new.tags (put at.After-put_in) c.rewrite.new.table c.rewrite.ensures.table_after _ c.priority_of-priority.ensures,
    )

pub returns : goal.returns
returns c =
    let at = goal.at.returns c in
    let p = at.After-holds in
    let met =
    leaves_joined (told p) (key p) (tag p) (right p) c.requires.insertable.1 (absent at.Else-holds) c.if-n-many.false c.put_in.new.keys c.put_in.new.tags (put at.After-put_in)
    c.rewrite.new.table c.rewrite.ensures.table_after c.rewrite.ensures.known c.rank_of.result c.rank_of.ensures
    in
    record { result_value = met.0; table_after = met.1.0; known_after = met.1.1 }
