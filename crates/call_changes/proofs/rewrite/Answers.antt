-- `call_changes::rewrite` meets its contract. Assumes nothing.
use mathlib.Core.List.{List}
use mathlib.Core.Path.{◌≡◌, sym, ap, ◌∙◌, subst}
use Prim.Native.Nat.{ℕ, ◌≤◌}
use lib.ListN.{length, take}
use lib.Seq.{length-take-le}
use Rattle.table.specs.Contents.{Contents, keys_in}
use Rattle.table.specs.Tags.{entries_tagged}
use Rattle.table.specs.Table.{contents_of}
use Rattle.table.proofs.Tagged.{tagged_keys, tagged_tags}
use Rattle.table_prepare.specs.Prepared.{Keys}
use Rattle.table_prepare.proofs.Writable.{valid_keys}
use Rattle.call_changes.specs.Known.{with_entries}
use Rattle.call_changes.proofs.Knowing.{known_again}
use Rattle.call_changes.proofs.rewrite.Goals as goal
use Rattle.call_changes.proofs.rewrite.Goals.{Start}

-- What the table is written of, and its keys.
abbrev kept_keys : Start → List ℕ
kept_keys p = take p.args.n p.args.keys.now

abbrev kept_tags : Start → List ℕ
kept_tags p = take p.args.n p.args.tags.now

abbrev target : Start → Contents
target p = with_entries p.args.many p.args.table.now (entries_tagged (kept_keys p) (kept_tags p))

keys_are : (p : Start) → keys_in (target p) ≡ kept_keys p
keys_are p = tagged_keys (kept_keys p) (kept_tags p)

pub write-requires-clause-keys : goal.write-requires-clause-keys
unfolding contents_of
write-requires-clause-keys c =
    let start = (goal.at.write-requires-clause-keys c).Start in
    (subst (Keys _) (keys_are start) (valid_keys c.args.many (target start) c.requires.sized.1 c.requires.valid.0), c.requires.valid.1)

pub write-requires-clause-many_in_range : goal.write-requires-clause-many_in_range
unfolding contents_of
write-requires-clause-many_in_range c =
    let start = (goal.at.write-requires-clause-many_in_range c).Start in
    let (some, most, long, fits, more) = c.requires.sized in
    (some, subst (λ (ks : List ℕ). length ks ≤ c.args.many) (keys_are start) c.requires.valid.0.keys_fit, long, most)

pub returns-clause-known : goal.returns-clause-known
unfolding contents_of
returns-clause-known c =
    let start = (goal.at.returns-clause-known c).Start in
    let args = c.args in
    let pre = c.requires in
    let done = c.write in
    let same_size : length (keys_in (target start)) ≡ args.n = ap length (keys_are start) ∙ length-take-le args.n args.keys.now pre.sized.3 in
    known_again args.many done.new.table args.keys.now args.tags.now (target start) pre.sized.0 pre.sized.1 pre.valid.0 done.ensures
    (ap (λ (n : ℕ). take n args.keys.now) same_size ∙ sym (keys_are start))
    (ap (λ (n : ℕ). take n args.tags.now) same_size ∙ sym (tagged_tags (kept_keys start) (kept_tags start) pre.valid.1))

pub returns-clause-table_after : goal.returns-clause-table_after
unfolding contents_of
returns-clause-table_after c = c.write.ensures
