-- `table_examine::read_keys` meets its contract. Assumes nothing.
use mathlib.Core.List.{List}
use mathlib.Core.Path.{ap, ◌∙◌}
use Prim.Native.Nat.{ℕ, ◌≤◌}
use native.Mathlib.Omega.{arith}
use Rattle.lists.specs.Lists.{overwrite, rises_b}
use Rattle.table_decode.specs.Decode.{held_read, contents_read}
use Rattle.table_decode.proofs.SortedInPlace.{Collected, keys_long, tags_long, keys_sorted, tags_sorted}
use Rattle.table_examine.proofs.KeysRead.{keys_shown, number_read, few_read}
use Rattle.table_examine.proofs.read_keys.Goals as goal
use Rattle.table_examine.proofs.read_keys.Goals.{After-collect-n}

abbrev words : After-collect-n → List ℕ
words p = p.args.table.now

few : (p : After-collect-n) → p.collect-n.result ≤ p.args.many
few p = omega (arith, p.collect-n.ensures.value, few_read p.args.many (words p))

collected : (p : After-collect-n) →
    Collected (held_read p.args.many (words p)) p.args.keys.now p.collect-n.new.keys p.args.tags.now p.collect-n.new.tags p.collect-n.result
collected p =
    record {
      keys_are = p.collect-n.ensures.keys_after;
      tags_are = p.collect-n.ensures.tags_after;
      count = p.collect-n.ensures.value;
      room = omega (arith, few p, p.requires.many_fit.0);
      more = omega (arith, few p, p.requires.many_fit.1);
    }

pub sort_keys-requires-clause-n_in_bounds : goal.sort_keys-requires-clause-n_in_bounds
sort_keys-requires-clause-n_in_bounds c =
    let pre = c.requires in
    let had = collected (goal.at.sort_keys-requires-clause-n_in_bounds c).After-collect-n in omega (arith, few (goal.at.sort_keys-requires-clause-n_in_bounds c).After-collect-n, keys_long had, tags_long had, pre.many_in_bounds, pre.many_fit)

pub sort_keys-requires-clause-n_in_bounds_2 : goal.sort_keys-requires-clause-n_in_bounds_2
sort_keys-requires-clause-n_in_bounds_2 c =
    let pre = c.requires in
    let had = collected (goal.at.sort_keys-requires-clause-n_in_bounds_2 c).After-collect-n in omega (arith, few (goal.at.sort_keys-requires-clause-n_in_bounds_2 c).After-collect-n, keys_long had, tags_long had, pre.many_in_bounds, pre.many_fit)

pub sort_keys-requires-clause-n_in_bounds_3 : goal.sort_keys-requires-clause-n_in_bounds_3
sort_keys-requires-clause-n_in_bounds_3 c =
    let pre = c.requires in
    let had = collected (goal.at.sort_keys-requires-clause-n_in_bounds_3 c).After-collect-n in omega (arith, few (goal.at.sort_keys-requires-clause-n_in_bounds_3 c).After-collect-n, keys_long had, tags_long had, pre.many_in_bounds, pre.many_fit)

pub sort_keys-requires-clause-n_in_bounds_4 : goal.sort_keys-requires-clause-n_in_bounds_4
sort_keys-requires-clause-n_in_bounds_4 c =
    let pre = c.requires in
    let had = collected (goal.at.sort_keys-requires-clause-n_in_bounds_4 c).After-collect-n in omega (arith, few (goal.at.sort_keys-requires-clause-n_in_bounds_4 c).After-collect-n, keys_long had, tags_long had, pre.many_in_bounds, pre.many_fit)

pub sort_keys-requires-clause-n_le_most_slots : goal.sort_keys-requires-clause-n_le_most_slots
sort_keys-requires-clause-n_le_most_slots c =
    let pre = c.requires in
    let had = collected (goal.at.sort_keys-requires-clause-n_le_most_slots c).After-collect-n in omega (arith, few (goal.at.sort_keys-requires-clause-n_le_most_slots c).After-collect-n, keys_long had, tags_long had, pre.many_in_bounds, pre.many_fit)

pub returns-clause-keys_after : goal.returns-clause-keys_after
unfolding contents_read
returns-clause-keys_after c =
    let sorted = c.sort_keys in
    let many = c.args.many in
    let had = collected (goal.at.returns-clause-keys_after c).After-collect-n in keys_sorted had sorted.new.keys sorted.ensures.keys_after ∙ ap (overwrite c.args.keys.now 0) (keys_shown many (words (goal.at.returns-clause-keys_after c).After-collect-n))

pub returns-clause-tags_after : goal.returns-clause-tags_after
unfolding contents_read
returns-clause-tags_after c =
    let sorted = c.sort_keys in
    let many = c.args.many in
    let had = collected (goal.at.returns-clause-tags_after c).After-collect-n in λ rises. tags_sorted had sorted.new.tags sorted.ensures.tags_sorted (ap rises_b (keys_shown many (words (goal.at.returns-clause-tags_after c).After-collect-n)) ∙ rises)

pub returns-clause-value : goal.returns-clause-value
unfolding contents_read
returns-clause-value c =
    let sorted = c.sort_keys in
    let many = c.args.many in
    let had = collected (goal.at.returns-clause-value c).After-collect-n in c.collect-n.ensures.value ∙ number_read many (words (goal.at.returns-clause-value c).After-collect-n)
