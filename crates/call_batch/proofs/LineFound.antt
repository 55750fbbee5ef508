-- What the way down to a line's key says of the line: it is the line after those before it, and its new blocks are few. Assumes a sound table
-- and a key that is not zero.
use mathlib.Core.Bool.{true, cond}
use mathlib.Core.List.{List}
use mathlib.Core.Path.{◌≡◌, refl, sym, ap, ◌∙◌}
use Prim.Native.Nat.{ℕ, ◌+◌, ◌≤◌}
use native.Mathlib.Omega.{arith}
use lib.ListN.{length}
use Rattle.std.specs.Prelude.{Option, Some, None}
use Rattle.lists.specs.Lists.{member}
use Rattle.lists.proofs.Tests.{by_test}
use Rattle.lists.proofs.Keep.{length-keep}
use Rattle.treap.specs.Blocks.{blocks}
use Rattle.table.specs.Layout.{most_slots}
use Rattle.table.specs.Table.{contents_of}
use Rattle.table_limits.specs.Lengths.{slots_for}
use Rattle.table_judge.specs.Judge.{is_sound}
use Rattle.table_descend.specs.Lookup.{standing_of, earlier, newly_met, looked_up_after}
use Rattle.table_descend.specs.declared.Looked.{Looked}
use Rattle.table_descend.specs.declared.Standing.{Standing}
use Rattle.table.specs.Contents.{keys_in, priority_in}
use Rattle.call_meaning.specs.Reasons.{shown}
use Rattle.call_meaning.specs.Calls.{rank_in, standing_in, lookup_refusal, lookup_reply}
use Rattle.call_meaning.proofs.Lookups.{lookup_accepted}
use Rattle.call_batch.specs.Batch.{held_by, rank_by}
use Rattle.call_batch.specs.Answering.{line_after}
use Rattle.call_batch.specs.declared.Progress.{Progress}
use Rattle.call_batch.proofs.Counting.{blocks_most}

-- The line that is made of a standing and a number of new blocks.
abbrev pub line_from : Progress → ℕ → Option Standing → ℕ → Progress
line_from so key (Some s) n = record { key = key; held = 1; rank = s.rank; before = so.key; blocks = so.blocks + n }
line_from so key None n = record { key = key; held = 0; rank = 0; before = so.key; blocks = so.blocks + n }

module _ (words : List ℕ) (sound : is_sound words ≡ true) (key : ℕ) (positive : 1 ≤ key) where
  accepted : lookup_refusal words key ≡ 0
  accepted = lookup_accepted words sound key (λ e. omega arith)

  held_is : held_by words key ≡ cond (member key (keys_in (shown words))) 1 0
  unfolding held_by lookup_reply standing_in
  held_is = rw accepted (by_test (member key (keys_in (shown words))) (λ e. rw e refl) (λ e. rw e refl))

  rank_is : rank_by words key ≡ cond (member key (keys_in (shown words))) (rank_in (shown words) key) 0
  unfolding rank_by lookup_reply standing_in
  rank_is = rw accepted (by_test (member key (keys_in (shown words))) (λ e. rw e refl) (λ e. rw e refl))

  module _ (so : Progress) (many : ℕ) (here : many ≡ slots_for (length words)) (found : Looked) (told : found ≡ looked_up_after (contents_of many words) (earlier so.key so.before) key) where
    in_shown : found ≡ looked_up_after (shown words) (earlier so.key so.before) key
    unfolding shown
    in_shown = told ∙ ap (λ (n : ℕ). looked_up_after (contents_of n words) (earlier so.key so.before) key) here

    pub line_found : (standing : Option Standing) → found.standing ≡ standing → line_from so key standing found.blocks ≡ line_after words so key
    unfolding line_after looked_up_after standing_of rank_in
    line_found standing e =
        ap (λ (s : Option Standing). line_from so key s found.blocks) (sym e)
        ∙ ap (λ (l : Looked). line_from so key l.standing l.blocks) in_shown
        ∙ by_test (member key (keys_in (shown words))) (λ e. rw (held_is, rank_is, e) refl) (λ e. rw (held_is, rank_is, e) refl)

    pub few_found : found.blocks ≤ most_slots
    unfolding looked_up_after newly_met
    few_found =
        let c = shown words in
        let all : found.blocks ≡ newly_met c (earlier so.key so.before) key = ap (λ (l : Looked). l.blocks) in_shown in
        let few : newly_met c (earlier so.key so.before) key ≤ length (blocks c.order (priority_in c) (keys_in c)) = length-keep _ (blocks c.order (priority_in c) (keys_in c)) in
        omega (arith, blocks_most words sound)
