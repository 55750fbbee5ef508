-- What the reply of a lookup tells of blocks. Assumes that the table is judged sound.
use mathlib.Core.Bool.{true}
use mathlib.Core.List.{List}
use mathlib.Core.Logic.{◌≢◌}
use mathlib.Core.Path.{◌≡◌, refl}
use Prim.Native.Nat.{ℕ}
use lib.ListN.{length}
use borrow.Author.Tests.{eq-eqb, ne_eqb}
use Rattle.lists.specs.Lists.{member}
use Rattle.lists.proofs.Tests.{by_test}
use Rattle.treap.specs.Blocks.{blocks_met}
use Rattle.table.specs.Contents.{keys_in, priority_in}
use Rattle.table_limits.specs.Lengths.{slots_for}
use Rattle.table_judge.specs.Judge.{is_sound}
use Rattle.table_judge.proofs.Decides.{some_slots}
use Rattle.call_meaning.specs.Reasons.{wrong_length, zero_key, not_sound, shown}
use Rattle.call_meaning.specs.Calls.{standing_in, lookup_refusal, lookup_reply, blocks_told}
use Rattle.call_meaning.proofs.Lookups.{lookup_accepted}

module _ (words : List ℕ) (sound : is_sound words ≡ true) (key : ℕ) where
  pub any_accepted : key ≢ 0 → (lookup_reply words key).refusal ≡ 0
  unfolding lookup_reply
  any_accepted positive = lookup_accepted words sound key positive

  pub told_met : key ≢ 0 → blocks_told (lookup_reply words key) ≡ blocks_met (shown words).order (priority_in (shown words)) (keys_in (shown words)) key
  unfolding lookup_reply standing_in blocks_told
  told_met positive =
      rw (lookup_accepted words sound key positive)
      (by_test (member key (keys_in (shown words))) (λ e. rw e refl) (λ e. rw e refl))

  -- a refused lookup tells of none
  pub told_none : key ≡ 0 → blocks_told (lookup_reply words key) ≡ 0
  unfolding lookup_reply lookup_refusal wrong_length zero_key not_sound blocks_told
  told_none e = rw (ne_eqb (slots_for (length words)) 0 (some_slots words sound), eq-eqb key 0 e) refl
