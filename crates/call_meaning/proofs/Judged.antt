-- What a table of a right length tells a call: how many slots it has, whether it is sound, and what it shows. Assumes nothing.
use mathlib.Core.Bool.{Bool, false}
use mathlib.Core.List.{List}
use mathlib.Core.Path.{◌≡◌, ap, ◌∙◌}
use Prim.Native.Nat.{ℕ, ◌<◌, ◌≤◌}
use native.Mathlib.Omega.{arith}
use lib.Dec.{eqb}
use lib.ListN.{length}
use borrow.Author.Tests.{ne_eqb}
use Rattle.lists.specs.Lists.{member}
use Rattle.table.specs.Layout.{most_slots, table_words}
use Rattle.table.specs.Contents.{Contents, keys_in}
use Rattle.table.specs.Table.{contents_of}
use Rattle.table.specs.Sound.{sound_with}
use Rattle.table_limits.specs.Lengths.{slots_for}
use Rattle.table_judge.specs.Judge.{is_sound}
use Rattle.table_limits.proofs.Lengths.{slots_for_is}
use Rattle.table_judge.proofs.Decides.{decided_with}
use Rattle.call_meaning.specs.Reasons.{shown}

module _ (words : List ℕ) (many : ℕ) (some : 0 < many) (most : many ≤ most_slots) (long : length words ≡ table_words many) where
  pub slots_here : slots_for (length words) ≡ many
  slots_here = slots_for_is (length words) many some most long

  pub right_length : eqb (slots_for (length words)) 0 ≡ false
  right_length = ne_eqb (slots_for (length words)) 0 (λ e. let h = slots_here in omega arith)

  pub judged : (b : Bool) → sound_with many words ≡ b → is_sound words ≡ b
  judged b e = decided_with words many slots_here (λ q. omega arith) ∙ e

  pub shown_is : shown words ≡ contents_of many words
  unfolding shown
  shown_is = ap (λ (n : ℕ). contents_of n words) slots_here

  pub member_shown : (key : ℕ) (b : Bool) → member key (keys_in (contents_of many words)) ≡ b → member key (keys_in (shown words)) ≡ b
  member_shown key b e = ap (λ (c : Contents). member key (keys_in c)) shown_is ∙ e
