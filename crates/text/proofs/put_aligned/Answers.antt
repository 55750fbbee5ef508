-- `text::put_aligned` meets its contract: spaces are written, then the number's digits. Assumes nothing.
use mathlib.Core.List.{List, ◌++◌}
use mathlib.Core.Path.{sym, subst}
use Prim.Native.Nat.{ℕ, ◌+◌, ◌-◌, ◌≤◌}
use native.Mathlib.Omega.{arith}
use lib.ListN.{length}
use Rattle.text.specs.Digits.{decimal}
use Rattle.text.specs.Columns.{spaces, right_aligned}
use Rattle.text.proofs.Columns.{aligned_length}
use Rattle.text.proofs.Ongoing.{Ongoing, ongoing_none, ongoing_next, ongoing_last}
use Rattle.text.proofs.put_aligned.Goals as goal
use Rattle.text.proofs.put_aligned.Goals.{After-decimal_length, After-put_spaces-start, Start}

module _ (start : Start) where
  abbrev number : List ℕ
  number = decimal start.args.n

  room : start.args.at + length (right_aligned start.args.width number) ≤ length start.args.output.now
  room = omega (arith, start.requires.1, aligned_length start.args.width number start.requires.0)

  -- What of the column is still to be written, where and into what.
  abbrev Left : List ℕ → List ℕ → ℕ → Type 0
  Left = Ongoing start.args.output.now start.args.at (right_aligned start.args.width number)

-- The spaces, by the length that was counted.
abbrev blank : After-decimal_length → List ℕ
blank c = spaces (c.args.width - c.decimal_length.result)

at_first : (c : After-decimal_length) → Left (goal.at.After-decimal_length c).Start (blank c ++ number (goal.at.After-decimal_length c).Start) c.args.output.now c.args.at
unfolding right_aligned
at_first c =
    subst (λ (long : ℕ). Left (goal.at.After-decimal_length c).Start (spaces (c.args.width - long) ++ number (goal.at.After-decimal_length c).Start) c.args.output.now c.args.at) (sym c.decimal_length.ensures.value) (ongoing_none _ _ _)

aligned : (c : After-put_spaces-start) → Left (goal.at.After-put_spaces-start c).Start (number (goal.at.After-put_spaces-start c).Start) c.put_spaces-start.new.output c.put_spaces-start.result
aligned c = ongoing_next (room (goal.at.After-put_spaces-start c).Start) (blank (goal.at.After-put_spaces-start c).After-decimal_length) (number (goal.at.After-put_spaces-start c).Start) (at_first (goal.at.After-put_spaces-start c).After-decimal_length) c.put_spaces-start.ensures

pub returns : goal.returns
returns c = ongoing_last (room (goal.at.returns c).Start) (number (goal.at.returns c).Start) (aligned (goal.at.returns c).After-put_spaces-start) c.put_decimal.ensures
