-- `measure::are_measures` meets its contract. Assumes nothing.
use Rattle.std.proofs.Common.{ℕ, suc, ◌≡◌, Bool, true, false, ◌&&◌, List, sym, ap, ◌∙◌, add-one, get_or, drop, rules, pos, w32}
use lib.IntN.{ℤ}
use mir.Val.{SFits}
use Rattle.lists.specs.Lists.{every}
use Rattle.measure.specs.Measure.{Measure, is_measure, measures_beside}
use Rattle.measure.proofs.Corrections.{handed_on}
use Rattle.measure.proofs.Beside.{entry, beside_next, beside_end}
use Rattle.measure.proofs.are_measures.Goals as goal
use Rattle.measure.proofs.are_measures.Goals.{After-is_measure}

-- a turn: the measure that it tests, and what is left
module _ (c : After-is_measure) where
  abbrev at : ℕ
  at = c.loop-i.i

  abbrev lengths : List ℕ
  lengths = c.args.lengths.now

  abbrev corrections : List ℤ
  corrections = c.args.corrections.now

  abbrev measures : List Measure
  measures = measures_beside lengths corrections

  next : every is_measure (drop at measures) ≡ (is_measure (entry lengths corrections at) && every is_measure (drop (suc at) measures))
  next = beside_next lengths corrections c.requires at c.loop-i-test.true

  fits : SFits w32 (get_or corrections at (pos 0))
  fits = search rules

  told : (t : Bool) → c.is_measure.result ≡ t → is_measure (entry lengths corrections at) ≡ t
  told t e =
      ap is_measure (sym (handed_on (get_or lengths at 0) (get_or corrections at (pos 0)) fits))
      ∙ sym c.is_measure.ensures
      ∙ e

pub returns-then-not-is_measure : goal.returns-then-not-is_measure
returns-then-not-is_measure c =
    let turn = (goal.at.returns-then-not-is_measure c).After-is_measure in
    sym (sym c.loop-i.invariant ∙ next turn ∙ rw (told turn false (c.if-not-is_measure.true)))

pub loop-i-preserved : goal.loop-i-preserved
loop-i-preserved c =
    let turn = (goal.at.loop-i-preserved c).After-is_measure in
    ap (λ (n : ℕ). every is_measure (drop n (measures turn))) (add-one c.loop-i.i)
    ∙ sym (next turn ∙ rw (told turn true (c.if-not-is_measure.false)))
    ∙ c.loop-i.invariant

pub returns : goal.returns
returns c =
    sym (sym c.loop-i.invariant ∙ beside_end c.args.lengths.now c.args.corrections.now c.requires c.loop-i.i c.loop-i-test.false)
