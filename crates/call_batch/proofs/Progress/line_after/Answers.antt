-- `call_batch::Progress::line_after` meets its contract. Assumes nothing.
use mathlib.Core.Bool.{true}
use mathlib.Core.Path.{◌≡◌, sym, subst}
use Prim.Native.Nat.{ℕ}
use native.Mathlib.Omega.{arith}
use lib.ListN.{length}
use Rattle.std.specs.Prelude.{Some, None}
use Rattle.table.specs.Sound.{sound_with}
use Rattle.table_limits.proofs.Lengths.{slots_for_some}
use Rattle.table_judge.proofs.Decides.{some_slots, passed_with}
use Rattle.call_batch.proofs.LineFound.{line_found, few_found}
use Rattle.call_batch.proofs.Progress.line_after.Goals as goal

pub look_up_after-looked-requires-clause-judged : goal.look_up_after-looked-requires-clause-judged
look_up_after-looked-requires-clause-judged c =
    let words = c.args.table.now in
    let pre = c.requires in
    let right = slots_for_some (length words) (some_slots words pre.0) in (
      omega (arith, pre.1, right.some),
      omega (arith, pre.1, right.within),
      omega (arith, pre.1, right.long),
      subst (λ (n : ℕ). sound_with n words ≡ true) (sym pre.1) (passed_with words pre.0),
    )

pub overflow_add-absent : goal.overflow_add-absent
overflow_add-absent c =
    let args = c.args in
    omega (
      arith,
      c.requires.2.few,
      few_found args.table.now c.requires.0 args.key (omega (arith, c.requires.2.above)) args.self args.many c.requires.1 c.look_up_after-looked.result c.look_up_after-looked.ensures,
    )

pub returns-in-Some : goal.returns-in-Some
returns-in-Some c =
    let args = c.args in
    line_found args.table.now c.requires.0 args.key (omega (arith, c.requires.2.above)) args.self args.many c.requires.1 c.look_up_after-looked.result c.look_up_after-looked.ensures
    (Some c.in-Some.standing) c.in-Some.is

pub returns-in-None : goal.returns-in-None
returns-in-None c =
    let args = c.args in
    line_found args.table.now c.requires.0 args.key (omega (arith, c.requires.2.above)) args.self args.many c.requires.1 c.look_up_after-looked.result c.look_up_after-looked.ensures
    None c.in-None.is
