-- `text::put_spaces` meets its contract. Assumes nothing.
use mathlib.Core.Path.{sym, ap, ◌∙◌}
use Prim.Native.Nat.{◌+◌, ◌-◌}
use native.Mathlib.Omega.{arith}
use lib.ListN.{drop, length-drop}
use lib.Seq.{length-take-le}
use Rattle.text.specs.Columns.{spaces}
use Rattle.text.proofs.Columns.{spaces_length}
use Rattle.text.proofs.Pieces.{written_part}
use Rattle.text.proofs.put_spaces.Goals as goal

pub returns : goal.returns
returns c =
    let args = c.args in
    let part = drop args.at args.output.now in
    written_part _ _ (spaces args.many) _ _ (sym (spaces_length args.many))
    (c.fill.ensures.after (λ y e. e) ∙ ap spaces (length-take-le (args.at + args.many - args.at) part (omega (arith, length-drop args.at args.output.now)) ∙ omega arith))
