-- `text::put_decimal` meets its contract. Assumes nothing.
use mathlib.Core.List.{List}
use mathlib.Core.Path.{sym, ap, subst, ◌∙◌}
use Prim.Native.Nat.{ℕ}
use Rattle.text.specs.Digits.{digits}
use Rattle.text.specs.Written.{Written}
use Rattle.text.proofs.Decimal.{decimal_digits}
use Rattle.text.proofs.put_decimal.Goals as goal

pub returns : goal.returns
returns c =
    let call = c.put_digits in
    let counted = c.decimal_length in
    let args = c.args in
    subst (λ (text : List ℕ). Written args.output.now args.at text call.new.output call.result)
    (ap (λ (many : ℕ). digits 10 many args.n) counted.ensures.value ∙ sym (decimal_digits args.n))
    call.ensures
