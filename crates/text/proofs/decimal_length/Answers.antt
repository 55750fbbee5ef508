-- `text::decimal_length` meets its contract. Assumes nothing.
use mathlib.Core.Path.{ap, ◌∙◌}
use Prim.Native.Nat.{ℕ, ◌+◌}
use Rattle.text.proofs.Decimal.{decimal_reaches}
use Rattle.text.proofs.decimal_length.Goals as goal

pub returns-clause-value : goal.returns-clause-value
returns-clause-value c =
    let power = c.checked_ilog10 in
    ap (λ (tens : ℕ). tens + 1) c.unwrap_or.ensures ∙ decimal_reaches c.args.n power.result power.ensures.none power.ensures.power_le power.ensures.next_power_gt
