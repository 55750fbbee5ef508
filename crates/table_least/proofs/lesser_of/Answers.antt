-- `table_least::lesser_of` meets its contract. Assumes nothing.
use mathlib.Core.Bool.{false}
use mathlib.Core.Logic.{◌⊎◌, inl, inr}
use mathlib.Core.Path.{◌≡◌, sym, ◌∙◌}
use Rattle.lists.specs.Lists.{lies}
use Rattle.table_least.proofs.Least.{left_out, first_found_key, lesser_found}
use Rattle.table_least.proofs.lesser_of.Goals as goal
use Rattle.table_least.proofs.lesser_of.Goals.{then-key-eq0-via-then-key-eq0, then-key-eq0-via-else-key-eq0+then-not-is_within}

pub returns-then-key-eq0 : goal.returns-then-key-eq0
returns-then-key-eq0 c =
    let args = c.args in
    let out : (args.key ≡ 0) ⊎ (lies args.low args.high args.key ≡ false) =
    elim c.then-key-eq0.branch [
      | then-key-eq0-via-then-key-eq0 w ↦ inl w.if-key-eq0.true
      | then-key-eq0-via-else-key-eq0+then-not-is_within w ↦ inr (sym w.is_within.ensures ∙ w.if-not-is_within.true)
    ]
    in
    λ n. left_out args.low args.high n args.key args.least out

pub returns-in-Some : goal.returns-in-Some
returns-in-Some c =
    let args = c.args in
    λ n. lesser_found args.low args.high n args.key c.if-key-eq0.false (sym c.is_within.ensures ∙ c.if-not-is_within.false)
    args.least c.in-Some.other c.min.result c.in-Some.is c.min.ensures

pub returns-in-None : goal.returns-in-None
returns-in-None c =
    let args = c.args in
    λ n. first_found_key args.low args.high n args.key c.if-key-eq0.false (sym c.is_within.ensures ∙ c.if-not-is_within.false) args.least c.in-None.is
