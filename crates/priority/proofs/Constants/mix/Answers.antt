-- `priority::Constants::mix` meets its contract. The loop's invariant: `rest` is `number` without the bytes passed, and `joined`
-- the exclusive or of their terms. Assumes nothing.
use mathlib.Core.Path.{◌∙◌, ap, refl}
use native.Mathlib.Nat.{div-one}
use native.Mathlib.Omega.{arith}
use borrow.Author.Rules.{rules}
use Rattle.priority.specs.Priority.{xor_of_terms, priority_of}
use Rattle.priority.proofs.Terms.{rest_next, xor_of_terms_next}
use Rattle.priority.proofs.Constants.mix.Goals as goal

pub loop-position-init : goal.loop-position-init
unfolding xor_of_terms
loop-position-init c = (search rules, rw div-one, refl)

pub loop-position-preserved : goal.loop-position-preserved
loop-position-preserved c =
    let inv = c.loop-position.invariant in
    (search rules, rest_next _ _ _ inv.1, rw inv.2 (xor_of_terms_next _ _ _ inv.1 _ c.args.self.now.right (search rules)))

pub returns : goal.returns
unfolding priority_of
returns c = c.loop-position.invariant.2 ∙ ap (xor_of_terms _) (omega arith)
