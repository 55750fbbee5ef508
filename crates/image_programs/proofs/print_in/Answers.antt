-- `image_programs::print_in` meets its contract. Assumes nothing.
use mathlib.Core.List.{List}
use mathlib.Core.Path.{◌≡◌, sym, ap, ◌∙◌, subst}
use Prim.Native.Nat.{ℕ}
use Rattle.text.specs.Written.{Written}
use native.Mathlib.Omega.{arith}
use Rattle.call_replies.proofs.Refusals.{numbered}
use Rattle.image_programs.specs.Printed.{refused_text}
use Rattle.image_programs.proofs.Printing.{too_long, refused, accepted}
use Rattle.image_programs.proofs.print_in.Goals as goal

-- another text for one that is written
reworded : {before after : List ℕ} {end : ℕ} (text other : List ℕ) → text ≡ other → Written before 0 text after end → Written before 0 other after end
reworded {before} {after} {end} text other e w = subst (λ (t : List ℕ). Written before 0 t after end) e w

pub returns-then-image-gt-PROGRAM_BYTES : goal.returns-then-image-gt-PROGRAM_BYTES
returns-then-image-gt-PROGRAM_BYTES c = reworded _ _ (too_long c.args.kind c.args.image.now c.if-image-gt-PROGRAM_BYTES.true) c.put_bytes.ensures

pub returns-in-Ok : goal.returns-in-Ok
returns-in-Ok c = reworded _ _ (accepted c.args.kind c.args.image.now c.if-image-gt-PROGRAM_BYTES.false (sym c.in-Ok.ensures.refusal)) c.put_text.ensures

pub returns-in-Err : goal.returns-in-Err
returns-in-Err c =
    let number = c.in-Err.ensures.refusal in
    reworded _ _
    (ap refused_text (c.number.ensures ∙ number)
    ∙ refused c.args.kind c.args.image.now c.if-image-gt-PROGRAM_BYTES.false (λ e. omega (arith, numbered c.in-Err.refusal, number, e)))
    c.put_refused.ensures
