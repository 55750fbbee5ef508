-- `image_programs::put_text` meets its contract. Assumes nothing.
use mathlib.Core.List.{List}
use mathlib.Core.Path.{sym, ap, ◌∙◌, subst}
use Prim.Native.Nat.{ℕ}
use native.Mathlib.Omega.{arith}
use Rattle.text.specs.Written.{Written}
use Rattle.image_programs.specs.Printed.{text_as}
use Rattle.image_programs.specs.declared.Kind.{Kind}
use Rattle.image_programs.proofs.Printing.{table_sound, pages_read, pages_fit}
use Rattle.image_programs.proofs.put_text.Goals as goal

pub put_pages-requires : goal.put_pages-requires
put_pages-requires c =
    let read = c.requires.0 in
    (table_sound read, omega (arith, pages_fit read, c.requires.1))

pub returns-in-Pages : goal.returns-in-Pages
returns-in-Pages c =
    let call = c.put_pages in
    subst (λ (text : List ℕ). Written c.args.output.now 0 text call.new.output call.result)
    (pages_read c.requires.0 ∙ ap (λ (kind : Kind). text_as kind c.args.image.now) (sym c.in-Pages.is))
    call.ensures
