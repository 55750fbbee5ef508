-- `image_programs::put_pages` meets its contract: where there is room, the pages of a sound table are not refused. Assumes nothing.
use mathlib.Core.Path.{◌≡◌, refl, sym, subst}
use Prim.Native.Nat.{ℕ}
use lib.ListN.{length}
use Rattle.std.specs.Prelude.{IsOk, Result, Ok}
use Rattle.call_replies.specs.declared.Refusal.{Refusal}
use Rattle.text.specs.Written.{Written}
use Rattle.text_pages.specs.Pages.{pages_of}
use Rattle.call_meaning.specs.Reasons.{shown}
use Rattle.image_programs.proofs.Printing.{pages_given, pages_written}
use Rattle.image_programs.proofs.put_pages.Goals as goal
use Rattle.image_programs.proofs.put_pages.Goals.{After-pages}

given : (c : After-pages) → c.pages.result ≡ Ok (length (pages_of (shown c.args.table.now)))
given c = pages_given c.args.table.now c.args.output.now c.requires.0 c.requires.1 c.pages.result c.pages.ensures.reply_value

pub unwrap-requires : goal.unwrap-requires
unwrap-requires c = subst (λ (r : Result ℕ Refusal). IsOk r) (sym (given (goal.at.unwrap-requires c).After-pages)) refl

pub returns : goal.returns
returns c =
    let pages = pages_of (shown c.args.table.now) in
    let given_here = given (goal.at.returns c).After-pages in
    let long : length pages ≡ c.unwrap.result = cc in
    subst (λ (n : ℕ). Written c.args.output.now 0 pages c.pages.new.output n) long
    (pages_written c.args.table.now c.args.output.now c.requires.0 c.requires.1 c.pages.new.output c.pages.ensures.output_after)
