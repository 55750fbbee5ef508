-- `call_pages::print` meets its contract: what is prepared tells how the keys stand. Assumes nothing.
use mathlib.Core.List.{List}
use mathlib.Core.Path.{sym, ap, subst}
use Prim.Native.Nat.{ℕ}
use native.Mathlib.Omega.{arith}
use lib.ListN.{length, take}
use Rattle.treap_columns.specs.Lent.{lists_of}
use Rattle.table_encode.proofs.Standings.{StandingsOf}
use Rattle.table_encode.proofs.Linking.{standings}
use Rattle.text.specs.Written.{Written}
use Rattle.call_pages.proofs.Printing.{lists_printable, text_shown}
use Rattle.call_pages.proofs.print.Goals as goal
use Rattle.call_pages.proofs.print.Goals.{After-lent}

stands : (p : After-lent) → StandingsOf p.args.order p.args.salt p.args.keys.now (lists_of p.lent.result)
stands p =
    let keys = p.requires.keys.0 in
    let made = p.prepare.new.self in
    subst (StandingsOf p.args.order p.args.salt p.args.keys.now) (sym p.lent.ensures)
    (standings p.args.order p.args.salt keys.wide p.args.keys.now made.columns (take p.args.many made.slots) p.prepare.result p.prepare.ensures.prepared keys.rising keys.some)

pub write-requires-clause-room : goal.write-requires-clause-room
write-requires-clause-room c =
    omega (arith, ap length (text_shown c.args.order c.args.salt c.requires.keys.0 c.requires.keys.1 (stands (goal.at.write-requires-clause-room c).After-lent)), c.requires.keys.2)

pub write-requires-clause-printable : goal.write-requires-clause-printable
write-requires-clause-printable c =
    lists_printable c.args.order c.args.salt c.requires.keys.0 c.requires.keys.1 (stands (goal.at.write-requires-clause-printable c).After-lent)

pub returns : goal.returns
returns c =
    let call = c.write in
    subst (λ (text : List ℕ). Written c.args.output.now 0 text call.new.output call.result)
    (sym (text_shown c.args.order c.args.salt c.requires.keys.0 c.requires.keys.1 (stands (goal.at.returns c).After-lent))) call.ensures
