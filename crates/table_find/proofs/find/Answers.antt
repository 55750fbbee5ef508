-- `table_find::find` meets its contract: the search is its two scans. Assumes nothing.
use mathlib.Core.Path.{◌≡◌, sym, ap, ◌∙◌, subst}
use Prim.Native.Nat.{ℕ, ◌<◌}
use Rattle.std.specs.Prelude.{Option, Some, None}
use Rattle.std.specs.Option.{MatchOption}
use Rattle.std.proofs.Common.{rules}
use Rattle.priority.proofs.Bounds.{home_of_below}
use Rattle.table_find.specs.Find.{scanned}
use Rattle.table_find.proofs.Scanning.{or_else, search_is_two_scans}
use Rattle.table_find.proofs.find.Goals as goal

-- What a scan gave, or else what the second one, of which a fact is known, gives.
joined : (first other result : Option ℕ) (P : Type 0) → MatchOption first P (λ slot. result ≡ Some slot) → (P → result ≡ other) → result ≡ or_else first other
joined (Some slot) other result P told second = told
joined None other result P told second = second told

pub returns : goal.returns
returns c =
    let args = c.args in
    let home = c.home.result in
    let within : home < args.many = subst (λ (n : ℕ). n < args.many) (sym c.home.ensures) (home_of_below _ c.requires.0) in
    joined c.scan.result (scanned args.table.now 0 home args.key) c.or_else.result _ c.or_else.ensures (λ told. search rules)
    ∙ ap (λ (r : Option ℕ). or_else r (scanned args.table.now 0 home args.key)) c.scan.ensures
    ∙ sym (search_is_two_scans args.many args.table.now args.key args.priority home within c.home.ensures)
