-- `call_changes::know` meets its contract. Assumes nothing.
use mathlib.Core.Path.{sym, ap, ◌∙◌}
use Rattle.table_examine.proofs.Verdicts.{told_false}
use Rattle.table_examine.proofs.Examined.{Examined, examined}
use Rattle.call_changes.specs.Known.{sound_or_refused}
use Rattle.call_changes.proofs.Knowing.{known_examined}
use Rattle.call_changes.proofs.know.Goals as goal

pub returns-in-Some : goal.returns-in-Some
returns-in-Some c =
    let args = c.args in
    let keys = c.examine.new.keys in
    let tags = c.examine.new.tags in
    let n = c.in-Some.field-0 in
    let found : Examined args.many args.table.now args.keys.now keys args.tags.now tags n =
    examined args.many args.table.now args.keys.now keys args.tags.now tags n c.examine.result c.examine.ensures.value c.in-Some.is
    c.examine.ensures.keys_after c.examine.ensures.tags_after c.requires.3 c.requires.4
    in
    record {
      value = ap sound_or_refused (sym found.sound);
      known = known_examined args.many args.table.now args.keys.now keys args.tags.now tags n c.requires.0 c.requires.1 c.requires.2 found;
    }

pub returns-in-None : goal.returns-in-None
returns-in-None c =
    let unsound = told_false c.args.many c.args.table.now (sym c.examine.ensures.value ∙ c.in-None.is) in
    record { value = ap sound_or_refused (sym unsound); known = tt }
