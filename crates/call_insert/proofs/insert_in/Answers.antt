-- `call_insert::insert_in` meets its contract. Assumes nothing.
use mathlib.Core.Path.{sym, ap, ◌∙◌}
use Rattle.std.specs.Prelude.{Err}
use Rattle.std.proofs.lemmas.Result.{err_from_is_err_and}
use Rattle.measure.specs.Tag.{measure_at}
use Rattle.measure.proofs.Tags.{tag_measures}
use Rattle.call_replies.specs.declared.Refusal.{Refusal}
use Rattle.call_replies.specs.Replies.{ranked_of}
use Rattle.call_changes.proofs.Judging.{was_unsound}
use Rattle.call_insert.proofs.Inserting.{refused_table}
use Rattle.call_insert.proofs.insert_in.Goals as goal

pub returns-in_err-know : goal.returns-in_err-know
returns-in_err-know c =
    let told = was_unsound _ _ (sym c.know.ensures.value ∙ c.in_err-know.was) in
    let handed_on = err_from_is_err_and c.from_residual.result c.from_residual.ensures.1 in
    let met =
    refused_table c.args.table.now c.args.key (measure_at c.args.tag) c.args.many c.requires.0 c.requires.1 c.requires.2 c.requires.3
    (tag_measures c.args.tag c.requires.4) told.0
    in
    record { result_value = ap ranked_of (handed_on.1 ∙ ap (λ (r : Refusal). Err r) (handed_on.2 ∙ told.1)) ∙ met.0; table_after = met.1 }
