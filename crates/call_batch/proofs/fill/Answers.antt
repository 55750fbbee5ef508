-- `call_batch::fill` meets its contract. Assumes nothing.
use Rattle.std.proofs.Common.{◌≡◌, ◌+◌, ◌<◌, List, length, get_or, set, drop, arith, sym, ap, subst, ◌∙◌}
use Rattle.call_batch.specs.declared.Question.{Question}
use Rattle.call_batch.specs.declared.Progress.{Progress}
use Rattle.call_batch.specs.Batch.{keys_of, answered}
use Rattle.call_batch.specs.Answering.{line_after, line_of, progress, Askable}
use Rattle.call_batch.proofs.LineByLine.{none, line_is, goes_on, asks_on, still, one_more}
use Rattle.call_batch.proofs.fill.Goals as goal
use Rattle.call_batch.proofs.fill.Goals.{In-loop-question, After-line_after-so_far}

-- the question of the turn is the one that was lent
question : (c : In-loop-question) → get_or c.loop-question.questions c.loop-question.question-index none ≡ get_or c.args.questions.now c.loop-question.question-index none
question c =
    ap (λ (l : List Question). get_or l c.loop-question.question-index none) c.loop-question.invariant.lines
    ∙ still (answered c.args.table.now) c.args.questions.now c.loop-question.question-index

inside : (c : In-loop-question) → c.loop-question.question-index < length c.args.questions.now
inside c = omega arith

-- the progress after the turn
next : (c : After-line_after-so_far)
    → c.line_after-so_far.result ≡ line_after c.args.table.now c.loop-question.so_far (get_or c.args.questions.now c.loop-question.question-index none).key
next c = c.line_after-so_far.ensures ∙ ap (λ (q : Question). line_after c.args.table.now c.loop-question.so_far q.key) (question (goal.at.After-line_after-so_far c).In-loop-question)

pub loop-question-preserved : goal.loop-question-preserved
loop-question-preserved c =
    let turn = (goal.at.loop-question-preserved c).In-loop-question in
    let after = next (goal.at.loop-question-preserved c).After-line_after-so_far in
    let words = c.args.table.now in
    let ys = c.args.questions.now in
    let i = c.loop-question.question-index in
    let so = c.loop-question.so_far in
    record {
      kept =
          c.loop-question.invariant.kept
          ∙ goes_on words ys i so (inside turn)
          ∙ ap (λ (s : Progress). progress words s (keys_of (drop (i + 1) ys))) (sym after);
      askable = subst (λ (s : Progress). Askable words s (keys_of (drop (i + 1) ys))) (sym after) (asks_on words ys i so (inside turn) c.loop-question.invariant.askable);
      lines =
          ap (λ (l : List Question). set l i c.last_line-line.result) c.loop-question.invariant.lines
          ∙ one_more (answered words) ys i c.last_line-line.result (inside turn)
          (c.last_line-line.ensures ∙ ap line_of after ∙ line_is words so (get_or ys i none));
    }
