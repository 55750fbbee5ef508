-- `history_replay::ScriptCall::named` meets its contract. Assumes nothing.
use Rattle.history_replay.proofs.Replaying.{sets_up, inserts, deletes, looks_up}
use Rattle.history_replay.proofs.ScriptCall.named.Goals as goal

pub returns-then-kind-eq-SET_UP : goal.returns-then-kind-eq-SET_UP
returns-then-kind-eq-SET_UP c = sets_up c.args.kind c.args.value c.if-kind-eq-SET_UP.true

pub returns-then-kind-eq-INSERT : goal.returns-then-kind-eq-INSERT
returns-then-kind-eq-INSERT c = inserts c.args.kind c.args.value c.if-kind-eq-SET_UP.false c.if-kind-eq-INSERT.true

pub returns-then-kind-eq-DELETE : goal.returns-then-kind-eq-DELETE
returns-then-kind-eq-DELETE c =
    deletes c.args.kind c.args.value c.if-kind-eq-SET_UP.false c.if-kind-eq-INSERT.false c.if-kind-eq-DELETE.true

pub returns : goal.returns
returns c = looks_up c.args.kind c.args.value c.if-kind-eq-SET_UP.false c.if-kind-eq-INSERT.false c.if-kind-eq-DELETE.false
