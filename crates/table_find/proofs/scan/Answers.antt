-- `table_find::scan` meets its contract. The loop's invariant: what is sought is the first to stop at of the slots left. Assumes nothing.
use mathlib.Core.Bool.{true}
use mathlib.Core.Path.{◌≡◌, sym, ◌∙◌}
use Rattle.table.specs.Layout.{key_in}
use Rattle.table_find.specs.Find.{stops_at}
use Rattle.table_find.proofs.Searching.{stops_on_empty, stops_on_key, passes_other}
use Rattle.table_find.proofs.Scanning.{scan_finds, scan_goes_on, scan_ends}
use Rattle.table_find.proofs.scan.Goals as goal
use Rattle.table_find.proofs.scan.Goals.{then-held-key-via-else-held-key+then-held-eq0, then-held-key-via-then-held-key}

pub returns-then-held-key : goal.returns-then-held-key
unfolding stops_at
returns-then-held-key c =
    let args = c.args in
    let slot = c.loop-slot.slot in
    let words = args.table.now in
    let held = key_in words slot in
    let stop : stops_at words args.key slot ≡ true =
    elim c.then-held-key.branch [
      | then-held-key-via-then-held-key w ↦ stops_on_key args.key held w.if-held-key.true
      | then-held-key-via-else-held-key+then-held-eq0 w ↦ stops_on_empty args.key held w.if-held-eq0.true
    ]
    in
    sym (scan_finds words args.key slot args.high c.loop-slot-test.true stop) ∙ c.loop-slot.invariant

pub loop-slot-preserved : goal.loop-slot-preserved
unfolding stops_at
loop-slot-preserved c =
    let args = c.args in
    let slot = c.loop-slot.slot in
    let words = args.table.now in
    let held = key_in words slot in
    let passed = passes_other args.key held c.if-held-eq0.false c.if-held-key.false in
    sym (scan_goes_on words args.key slot args.high c.loop-slot-test.true passed) ∙ c.loop-slot.invariant

pub returns : goal.returns
returns c =
    let loop = c.loop-slot in
    let args = c.args in
    sym (scan_ends args.table.now args.key loop.slot args.high c.loop-slot-test.false) ∙ loop.invariant
