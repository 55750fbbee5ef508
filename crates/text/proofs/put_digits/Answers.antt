-- `text::put_digits` meets its contract. The loop's invariant: the digits from its index on are written. Assumes nothing.
use mathlib.Core.Path.{sym, ap, subst}
use Prim.Native.Nat.{ℕ, ◌+◌, ◌-◌, ◌/◌}
use lib.ListN.{set}
use Rattle.text.proofs.Spelling.{digits_length, Spelled, spelled_more, spelled_all}
use Rattle.text.proofs.put_digits.Goals as goal

pub loop-i-preserved : goal.loop-i-preserved
loop-i-preserved c =
    let loop = c.loop-i in
    subst
    (λ (d : ℕ). Spelled c.args.output.now c.args.at c.args.base c.args.many c.args.n (set loop.output (loop.i - 1) d) (loop.i - 1) (loop.rest / c.args.base))
    (sym c.digit.ensures)
    (spelled_more loop.invariant c.requires.2 c.loop-i-test.true)

pub returns : goal.returns
returns c =
    record {
      holds = spelled_all c.loop-i.invariant c.requires.2 c.loop-i-test.false;
      ends = sym (ap (λ (k : ℕ). c.args.at + k) (digits_length c.args.base c.args.many c.args.n));
    }
