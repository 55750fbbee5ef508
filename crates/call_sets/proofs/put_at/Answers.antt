-- `call_sets::put_at` meets its contract. Assumes nothing.
use mathlib.Core.Path.{ap, ◌∙◌}
use mathlib.Core.List.{List}
use Prim.Native.Nat.{ℕ}
use lib.ListN.{set}
use Rattle.call_sets.proofs.Shifting.{raised}
use Rattle.call_sets.proofs.put_at.Goals as goal

pub returns : goal.returns
returns c =
    ap (λ (l : List ℕ). set l c.args.at c.args.value) c.copy_within.ensures.after
    ∙ raised c.args.list.now c.args.n c.args.at c.args.value c.requires.0 c.requires.1
