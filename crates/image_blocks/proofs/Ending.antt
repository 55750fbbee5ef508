-- Where a run of one weight ends, and how many runs there are: the invariants of the loops, their steps and ends. Assumes nothing.
use mathlib.Core.Bool.{true}
use mathlib.Core.List.{List}
use mathlib.Core.Path.{◌≡◌, sym, ap, ◌∙◌}
use mathlib.Core.Logic.{◌≢◌}
use Prim.Native.Nat.{ℕ, ◌+◌, ◌<◌, ◌≤◌}
use native.Mathlib.Omega.{arith}
use lib.Dec.{eqb}
use lib.ListN.{length, get_or, drop, drop_of_length-le}
use borrow.Author.Tests.{eqb-true, eqb-false, eq-eqb, ne_eqb}
use Rattle.lists.specs.Lists.{runs}
use Rattle.lists.proofs.Tests.{by_test}
use Rattle.lists.proofs.RunEnds.{runs_at}
use Rattle.image_blocks.specs.Naming.{same_weight}
use Rattle.image_blocks.specs.Runs.{RunEnds}

-- the weight of the first decides
similar : (weights : List ℕ) (x y z : ℕ) → same_weight weights x y ≡ true → same_weight weights x z ≡ same_weight weights y z
unfolding same_weight
similar weights x y z e = ap (λ (w : ℕ). eqb w (get_or weights z 0)) (eqb-true (get_or weights x 0) (get_or weights y 0) e)

-- The list has one weight from `low` up to `high`.
pub record Running (weights sorted : List ℕ) (low weight high : ℕ) : Type 0 where
  pub some : low < high
  pub within : high ≤ length sorted
  pub alike : (k : ℕ) → low ≤ k → k < high → get_or weights (get_or sorted k 0) 0 ≡ weight

module _ (weights sorted : List ℕ) (low : ℕ) where
  pub running_first : (weight : ℕ) → low < length sorted → weight ≡ get_or weights (get_or sorted low 0) 0 → Running weights sorted low weight (low + 1)
  running_first weight h e =
      record {
        some = omega arith;
        within = omega arith;
        alike = λ k l m. let here : k ≡ low = omega arith in ap (λ (i : ℕ). get_or weights (get_or sorted i 0) 0) here ∙ sym e;
      }

  module _ (weight high : ℕ) (running : Running weights sorted low weight high) where
    pub running_more : high < length sorted → get_or weights (get_or sorted high 0) 0 ≡ weight → Running weights sorted low weight (high + 1)
    running_more h e =
        let s = running.some in
        record {
          some = omega arith;
          within = omega arith;
          alike =
              λ k l m.
              by_test (eqb k high)
              (λ t. ap (λ (i : ℕ). get_or weights (get_or sorted i 0) 0) (eqb-true k high t) ∙ e)
              (λ t. let d : k ≢ high = eqb-false k high t in running.alike k l (omega arith));
        }

    ended : (high < length sorted → get_or weights (get_or sorted high 0) 0 ≢ weight) → RunEnds weights sorted low high
    unfolding same_weight
    ended other =
        let s = running.some in
        let first = running.alike low (omega arith) s in
        record {
          some = s;
          within = running.within;
          first =
              runs_at (same_weight weights) (similar weights) sorted low high s running.within
              (λ k l m. eq-eqb (get_or weights (get_or sorted low 0) 0) (get_or weights (get_or sorted k 0) 0) (first ∙ sym (running.alike k (omega arith) m)))
              (λ l. ne_eqb (get_or weights (get_or sorted low 0) 0) (get_or weights (get_or sorted high 0) 0) (λ e. other l (sym e ∙ first)));
        }

    pub ended_by_other : get_or weights (get_or sorted high 0) 0 ≢ weight → RunEnds weights sorted low high
    ended_by_other d = ended (λ _. d)

    pub ended_by_end : length sorted ≤ high → RunEnds weights sorted low high
    ended_by_end h = ended (λ l. absurd (omega arith))

-- How many runs of the list end at or before `low`.
pub record RunsCounted (weights sorted : List ℕ) (low many : ℕ) : Type 0 where
  pub upto : low ≤ length sorted
  pub few : many ≤ low
  pub rest : many + length (runs (same_weight weights) (drop low sorted)) ≡ length (runs (same_weight weights) sorted)

pub counted_none : (weights sorted : List ℕ) → RunsCounted weights sorted 0 0
counted_none weights sorted = record { upto = omega arith; few = omega arith; rest = omega arith }

module _ (weights sorted : List ℕ) (low many : ℕ) (counted : RunsCounted weights sorted low many) where
  pub counted_more : (high : ℕ) → RunEnds weights sorted low high → RunsCounted weights sorted high (many + 1)
  counted_more high ends =
      let s = ends.some in
      let f = counted.few in
      let r = counted.rest in
      let e = ap length ends.first in
      record { upto = ends.within; few = omega arith; rest = omega arith }

  pub counted_all : length sorted ≤ low → many ≡ length (runs (same_weight weights) sorted)
  counted_all h =
      let r = counted.rest in
      let e = ap (λ (xs : List ℕ). length (runs (same_weight weights) xs)) (drop_of_length-le sorted h) in
      omega arith
