-- A script call by call. Assumes nothing.
use mathlib.Core.List.{List, [], ◌∷◌}
use mathlib.Core.Logic.{◌≢◌}
use mathlib.Core.Path.{◌≡◌, refl, ap, ◌∙◌}
use Prim.Native.Nat.{ℕ, ◌-◌, ◌≤◌}
use native.Mathlib.Omega.{arith}
use lib.ListN.{length, get_or, take, drop}
use borrow.Author.Tests.{eq-eqb, ne_eqb}
use Rattle.std.proofs.lemmas.List.{take_rest}
use Rattle.measure.specs.Measure.{unmeasured}
use Rattle.history.specs.Call.{run, runs}
use Rattle.history.specs.Call.Call.{set_up, insert, delete, lookup}
use Rattle.history_replay.specs.Script.{call_of, calls_in}

-- ---- one call
module _ (kind value : ℕ) where
  pub sets_up : kind ≡ 0 → set_up value 0 ≡ call_of kind value
  unfolding call_of
  sets_up e = rw (eq-eqb kind 0 e) refl

  module _ (d : kind ≢ 0) where
    pub inserts : kind ≡ 1 → insert value unmeasured ≡ call_of kind value
    unfolding call_of
    inserts e = rw (ne_eqb kind 0 d, eq-eqb kind 1 e) refl

    module _ (f : kind ≢ 1) where
      pub deletes : kind ≡ 2 → delete value ≡ call_of kind value
      unfolding call_of
      deletes e = rw (ne_eqb kind 0 d, ne_eqb kind 1 f, eq-eqb kind 2 e) refl

      pub looks_up : kind ≢ 2 → lookup value ≡ call_of kind value
      unfolding call_of
      looks_up g = rw (ne_eqb kind 0 d, ne_eqb kind 1 f, ne_eqb kind 2 g) refl

-- ---- the loop
-- a word left over is no call
pub none_left : (rest words : List ℕ) → length rest ≤ 1 → runs (calls_in rest) words ≡ words
none_left [] words k = refl
none_left (x ∷ []) words k = refl
none_left (x ∷ y ∷ rest) words k = absurd (omega arith)

-- a call done, those after it are left
pub one_done : (rest words after : List ℕ) → 2 ≤ length rest → after ≡ run (call_of (get_or rest 0 0) (get_or rest 1 0)) words
    → runs (calls_in (take (length rest - 2) (drop 2 rest))) after ≡ runs (calls_in rest) words
one_done [] words after h e = absurd (omega arith)
one_done (x ∷ []) words after h e = absurd (omega arith)
one_done (kind ∷ value ∷ rest) words after h e =
    ap (λ (l : List ℕ). runs (calls_in l) after) (take_rest (kind ∷ value ∷ rest) 2) ∙ ap (runs (calls_in rest)) e
