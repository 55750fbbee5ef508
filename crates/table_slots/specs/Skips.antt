-- Skips: for each slot one at or after it, slot 0 following the last, such that no slot between is empty. A slot is zero
-- when it is empty. Assumes nothing.
use Rattle.std.specs.Prelude.{cond, List, ◌≢◌, ◌≡◌, ℕ, suc, ◌<◌, ◌≤◌, eqb, length, get_or}

-- The slot after a slot, of so many.
abbrev pub after : ℕ → ℕ → ℕ
after many at = cond (eqb (suc at) many) 0 (suc at)

-- From a slot on to `goal`, slot by slot, over taken slots only.
pub data Over (slots : List ℕ) (goal : ℕ) : ℕ → Type 0 where
  there : Over slots goal goal
  past : {at : ℕ} → get_or slots at 0 ≢ 0 → Over slots goal (after (length slots) at) → Over slots goal at

-- The skip of a free slot is the slot itself; that of a taken one lies behind it, over taken slots only.
pub record Skips (slots skip : List ℕ) : Type 0 where
  pub room : length slots ≤ length skip
  pub free : (at : ℕ) → at < length slots → get_or slots at 0 ≡ 0 → get_or skip at 0 ≡ at
  pub taken : (at : ℕ) → at < length slots → get_or slots at 0 ≢ 0 → Over slots (get_or skip at 0) (after (length slots) at)
