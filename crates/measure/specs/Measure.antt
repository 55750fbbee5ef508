-- What is measured of a last, beside its fingerprint (document 02, N4), and the two words in which it is stored. Assumes nothing.
use Rattle.std.specs.Prelude.{Bool, cond, ◌&&◌, List, [], ◌∷◌, ℕ, eqb, length, ℤ, pos, nat_abs, neg_ℤ, ◌+ℤ◌, ◌-ℤ◌}
use Rattle.std.specs.Int.Signed.{le_z}
use Rattle.lists.specs.Lists.{lies, every}

-- "Each key carries a length in hundredths of a millimetre .. and a signed heel correction .. in the same unit."
pub record Measure : Type 0 where
  pub length : ℕ
  pub correction : ℤ

-- "Length .., 10,000 to 40,000"
abbrev pub least_length : ℕ
least_length = 10000

abbrev pub greatest_length : ℕ
greatest_length = 40000

-- "correction, −5,000 to 5,000"
abbrev pub least_correction : ℤ
least_correction = neg_ℤ (pos 5000)

abbrev pub greatest_correction : ℕ
greatest_correction = 5000

-- "Length 0 means not measured, and its correction is then 0."
abbrev pub unmeasured : Measure
unmeasured = record { length = 0; correction = pos 0 }

-- A signed number from low to high, both included.
unfoldable pub lies_z : ℤ → ℤ → ℤ → Bool
lies_z low high z = le_z low z && le_z z high

-- "12 for a measure outside these rules": a measure within them, "not measured" included (a correction that lies from 0 to 0 is 0).
unfoldable pub is_measure : Measure → Bool
is_measure m =
    cond (eqb m.length 0) (lies_z (pos 0) (pos 0) m.correction)
    (lies least_length greatest_length m.length && lies_z least_correction (pos greatest_correction) m.correction)

-- "the correction stored as itself plus 5,000, and as 0 when not measured". The length is stored as itself.
unfoldable pub stored_correction : Measure → ℕ
stored_correction m = cond (eqb m.length 0) 0 (nat_abs (m.correction +ℤ pos greatest_correction))

-- The measure that a length and a stored correction show.
unfoldable pub measure_from : ℕ → ℕ → Measure
measure_from length stored =
    record { length = length; correction = cond (eqb length 0) (pos 0) (pos stored -ℤ pos greatest_correction) }

-- The measures of "build lists": lengths and corrections, one of each for a measure.
abbrev pub measures_beside : List ℕ → List ℤ → List Measure
measures_beside [] corrections = []
measures_beside (length ∷ lengths) [] = []
measures_beside (length ∷ lengths) (correction ∷ corrections) =
    record { length = length; correction = correction } ∷ measures_beside lengths corrections

-- "Outside these rules, missing or left over": whether, for so many keys, there is one length and one correction for each and none more, and all
-- are measures within the rules.
abbrev pub are_measured : ℕ → List ℕ → List ℤ → Bool
are_measured n lengths corrections =
    eqb (length lengths) n && (eqb (length corrections) n && every is_measure (measures_beside lengths corrections))
