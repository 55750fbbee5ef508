-- A measure as one number, its tag: how it goes beside a key from one list to another. Assumes nothing.
use Rattle.std.specs.Prelude.{Bool, cond, ◌&&◌, ℕ, ◌+◌, ◌*◌, ◌/◌, ◌%◌, eqb, leb}
use Rattle.lists.specs.Lists.{lies}
use Rattle.measure.specs.Measure.{Measure, least_length, greatest_length, greatest_correction, stored_correction, measure_from}

-- The greatest stored correction: 5,000 plus 5,000.
abbrev pub greatest_stored : ℕ
greatest_stored = greatest_correction + greatest_correction

-- A length and a stored correction that a measure within the rules has.
unfoldable pub is_stored : ℕ → ℕ → Bool
is_stored length stored =
    cond (eqb length 0) (eqb stored 0) (lies least_length greatest_length length && leb stored greatest_stored)

-- A length and a stored correction in one number, and the two in it: a stored correction is below this number.
abbrev pub stored_values : ℕ
stored_values = 65536

unfoldable pub tag_from : ℕ → ℕ → ℕ
tag_from length stored = length * stored_values + stored

unfoldable pub length_in : ℕ → ℕ
length_in tag = tag / stored_values

unfoldable pub stored_in : ℕ → ℕ
stored_in tag = tag % stored_values

-- The tag of a measure, the measure of a tag, and the tags of measures within the rules.
unfoldable pub tag_of : Measure → ℕ
tag_of m = tag_from m.length (stored_correction m)

unfoldable pub measure_at : ℕ → Measure
measure_at tag = measure_from (length_in tag) (stored_in tag)

unfoldable pub is_tag : ℕ → Bool
is_tag tag = is_stored (length_in tag) (stored_in tag)
