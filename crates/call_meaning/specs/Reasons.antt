-- The reasons for which a call is turned down, by the documents' numbers. Assumes nothing.
use Rattle.std.specs.Prelude.{not, List, ℕ, eqb, ltb, ℤ, length}
use Rattle.lists.specs.Lists.{member}
use Rattle.measure.specs.Measure.{Measure, is_measure, are_measured}
use Rattle.table.specs.Contents.{Contents, new_order, rising_keys, keys_in}
use Rattle.table.specs.Table.{contents_of}
use Rattle.image.specs.Image.{is_image}
use Rattle.table_limits.specs.Lengths.{slots_for}
use Rattle.table_judge.specs.Judge.{is_sound}
use Rattle.call_replies.specs.Replies.{Reason}

-- The order, the salt and the set that the words show.
unfoldable pub shown : List ℕ → Contents
shown words = contents_of (slots_for (length words)) words

-- "1. Table length is not 3 + 6·M" (01); "its length is 4 + 8·M" (02, N9).
unfoldable pub wrong_length : List ℕ → Reason
wrong_length words = record { number = 1; applies = eqb (slots_for (length words)) 0 }

-- "2. Order outside 3 to 255."
unfoldable pub wrong_order : ℕ → Reason
wrong_order order = record { number = 2; applies = not (new_order order) }

-- "3. Key is zero."
unfoldable pub zero_key : ℕ → Reason
zero_key key = record { number = 3; applies = eqb key 0 }

-- "4. Low above high."
unfoldable pub low_above_high : ℕ → ℕ → Reason
low_above_high low high = record { number = 4; applies = ltb high low }

-- "5. The build list is not strictly rising or has a zero" (01); "5 also means a sheet that does not rise or has a zero" (02, N2).
unfoldable pub not_rising : List ℕ → Reason
not_rising list = record { number = 5; applies = not (rising_keys list) }

-- "6. The image is not one that the writer makes for any order and any set of at most 4,096 keys."
unfoldable pub not_an_image : List ℕ → Reason
not_an_image bytes = record { number = 6; applies = not (is_image bytes) }

-- "7. The table is not sound."
unfoldable pub not_sound : List ℕ → Reason
not_sound words = record { number = 7; applies = not (is_sound words) }

-- "8. Key to insert is held."
unfoldable pub key_held : List ℕ → ℕ → Reason
key_held words key = record { number = 8; applies = member key (keys_in (shown words)) }

-- "9. Key to delete is absent."
unfoldable pub key_absent : List ℕ → ℕ → Reason
key_absent words key = record { number = 9; applies = not (member key (keys_in (shown words))) }

-- "10. More keys than M would result": so many keys.
unfoldable pub too_many_keys : List ℕ → ℕ → Reason
too_many_keys words n = record { number = 10; applies = ltb (slots_for (length words)) n }

-- "11. The output slice is shorter than the output."
unfoldable pub output_too_short : ℕ → ℕ → Reason
output_too_short room long = record { number = 11; applies = ltb room long }

-- "12 for a measure outside these rules, missing or left over" (02, N4): on insert, and for a size (02, N5), the one measure; on build, of the
-- lists of lengths and corrections beside the keys, that one is shorter or longer than the keys, or that some measure is outside the rules.
unfoldable pub wrong_measure : Measure → Reason
wrong_measure measure = record { number = 12; applies = not (is_measure measure) }

unfoldable pub wrong_measures : List ℕ → List ℕ → List ℤ → Reason
wrong_measures list lengths corrections = record { number = 12; applies = not (are_measured (length list) lengths corrections) }
