-- How many slots a table has, by its length. Assumes nothing.
use Rattle.std.specs.Prelude.{ℕ, zero, suc, eqb, Option, Some, None}
use Rattle.lists.specs.Lists.{first, up_from}
use Rattle.table.specs.Layout.{most_slots, table_words}

-- "Table length is not 3 + 6·M" (01); "its length is 4 + 8·M" (02, N9): the M from 1 to 4,096 whose table has so many words; zero where there
-- is none.
unfoldable pub slots_for : ℕ → ℕ
slots_for words = first 0 (λ many. eqb words (table_words many)) (up_from 1 most_slots)

-- The same as an answer: none where the number is zero.
abbrev pub slots_if : ℕ → Option ℕ
slots_if zero = None
slots_if (suc n) = Some (suc n)
