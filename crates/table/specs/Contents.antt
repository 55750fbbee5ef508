-- What a table holds, whatever its number of slots: document 01's "order and set", the set being "one of keys with their measures" (02, N4),
-- and "a 64-bit salt" (02, N9).
-- Assumes nothing.
use Rattle.std.specs.Prelude.{Bool, true, cond, ◌&&◌, List, [], ◌∷◌, map, ◌≡◌, ℕ, ◌^◌, ◌<◌, ◌≤◌, eqb, ltb, length}
use Rattle.lists.specs.Lists.{lies, nonzero, rises_b, every, All, Rising}
use Rattle.measure.specs.Measure.{Measure, unmeasured, is_measure}
use Rattle.priority.specs.Priority.{priority_with}
use Rattle.table.specs.Layout.{least_order, greatest_order}

-- A key and its measure.
pub record Entry : Type 0 where
  pub key : ℕ
  pub measure : Measure

-- An order, a salt and a set of keys with their measures; the set is the list of its entries, by rising key.
pub record Contents : Type 0 where
  pub order : ℕ
  pub salt : ℕ
  pub entries : List Entry

-- The keys of entries, and those of a set.
abbrev pub entry_keys : List Entry → List ℕ
entry_keys entries = map (λ e. e.key) entries

abbrev pub keys_in : Contents → List ℕ
keys_in c = entry_keys c.entries

-- The priorities of keys under its salt.
abbrev pub priority_in : Contents → ℕ → ℕ
priority_in c = priority_with c.salt

-- The measure of a key among entries; "not measured" where it is not among them.
abbrev pub measure_in : List Entry → ℕ → Measure
measure_in [] key = unmeasured
measure_in (e ∷ entries) key = cond (eqb e.key key) e.measure (measure_in entries key)

-- Its measure is within the rules.
abbrev pub right_measure : Entry → Bool
right_measure e = is_measure e.measure

-- The key of one entry is below that of another.
unfoldable pub key_below : Entry → Entry → Bool
key_below e f = ltb e.key f.key

-- Keys with the measures beside them, in their order; a key beside which there is none is not measured.
abbrev pub entries_with : List ℕ → List Measure → List Entry
entries_with [] measures = []
entries_with (key ∷ keys) [] = record { key = key; measure = unmeasured } ∷ entries_with keys []
entries_with (key ∷ keys) (measure ∷ measures) = record { key = key; measure = measure } ∷ entries_with keys measures

-- "The order α is 3 to 255": the orders that a table may have.
unfoldable pub table_order : ℕ → Bool
table_order α = lies least_order greatest_order α

-- The orders that may be set up: the same.
unfoldable pub new_order : ℕ → Bool
new_order α = table_order α

-- "A key is a 64-bit unsigned number, 1 to 2^64 − 1."
abbrev pub IsKey : ℕ → Type 0
IsKey k = (1 ≤ k) × (k < 2 ^ 64)

-- "A 64-bit salt": any number of 64 bits.
abbrev pub IsSalt : ℕ → Type 0
IsSalt salt = salt < 2 ^ 64

-- "Build takes a strictly rising list of non-zero keys, perhaps empty."
unfoldable pub rising_keys : List ℕ → Bool
rising_keys list = rises_b list && every nonzero list

-- An order that a table may have, a salt, and a set of at most so many keys, their measures within the rules.
pub record Valid (most : ℕ) (c : Contents) : Type 0 where
  pub order_right : table_order c.order ≡ true
  pub salt_right : IsSalt c.salt
  pub keys_right : All IsKey (keys_in c)
  pub keys_rise : Rising (keys_in c)
  pub keys_fit : length (keys_in c) ≤ most
  pub measures_right : All (λ e. right_measure e ≡ true) c.entries
