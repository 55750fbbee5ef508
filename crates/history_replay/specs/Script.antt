-- A history written down in words: two words a call, which call it is and its order or key. Assumes nothing.
use Rattle.std.specs.Prelude.{cond, List, [], ◌∷◌, ◌≡◌, ℕ, eqb}
use Rattle.measure.specs.Measure.{unmeasured}
use Rattle.table.specs.Table.{fresh}
use Rattle.call_meaning.specs.Calls.{set_up_refusal}
use Rattle.history.specs.Call.{Call, History, calls_of}
use Rattle.history.specs.Call.Call.{set_up, insert, delete, lookup}
use Rattle.history.specs.Theorems.{Table, book_after}
use Rattle.history_replay.specs.declared.ScriptCall.{ScriptCall}
use Rattle.history_replay.specs.declared.ScriptCall.TheVariants.{SetUp, Insert, Delete, LookUp}

-- 0 is a set-up with salt zero, 1 an insert of a key that is not measured, 2 a delete, and any other number a lookup.
unfoldable pub call_of : ℕ → ℕ → Call
call_of kind value = cond (eqb kind 0) (set_up value 0) (cond (eqb kind 1) (insert value unmeasured) (cond (eqb kind 2) (delete value) (lookup value)))

-- The call that the code's call of a script stands for.
abbrev pub call_meant : ScriptCall → Call
call_meant (SetUp order) = set_up order 0
call_meant (Insert key) = insert key unmeasured
call_meant (Delete key) = delete key
call_meant (LookUp key) = lookup key

-- The calls of a script, in their order; a word left over at its end is no call.
abbrev pub calls_in : List ℕ → List Call
calls_in [] = []
calls_in (kind ∷ []) = []
calls_in (kind ∷ value ∷ rest) = call_of kind value ∷ calls_in rest

-- Over any table of M slots, a script whose first call is an accepted set-up is a history, and what it leaves is in every word the table
-- built afresh from that history's book.
abbrev pub BuiltFromBook : List ℕ → List ℕ → List ℕ → Type 0
BuiltFromBook script before after =
    (many order : ℕ) (later : List Call) → Table many before → calls_in script ≡ set_up order 0 ∷ later → set_up_refusal before order ≡ 0
    → (history : History) × (calls_of history ≡ calls_in script) × (after ≡ fresh many (book_after many history))
