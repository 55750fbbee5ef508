-- The calls of a history, what each leaves of the table and answers, the calls that a load stands for, and whole histories. Assumes
-- nothing.
use Rattle.std.specs.Prelude.{Bool, true, false, cond, ◌≡◌, ℕ, ◌-◌, ◌^◌, ◌<◌, ℤ, pos, neg_ℤ, ◌≤ℤ◌}
use mathlib.Core.List.{List, [], ◌∷◌, map, flat_map}
use Rattle.lists.specs.Lists.{All}
use Rattle.measure.specs.Measure.{Measure, unmeasured}
use Rattle.table.specs.Contents.{new_order}
use Rattle.image.specs.Layout.{IsByte}
use Rattle.call_sets.specs.Load.{Operation, inserting, deleting, looking_up, operations}
use Rattle.call_replies.specs.Replies.{Reply}
use Rattle.call_meaning.specs.Calls.{set_up_after, set_up_reply, load_after, load_reply, build_after, build_reply, read_after, read_reply, insert_after, insert_reply, delete_after, delete_reply, lookup_reply, range_reply, range_output, write_reply, write_output}
use Rattle.call_step.specs.Steps.{step_reply}
use Rattle.call_step.specs.declared.Place.{Place}
use Rattle.call_batch.specs.Batch.{batch_reply}
use Rattle.call_batch.specs.declared.Question.{Question}
use Rattle.call_pages.specs.Paged.{pages_reply, pages_output}

-- "A history is a list of set-up, build, reading (of an image), insert, delete, lookup, range and writing (of one), refused calls
-- included .. Each call brings its own inputs, whatever they hold, and its own output .. steps, and calls of document 02 that write no word
-- of this table, may come anywhere between" (01); of document 02 a load (N1), a batch of lookups (N2) and a printing of pages (N6). "Inserts, build lists and lookups
-- carry" measures (N4): an insert its key's, a build list the lengths and the corrections beside it. A
-- set-up and a build bring the salt, "chosen at set-up or build" (N9).
pub data Call : Type 0 where
  set_up : (order : ℕ) → (salt : ℕ) → Call
  build : (order : ℕ) → (salt : ℕ) → (list : List ℕ) → (lengths : List ℕ) → (corrections : List ℤ) → Call
  reading : (bytes : List ℕ) → Call
  insert : (key : ℕ) → (measure : Measure) → Call
  delete : (key : ℕ) → Call
  lookup : (key : ℕ) → Call
  range : (low : ℕ) → (high : ℕ) → (output : List ℕ) → Call
  writing : (output : List ℕ) → Call
  step : (place : Place) → Call
  load : (order : ℕ) → (seed : ℕ) → (count : ℕ) → Call
  batch : (questions : List Question) → Call
  printing : (output : List ℕ) → Call

-- What can be lent as a word; what can be lent as a byte is `IsByte`.
abbrev pub IsWord : ℕ → Type 0
IsWord n = n < 2 ^ 64

-- What can be lent as a correction: a signed 32-bit number, −2^31 to 2^31 − 1. Nothing more is asked of inputs.
abbrev pub IsCorrection : ℤ → Type 0
IsCorrection z = (neg_ℤ (pos (2 ^ 31)) ≤ℤ z) × (z ≤ℤ pos (2 ^ 31 - 1))

-- What can be lent as a line of a batch, its places whatever they hold.
abbrev pub IsQuestion : Question → Type 0
IsQuestion q = IsWord q.key × IsWord q.held × IsWord q.rank

-- What each call can be lent; a load "a 64-bit seed" and "a 16-bit count".
abbrev pub Lent : Call → Type 0
Lent (set_up order salt) = IsWord order × IsWord salt
Lent (build order salt list lengths corrections) = IsWord order × IsWord salt × All IsWord list × All IsWord lengths × All IsCorrection corrections
Lent (reading bytes) = All IsByte bytes
Lent (insert key measure) = IsWord key × IsWord measure.length × IsCorrection measure.correction
Lent (delete key) = IsWord key
Lent (lookup key) = IsWord key
Lent (range low high output) = IsWord low × IsWord high × All IsWord output
Lent (writing output) = All IsByte output
Lent (step place) = IsWord place.next × IsWord place.high
Lent (load order seed count) = IsWord order × IsWord seed × (count < 2 ^ 16)
Lent (batch questions) = All IsQuestion questions
Lent (printing output) = All IsByte output

-- The table's words after a call: those that the call's contract names, and the same words where it writes none.
abbrev pub run : Call → List ℕ → List ℕ
run (set_up order salt) words = set_up_after words order salt
run (build order salt list lengths corrections) words = build_after words order salt list lengths corrections
run (reading bytes) words = read_after words bytes
run (insert key measure) words = insert_after words key measure
run (delete key) words = delete_after words key
run (lookup key) words = words
run (range low high output) words = words
run (writing output) words = words
run (step place) words = words
run (load order seed count) words = load_after words order seed count
run (batch questions) words = words
run (printing output) words = words

-- What a call over these words replies, as its contract says. The correction of a lookup, which has a sign, has a claim of its own.
abbrev pub reply : Call → List ℕ → Reply
reply (set_up order salt) words = set_up_reply words order
reply (build order salt list lengths corrections) words = build_reply words order list lengths corrections
reply (reading bytes) words = read_reply words bytes
reply (insert key measure) words = insert_reply words key measure
reply (delete key) words = delete_reply words key
reply (lookup key) words = lookup_reply words key
reply (range low high output) words = range_reply words low high output
reply (writing output) words = write_reply words output
reply (step place) words = step_reply words place
reply (load order seed count) words = load_reply words order
reply (batch questions) words = batch_reply words questions
reply (printing output) words = pages_reply words output

-- The output that a call over these words was lent, after it, as its contract says; none where it is lent none. A step's place and a batch's
-- lines are no such list; they have claims of their own.
abbrev pub output : Call → List ℕ → List ℕ
output (set_up order salt) words = []
output (build order salt list lengths corrections) words = []
output (reading bytes) words = []
output (insert key measure) words = []
output (delete key) words = []
output (lookup key) words = []
output (range low high lent) words = range_output words low high lent
output (writing lent) words = write_output words lent
output (step place) words = []
output (load order seed count) words = []
output (batch questions) words = []
output (printing lent) words = pages_output words lent

-- "All its calls are lent one table, .. each as the call before left it".
abbrev pub runs : List Call → List ℕ → List ℕ
runs [] words = words
runs (call ∷ calls) words = runs calls (run call words)

-- The calls that are lent the table to read it alone.
abbrev pub asks : Call → Bool
asks (set_up order salt) = false
asks (build order salt list lengths corrections) = false
asks (reading bytes) = false
asks (insert key measure) = false
asks (delete key) = false
asks (lookup key) = true
asks (range low high output) = true
asks (writing output) = true
asks (step place) = true
asks (load order seed count) = false
asks (batch questions) = true
asks (printing output) = true

-- ---- loads
-- "insert", "delete", "lookup": the call that an operation of a load is; "a load's keys are unmeasured" (02, N4).
abbrev pub call_for : Operation → Call
call_for (inserting key) = insert key unmeasured
call_for (deleting key) = delete key
call_for (looking_up key) = lookup key

-- "In a history a load counts as its set-up and operations" (02, N1); "loads use salt zero" (02, N9).
abbrev pub calls_of_load : ℕ → ℕ → ℕ → List Call
calls_of_load order seed count = set_up order 0 ∷ map call_for (operations seed count)

-- The calls that a call stands for: an accepted load for its set-up and operations, a refused one, which changes nothing, for none,
-- and any other for itself.
abbrev pub stands_for : Call → List Call
stands_for (set_up order salt) = set_up order salt ∷ []
stands_for (build order salt list lengths corrections) = build order salt list lengths corrections ∷ []
stands_for (reading bytes) = reading bytes ∷ []
stands_for (insert key measure) = insert key measure ∷ []
stands_for (delete key) = delete key ∷ []
stands_for (lookup key) = lookup key ∷ []
stands_for (range low high output) = range low high output ∷ []
stands_for (writing output) = writing output ∷ []
stands_for (step place) = step place ∷ []
stands_for (batch questions) = batch questions ∷ []
stands_for (printing output) = printing output ∷ []
stands_for (load order seed count) = cond (new_order order) (calls_of_load order seed count) []

-- The calls that a list of calls stands for: none of them is a load.
abbrev pub spelled_out : List Call → List Call
spelled_out calls = flat_map stands_for calls

-- ---- histories
-- How a history begins: with a set-up, or with a load, which "counts as its set-up and operations".
pub data Opening : Type 0 where
  by_set_up : (order : ℕ) → (salt : ℕ) → Opening
  by_load : (order : ℕ) → (seed : ℕ) → (count : ℕ) → Opening

abbrev pub opened : Opening → Call
opened (by_set_up order salt) = set_up order salt
opened (by_load order seed count) = load order seed count

-- It is accepted, over any words of a table: 2 does not apply.
abbrev pub Accepted : Opening → Type 0
Accepted (by_set_up order salt) = new_order order ≡ true
Accepted (by_load order seed count) = new_order order ≡ true

-- "Its first call is an accepted set-up, over any words", or an accepted load.
pub record History : Type 0 where
  pub first : Opening
  pub accepted : Accepted first
  pub later : List Call
  pub lent : All Lent (opened first ∷ later)

abbrev pub calls_of : History → List Call
calls_of history = opened history.first ∷ history.later
