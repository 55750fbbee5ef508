-- What is claimed of the hypotheses of the claims on histories: every table, every call and every history that documents 01 and
-- 02 speak of meets them, so that no claim is empty. `proofs/HypothesesMet` proves it. Assumes nothing.
use Rattle.std.specs.Prelude.{List, ◌∷◌, ◌≡◌, ℕ, ◌-◌, ◌^◌, ◌<◌, ◌≤◌, ℤ, pos, neg_ℤ, ◌≤ℤ◌, length}
use Rattle.lists.specs.Lists.{All}
use Rattle.measure.specs.Measure.{Measure}
use Rattle.table.specs.Layout.{most_slots, least_order, greatest_order, table_words}
use Rattle.image.specs.Layout.{IsByte}
use Rattle.call_step.specs.declared.Place.{Place}
use Rattle.call_batch.specs.declared.Question.{Question}
use Rattle.history.specs.Call.{Call, set_up, build, reading, insert, delete, lookup, range, writing, step, load, batch, printing, IsWord, IsCorrection, Lent, History, calls_of}
use Rattle.history.specs.Theorems.{Table}

-- "A table has M slots, M from 1 to 4,096, and lives in lent 64-bit words" (01); "its length is 4 + 8·M" (02, N9): any words of that
-- number are a table.
abbrev pub EveryTable : Type 0
EveryTable = (many : ℕ) (words : List ℕ) → 1 ≤ many → many ≤ most_slots → length words ≡ table_words many → Table many words

-- "Each call brings its own inputs, whatever they hold": every call with 64-bit numbers, bytes and signed 32-bit corrections is a call of a
-- history.
pub record EveryCall : Type 0 where
  pub words : (n : ℕ) → n < 2 ^ 64 → IsWord n
  pub bytes : (b : ℕ) → b < 256 → IsByte b
  pub corrections : (z : ℤ) → neg_ℤ (pos (2 ^ 31)) ≤ℤ z → z ≤ℤ pos (2 ^ 31 - 1) → IsCorrection z
  pub set_ups : (order salt : ℕ) → IsWord order → IsWord salt → Lent (set_up order salt)
  pub builds : (order salt : ℕ) (list lengths : List ℕ) (corrections : List ℤ) → IsWord order → IsWord salt → All IsWord list → All IsWord lengths → All IsCorrection corrections
      → Lent (build order salt list lengths corrections)
  pub readings : (image : List ℕ) → All IsByte image → Lent (reading image)
  pub inserts : (key : ℕ) (measure : Measure) → IsWord key → IsWord measure.length → IsCorrection measure.correction → Lent (insert key measure)
  pub deletes : (key : ℕ) → IsWord key → Lent (delete key)
  pub lookups : (key : ℕ) → IsWord key → Lent (lookup key)
  pub ranges : (low high : ℕ) (output : List ℕ) → IsWord low → IsWord high → All IsWord output → Lent (range low high output)
  pub writings : (output : List ℕ) → All IsByte output → Lent (writing output)
  pub steps : (place : Place) → IsWord place.next → IsWord place.high → Lent (step place)
  pub batches : (questions : List Question) → All (λ q. IsWord q.key × IsWord q.held × IsWord q.rank) questions → Lent (batch questions)
  pub printings : (output : List ℕ) → All IsByte output → Lent (printing output)
  pub loads : (order seed count : ℕ) → IsWord order → IsWord seed → count < 2 ^ 16 → Lent (load order seed count)

-- "Its first call is an accepted set-up", or an accepted load: every such list of calls is a history.
pub record EveryHistory : Type 0 where
  pub by_set_up_lem : (order salt : ℕ) (later : List Call) → least_order ≤ order → order ≤ greatest_order → IsWord salt → All Lent later
      → (history : History) × (calls_of history ≡ set_up order salt ∷ later)
  pub by_load_lem : (order seed count : ℕ) (later : List Call) → least_order ≤ order → order ≤ greatest_order → IsWord seed → count < 2 ^ 16 → All Lent later
      → (history : History) × (calls_of history ≡ load order seed count ∷ later)
