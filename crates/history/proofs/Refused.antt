-- Over a table that shows its book, each call is refused for the reasons that the book gives. Assumes such a table.
use mathlib.Core.List.{List}
use mathlib.Core.Path.{◌≡◌}
use Prim.Native.Nat.{ℕ}
use lib.IntN.{ℤ}
use Rattle.measure.specs.Measure.{Measure}
use Rattle.table.specs.Contents.{Contents}
use Rattle.call_meaning.specs.Reasons.{wrong_length, not_sound, key_held, key_absent, too_many_keys}
use Rattle.call_meaning.specs.Calls.{grown, set_up_refusal, load_refusal, build_refusal, insert_refusal, delete_refusal, lookup_refusal, range_refusal, write_refusal, read_refusal, text_refusal}
use Rattle.call_step.specs.Steps.{step_refusal}
use Rattle.call_batch.specs.Batch.{batch_refusal}
use Rattle.call_batch.specs.declared.Question.{Question}
use Rattle.call_pages.specs.Paged.{pages_refusal}
use Rattle.history.specs.Call.{set_up, build, reading, insert, delete, lookup, range, writing, load, batch, printing}
use Rattle.history.specs.Book.{refusal_by}
use Rattle.call_meaning.proofs.Shows.{Shows}

module _ (many : ℕ) (words : List ℕ) (book : Contents) (table : Shows many words book) where
  pub set_up_refused : (order salt : ℕ) → set_up_refusal words order ≡ refusal_by many (set_up order salt) book
  unfolding set_up_refusal refusal_by wrong_length
  set_up_refused order salt = rw table.right

  pub load_refused : (order seed count : ℕ) → load_refusal words order ≡ refusal_by many (load order seed count) book
  unfolding load_refusal refusal_by wrong_length
  load_refused order seed count = rw table.right

  pub build_refused : (order salt : ℕ) (list lengths : List ℕ) (corrections : List ℤ)
      → build_refusal words order list lengths corrections ≡ refusal_by many (build order salt list lengths corrections) book
  unfolding build_refusal refusal_by wrong_length too_many_keys
  build_refused order salt list lengths corrections = rw (table.right, table.slots)

  pub reading_refused : (bytes : List ℕ) → read_refusal words bytes ≡ refusal_by many (reading bytes) book
  unfolding read_refusal refusal_by wrong_length too_many_keys
  reading_refused bytes = rw (table.right, table.slots)

  pub insert_refused : (key : ℕ) (measure : Measure) → insert_refusal words key measure ≡ refusal_by many (insert key measure) book
  unfolding insert_refusal refusal_by wrong_length not_sound key_held too_many_keys grown
  insert_refused key measure = rw (table.right, table.slots, table.sound, table.holds)

  pub delete_refused : (key : ℕ) → delete_refusal words key ≡ refusal_by many (delete key) book
  unfolding delete_refusal refusal_by wrong_length not_sound key_absent
  delete_refused key = rw (table.right, table.sound, table.holds)

  pub lookup_refused : (key : ℕ) → lookup_refusal words key ≡ refusal_by many (lookup key) book
  unfolding lookup_refusal refusal_by wrong_length not_sound
  lookup_refused key = rw (table.right, table.sound)

  pub range_refused : (low high : ℕ) (lent : List ℕ) → range_refusal words low high lent ≡ refusal_by many (range low high lent) book
  unfolding range_refusal refusal_by wrong_length not_sound
  range_refused low high lent = rw (table.right, table.sound, table.holds)

  pub writing_refused : (lent : List ℕ) → write_refusal words lent ≡ refusal_by many (writing lent) book
  unfolding text_refusal refusal_by wrong_length not_sound
  writing_refused lent = rw (table.right, table.sound, table.holds)

  pub batch_refused : (questions : List Question) → batch_refusal words questions ≡ refusal_by many (batch questions) book
  unfolding batch_refusal refusal_by wrong_length not_sound
  batch_refused questions = rw (table.right, table.sound)

  pub printing_refused : (lent : List ℕ) → pages_refusal words lent ≡ refusal_by many (printing lent) book
  unfolding text_refusal refusal_by wrong_length not_sound
  printing_refused lent = rw (table.right, table.sound, table.holds)

  pub step_accepted : step_refusal words ≡ 0
  unfolding step_refusal wrong_length not_sound
  step_accepted = rw (table.right, table.sound)
