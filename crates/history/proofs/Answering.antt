-- Over a table that shows its book, each call replies, and leaves its output, its place and its lines, as the book says. Assumes such a
-- table.
use mathlib.Core.Bool.{Bool, true, false, cond}
use mathlib.Core.List.{List, []}
use mathlib.Core.Path.{◌≡◌, refl, sym, ap, ap₂}
use Prim.Native.Nat.{ℕ}
use lib.Dec.{eqb}
use lib.IntN.{ℤ}
use lib.ListN.{get_or}
use Rattle.lists.proofs.Tests.{by_test}
use Rattle.lists.proofs.Keep.{all_always, map_same}
use Rattle.measure.specs.Measure.{Measure}
use Rattle.table.specs.Contents.{Contents, keys_in}
use Rattle.table_least.specs.LeastKey.{least_within}
use Rattle.call_replies.specs.Replies.{Reply, unless_refused}
use Rattle.call_meaning.specs.Calls.{grown, set_up_reply, load_reply, build_reply, insert_reply, delete_reply, lookup_reply, lookup_correction, range_reply, range_output, write_reply, write_output, read_reply, text_reply, text_output}
use Rattle.call_step.specs.Steps.{end_reply, yielded, sought, step_reply, step_place}
use Rattle.call_step.specs.declared.Place.{Place}
use Rattle.call_batch.specs.Batch.{held_by, rank_by, answered, batch_reply, batch_after}
use Rattle.call_batch.specs.declared.Question.{Question}
use Rattle.call_pages.specs.Paged.{pages_reply, pages_output}
use Rattle.history.specs.Call.{Call, set_up, build, reading, insert, delete, lookup, range, writing, step, load, batch, printing, reply, output}
use Rattle.history.specs.Book.{refusal_by, reply_by, correction_by, output_by, place_by, line_by, lines_by}
use Rattle.history.specs.Theorems.{Answers}
use Rattle.call_replies.proofs.Refusals.{both_same}
use Rattle.call_meaning.proofs.Shows.{Shows}
use Rattle.history.proofs.Refused.{set_up_refused, load_refused, build_refused, reading_refused, insert_refused, delete_refused, lookup_refused, range_refused, writing_refused, batch_refused, printing_refused, step_accepted}

-- a step that is not turned down gives no refusal's number
step_said : (done : Bool) (key : ℕ) → cond done end_reply (yielded key) ≡ record { refusal = 0; numbers = (cond done end_reply (yielded key)).numbers }
unfolding yielded
step_said true key = refl
step_said false key = by_test (eqb key 0) (λ e. rw e) (λ e. rw e)

module _ (many : ℕ) (words : List ℕ) (book : Contents) (table : Shows many words book) where
  -- ---- replies
  key_sought : (place : Place) → sought words place ≡ least_within place.next place.high (keys_in book)
  unfolding sought
  key_sought place = rw table.holds

  step_replies : (place : Place) → step_reply words place ≡ reply_by many (step place) book
  unfolding reply_by refusal_by step_reply
  step_replies place =
      rw (step_accepted many words book table, key_sought place)
      (step_said place.done (least_within place.next place.high (keys_in book)))

  set_up_replies : (order salt : ℕ) → set_up_reply words order ≡ reply_by many (set_up order salt) book
  unfolding set_up_reply reply_by
  set_up_replies order salt = rw (set_up_refused many words book table order salt, both_same)

  load_replies : (order seed count : ℕ) → load_reply words order ≡ reply_by many (load order seed count) book
  unfolding load_reply reply_by
  load_replies order seed count = rw (load_refused many words book table order seed count, both_same)

  build_replies : (order salt : ℕ) (list lengths : List ℕ) (corrections : List ℤ)
      → build_reply words order list lengths corrections ≡ reply_by many (build order salt list lengths corrections) book
  unfolding build_reply reply_by
  build_replies order salt list lengths corrections = rw (build_refused many words book table order salt list lengths corrections, both_same)

  reading_replies : (bytes : List ℕ) → read_reply words bytes ≡ reply_by many (reading bytes) book
  unfolding read_reply reply_by
  reading_replies bytes = rw (reading_refused many words book table bytes, both_same)

  insert_replies : (key : ℕ) (measure : Measure) → insert_reply words key measure ≡ reply_by many (insert key measure) book
  unfolding insert_reply reply_by grown
  insert_replies key measure = rw (insert_refused many words book table key measure, table.holds)

  delete_replies : (key : ℕ) → delete_reply words key ≡ reply_by many (delete key) book
  unfolding delete_reply reply_by
  delete_replies key = rw (delete_refused many words book table key, table.holds)

  lookup_replies : (key : ℕ) → lookup_reply words key ≡ reply_by many (lookup key) book
  unfolding lookup_reply reply_by
  lookup_replies key = rw (lookup_refused many words book table key, table.holds)

  corrections_by_book : (key : ℕ) → lookup_correction words key ≡ correction_by many key book
  unfolding lookup_correction correction_by
  corrections_by_book key = rw (lookup_refused many words book table key, table.holds)

  range_replies : (low high : ℕ) (lent : List ℕ) → range_reply words low high lent ≡ reply_by many (range low high lent) book
  unfolding range_reply reply_by
  range_replies low high lent = rw (range_refused many words book table low high lent, table.holds)

  writing_replies : (lent : List ℕ) → write_reply words lent ≡ reply_by many (writing lent) book
  unfolding text_reply reply_by
  writing_replies lent = rw (writing_refused many words book table lent, table.holds)

  batch_replies : (questions : List Question) → batch_reply words questions ≡ reply_by many (batch questions) book
  unfolding batch_reply reply_by
  batch_replies questions = rw (batch_refused many words book table questions, table.holds)

  printing_replies : (lent : List ℕ) → pages_reply words lent ≡ reply_by many (printing lent) book
  unfolding text_reply reply_by
  printing_replies lent = rw (printing_refused many words book table lent, table.holds)

  replies_by_book : (call : Call) → reply call words ≡ reply_by many call book
  replies_by_book (set_up order salt) = set_up_replies order salt
  replies_by_book (build order salt list lengths corrections) = build_replies order salt list lengths corrections
  replies_by_book (reading bytes) = reading_replies bytes
  replies_by_book (insert key measure) = insert_replies key measure
  replies_by_book (delete key) = delete_replies key
  replies_by_book (lookup key) = lookup_replies key
  replies_by_book (range low high lent) = range_replies low high lent
  replies_by_book (writing lent) = writing_replies lent
  replies_by_book (step place) = step_replies place
  replies_by_book (load order seed count) = load_replies order seed count
  replies_by_book (batch questions) = batch_replies questions
  replies_by_book (printing lent) = printing_replies lent

  -- ---- outputs
  same_output : (call : Call) (lent : List ℕ) → lent ≡ unless_refused (refusal_by many call book) lent lent
  same_output call lent = sym (both_same (refusal_by many call book) lent)

  range_fills : (low high : ℕ) (lent : List ℕ) → range_output words low high lent ≡ output_by many (range low high lent) book
  unfolding range_output output_by
  range_fills low high lent = rw (range_refused many words book table low high lent, table.holds)

  writing_fills : (lent : List ℕ) → write_output words lent ≡ output_by many (writing lent) book
  unfolding text_output output_by
  writing_fills lent = rw (writing_refused many words book table lent, table.holds)

  printing_fills : (lent : List ℕ) → pages_output words lent ≡ output_by many (printing lent) book
  unfolding text_output output_by
  printing_fills lent = rw (printing_refused many words book table lent, table.holds)

  outputs_by_book : (call : Call) → output call words ≡ output_by many call book
  unfolding output_by
  outputs_by_book (set_up order salt) = same_output (set_up order salt) []
  outputs_by_book (build order salt list lengths corrections) = same_output (build order salt list lengths corrections) []
  outputs_by_book (reading bytes) = same_output (reading bytes) []
  outputs_by_book (insert key measure) = same_output (insert key measure) []
  outputs_by_book (delete key) = same_output (delete key) []
  outputs_by_book (lookup key) = same_output (lookup key) []
  outputs_by_book (range low high lent) = range_fills low high lent
  outputs_by_book (writing lent) = writing_fills lent
  outputs_by_book (step place) = same_output (step place) []
  outputs_by_book (load order seed count) = same_output (load order seed count) []
  outputs_by_book (batch questions) = same_output (batch questions) []
  outputs_by_book (printing lent) = printing_fills lent

  -- ---- places
  places_by_book : (place : Place) → step_place words place ≡ place_by place book
  unfolding step_place place_by
  places_by_book place = rw (step_accepted many words book table, key_sought place)

  -- ---- lines of batches
  line_by_book : (q : Question) → answered words q ≡ line_by many book q
  unfolding answered held_by rank_by line_by
  line_by_book q = ap (λ (r : Reply). record { key = q.key; held = get_or r.numbers 0 0; rank = get_or r.numbers 1 0 }) (lookup_replies q.key)

  lines_by_book : (questions : List Question) → batch_after words questions ≡ lines_by many questions book
  unfolding batch_after lines_by
  lines_by_book questions =
      ap₂ (λ (number : ℕ) (lines : List Question). unless_refused number lines questions) (batch_refused many words book table questions)
      (map_same (answered words) (line_by many book) questions (all_always (λ q. answered words q ≡ line_by many book q) line_by_book questions))

  pub answers : Answers many words book
  answers =
      record {
        replies = replies_by_book;
        corrections = corrections_by_book;
        outputs = outputs_by_book;
        places = places_by_book;
        lines = lines_by_book;
      }
