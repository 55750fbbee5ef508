-- The book: an order, a salt and a set of keys, "fed the calls with their inputs, no reply and no word of its own table" (01); "a set, the book's
-- too, is now one of keys with their measures" (02, N4); "the book also keeps the salt" (02, N9); and what the calls answer by the book. M, the number of slots, is `many`. Assumes
-- nothing.
use Rattle.std.specs.Prelude.{cond, not, List, [], ◌∷◌, ◌++◌, map, ℕ, ltb, ℤ, pos, length, get_or}
use Rattle.lists.specs.Lists.{member, overwrite}
use Rattle.measure.specs.Measure.{Measure, measures_beside}
use Rattle.treap.specs.Blocks.{blocks_met, blocks_met_by_all}
use Rattle.table.specs.Contents.{Contents, keys_in, priority_in, measure_in, entries_with}
use Rattle.image.specs.Image.{image_of, read_image}
use Rattle.call_sets.specs.Sets.{joined, without}
use Rattle.call_sets.specs.Load.{loaded}
use Rattle.intervals.specs.Intervals.{within}
use Rattle.table_least.specs.LeastKey.{least_within}
use Rattle.call_replies.specs.Replies.{Reply, Reason, first_that_applies, unless_refused}
use Rattle.call_meaning.specs.Reasons.{wrong_order, zero_key, low_above_high, not_rising, not_an_image, output_too_short, wrong_measure, wrong_measures}
use Rattle.call_meaning.specs.Calls.{rank_in, standing_in}
use Rattle.call_step.specs.Steps.{end_reply, yielded, moved}
use Rattle.call_step.specs.declared.Place.{Place}
use Rattle.call_batch.specs.Batch.{keys_of}
use Rattle.call_batch.specs.declared.Question.{Question}
use Rattle.text_pages.specs.Pages.{pages_of}
use Rattle.history.specs.Call.{Call, set_up, build, reading, insert, delete, lookup, range, writing, step, load, batch, printing}

-- ---- what is noted
-- "Set-up ..: the given order, no keys" (01); "the book also keeps the salt, as the calls give it" (02, N9).
abbrev pub blank : ℕ → ℕ → Contents
blank order salt = record { order = order; salt = salt; entries = [] }

-- "Build ..: the given order and the listed keys", with the given salt and the measures beside the keys.
abbrev pub listed : ℕ → ℕ → List ℕ → List ℕ → List ℤ → Contents
listed order salt list lengths corrections = record { order = order; salt = salt; entries = entries_with list (measures_beside lengths corrections) }

-- "Insert ..: the key joins the set", with its measure.
abbrev pub with_key : ℕ → Measure → Contents → Contents
with_key key measure book =
    record { order = book.order; salt = book.salt; entries = joined (record { key = key; measure = measure }) book.entries }

-- "Delete ..: the key leaves it", and its measure with it.
abbrev pub without_key : ℕ → Contents → Contents
without_key key book = record { order = book.order; salt = book.salt; entries = without key book.entries }

-- "A load sets up the table with a given order, then does 0 to 65,535 operations .. The end set must equal what these rules give
-- without the treap" (02, N1); "loads use salt zero" (02, N9): the given order, salt zero, and the end set of its rules, over M slots, all
-- unmeasured.
abbrev pub loaded_book : ℕ → ℕ → ℕ → ℕ → Contents
loaded_book many order seed count = record { order = order; salt = 0; entries = loaded many seed count }

-- The book after an accepted call: "Reading ..: the order and set whose image the bytes are", and the salt; "at a lookup, range or writing, the book
-- stays as it was", and steps, batches of lookups and printings "change neither table nor book".
abbrev pub entered : ℕ → Call → Contents → Contents
entered many (set_up order salt) book = blank order salt
entered many (build order salt list lengths corrections) book = listed order salt list lengths corrections
entered many (reading bytes) book = read_image bytes
entered many (insert key measure) book = with_key key measure book
entered many (delete key) book = without_key key book
entered many (lookup key) book = book
entered many (range low high output) book = book
entered many (writing output) book = book
entered many (step place) book = book
entered many (load order seed count) book = loaded_book many order seed count
entered many (batch questions) book = book
entered many (printing output) book = book

-- ---- refusals
-- "Refusals 2, 3, 5 and 6 are judged on the input, 8 to 10 on input, book and M"; so is 12, on the input, which document 02 adds to insert and
-- build.
abbrev pub book_holds : Contents → ℕ → Reason
book_holds book key = record { number = 8; applies = member key (keys_in book) }

abbrev pub book_lacks : Contents → ℕ → Reason
book_lacks book key = record { number = 9; applies = not (member key (keys_in book)) }

abbrev pub too_many : ℕ → ℕ → Reason
too_many many n = record { number = 10; applies = ltb many n }

-- The reasons for which a call is turned down, by the book: 1 and 7 never apply.
abbrev pub reasons : ℕ → Call → Contents → List Reason
reasons many (set_up order salt) book = wrong_order order ∷ []
reasons many (build order salt list lengths corrections) book =
    wrong_order order ∷ not_rising list ∷ wrong_measures list lengths corrections ∷ too_many many (length list) ∷ []
reasons many (reading bytes) book = not_an_image bytes ∷ too_many many (length (keys_in (read_image bytes))) ∷ []
reasons many (insert key measure) book =
    zero_key key ∷ wrong_measure measure ∷ book_holds book key ∷ too_many many (length (keys_in (with_key key measure book))) ∷ []
reasons many (delete key) book = zero_key key ∷ book_lacks book key ∷ []
reasons many (lookup key) book = zero_key key ∷ []
reasons many (range low high output) book =
    low_above_high low high ∷ output_too_short (length output) (length (within low high (keys_in book))) ∷ []
reasons many (writing output) book = output_too_short (length output) (length (image_of book)) ∷ []
reasons many (step place) book = []
reasons many (load order seed count) book = wrong_order order ∷ []
reasons many (batch questions) book = not_rising (keys_of questions) ∷ []
reasons many (printing output) book = output_too_short (length output) (length (pages_of book)) ∷ []

unfoldable pub refusal_by : ℕ → Call → Contents → ℕ
refusal_by many call book = first_that_applies (reasons many call book)

-- ---- the book of a list of calls
-- "Set-up, unless 2 applies ..; build, unless 2, 5 or 10 ..; reading, unless 6 or 10 ..; insert, unless 3, 8 or 10 ..; delete, unless 3
-- or 9 .. Otherwise .. the book stays as it was. So it does under every refusal that document 02 adds to a call": 12 to build and insert. A
-- load's "checks are 1, 2".
unfoldable pub note : ℕ → Call → Contents → Contents
note many call book = unless_refused (refusal_by many call book) (entered many call book) book

abbrev pub notes : ℕ → List Call → Contents → Contents
notes many [] book = book
notes many (call ∷ calls) book = notes many calls (note many call book)

-- The book of a history; what stood in it before the first call does not matter.
abbrev pub book_of : ℕ → List Call → Contents
book_of many calls = notes many calls (blank 0 0)

-- ---- what the calls answer by the book
-- The numbers of an accepted call's reply; a lookup's length comes last.
abbrev pub numbers_by : Call → Contents → List ℕ
numbers_by (set_up order salt) book = []
numbers_by (build order salt list lengths corrections) book = []
numbers_by (reading bytes) book = []
numbers_by (insert key measure) book = rank_in (with_key key measure book) key ∷ []
numbers_by (delete key) book = rank_in book key ∷ []
numbers_by (lookup key) book =
    standing_in book key ++ (blocks_met book.order (priority_in book) (keys_in book) key ∷ (measure_in book.entries key).length ∷ [])
numbers_by (range low high output) book = length (within low high (keys_in book)) ∷ []
numbers_by (writing output) book = length (image_of book) ∷ []
numbers_by (step place) book = (cond place.done end_reply (yielded (least_within place.next place.high (keys_in book)))).numbers
numbers_by (load order seed count) book = []
numbers_by (batch questions) book = blocks_met_by_all book.order (priority_in book) (keys_in book) (keys_of questions) ∷ []
numbers_by (printing output) book = length (pages_of book) ∷ []

-- "A refusal returns its number, all other numbers zero".
abbrev pub zeros : Call → List ℕ
zeros (set_up order salt) = []
zeros (build order salt list lengths corrections) = []
zeros (reading bytes) = []
zeros (insert key measure) = 0 ∷ []
zeros (delete key) = 0 ∷ []
zeros (lookup key) = 0 ∷ 0 ∷ 0 ∷ 0 ∷ 0 ∷ 0 ∷ []
zeros (range low high output) = 0 ∷ []
zeros (writing output) = 0 ∷ []
zeros (step place) = 0 ∷ 0 ∷ []
zeros (load order seed count) = []
zeros (batch questions) = 0 ∷ []
zeros (printing output) = 0 ∷ []

unfoldable pub reply_by : ℕ → Call → Contents → Reply
reply_by many call book =
    record { refusal = refusal_by many call book; numbers = unless_refused (refusal_by many call book) (numbers_by call book) (zeros call) }

-- The correction that a lookup gives beside its numbers: the key's, zero when it is absent or not measured, or when the lookup is refused.
unfoldable pub correction_by : ℕ → ℕ → Contents → ℤ
correction_by many key book = unless_refused (refusal_by many (lookup key) book) (measure_in book.entries key).correction (pos 0)

-- What an accepted range, writing or printing leaves in its output, and what a refused one does; none where a call is lent none.
abbrev pub filled : Call → Contents → List ℕ
filled (set_up order salt) book = []
filled (build order salt list lengths corrections) book = []
filled (reading bytes) book = []
filled (insert key measure) book = []
filled (delete key) book = []
filled (lookup key) book = []
filled (range low high output) book = overwrite output 0 (within low high (keys_in book))
filled (writing output) book = overwrite output 0 (image_of book)
filled (step place) book = []
filled (load order seed count) book = []
filled (batch questions) book = []
filled (printing output) book = overwrite output 0 (pages_of book)

abbrev pub lent_output : Call → List ℕ
lent_output (set_up order salt) = []
lent_output (build order salt list lengths corrections) = []
lent_output (reading bytes) = []
lent_output (insert key measure) = []
lent_output (delete key) = []
lent_output (lookup key) = []
lent_output (range low high output) = output
lent_output (writing output) = output
lent_output (step place) = []
lent_output (load order seed count) = []
lent_output (batch questions) = []
lent_output (printing output) = output

unfoldable pub output_by : ℕ → Call → Contents → List ℕ
output_by many call book = unless_refused (refusal_by many call book) (filled call book) (lent_output call)

-- Where a step leaves its place.
unfoldable pub place_by : Place → Contents → Place
place_by place book = cond place.done place (moved (least_within place.next place.high (keys_in book)) place)

-- How a batch leaves its lines: "each line says what a lookup on its own says", the first two numbers of its reply, and "a refusal fills in
-- nothing".
unfoldable pub line_by : ℕ → Contents → Question → Question
line_by many book q =
    record {
      key = q.key;
      held = get_or (reply_by many (lookup q.key) book).numbers 0 0;
      rank = get_or (reply_by many (lookup q.key) book).numbers 1 0;
    }

unfoldable pub lines_by : ℕ → List Question → Contents → List Question
lines_by many questions book = unless_refused (refusal_by many (batch questions) book) (map (line_by many book) questions) questions
