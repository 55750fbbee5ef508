-- What is claimed of whole histories; the files of `proofs` prove it. Assumes nothing.
use Rattle.std.specs.Prelude.{true, false, cond, not, ◌&&◌, ◌||◌, List, ◌↔◌, ◌≡◌, ℕ, ◌<◌, ◌≤◌, eqb, ℤ, pos, length, take, get_or}
use Rattle.lists.specs.Lists.{All, Rising, keep, member}
use Rattle.measure.specs.Measure.{Measure, unmeasured}
use Rattle.table.specs.Layout.{most_slots, table_words}
use Rattle.table.specs.Contents.{Contents, Valid, keys_in, measure_in}
use Rattle.table.specs.Table.{fresh, Sound}
use Rattle.image.specs.Image.{image_of, read_image, is_image}
use Rattle.call_meaning.specs.Calls.{load_refusal, lookup_correction, write_refusal, write_reply, write_output}
use Rattle.call_step.specs.Steps.{step_place}
use Rattle.call_step.specs.declared.Place.{Place}
use Rattle.call_batch.specs.Batch.{batch_after}
use Rattle.call_batch.specs.declared.Question.{Question}
use Rattle.history.specs.Call.{Call, load, asks, Opening, opened, Accepted, History, calls_of, calls_of_load, spelled_out, run, runs, reply, output}
use Rattle.image.specs.Layout.{IsByte}
use Rattle.history.specs.Book.{listed, with_key, without_key, refusal_by, note, notes, book_of, reply_by, correction_by, output_by, place_by, lines_by}

-- "A table has M slots, M from 1 to 4,096, and lives in lent 64-bit words" (01); "its length is 4 + 8·M" (02, N9): any words of that number.
pub record Table (many : ℕ) (words : List ℕ) : Type 0 where
  -- "M from 1"
  pub some : 1 ≤ many
  -- "to 4,096"
  pub most : many ≤ most_slots
  -- "4 + 8·M"
  pub long : length words ≡ table_words many

-- The same order, the same salt and the same set, "one of keys with their measures": the same keys, and for each key the same measure.
abbrev pub Agree : Contents → Contents → Type 0
Agree c d =
    (c.order ≡ d.order)
    × (c.salt ≡ d.salt)
    × ((key : ℕ) → member key (keys_in c) ≡ member key (keys_in d))
    × ((key : ℕ) → measure_in c.entries key ≡ measure_in d.entries key)

-- The words of a table of M slots after a history, and its book.
abbrev pub table_after : History → List ℕ → List ℕ
table_after history words = runs (calls_of history) words

abbrev pub book_after : ℕ → History → Contents
book_after many history = book_of many (calls_of history)

-- ---- Demand 3: "a set, the book's too, is now one of keys with their measures" (02, N4); "the book also keeps the salt, as the calls give it,
-- and its fresh table has that salt" (02, N9)
-- After every history, over any words, the table is in every word the one built afresh from its book's order, salt and set, which has at
-- most M keys.
abbrev pub TableFromBook : Type 0
TableFromBook =
    (many : ℕ) (words : List ℕ) (history : History) → Table many words
    → (table_after history words ≡ fresh many (book_after many history)) × Valid many (book_after many history)

-- After two histories on equally many slots, over any words each, the tables agree in every word exactly when their books agree in
-- order, salt and set, the measures included; so "histories are compared where their books end with one salt", and where they do not.
abbrev pub TablesAgree : Type 0
TablesAgree =
    (many : ℕ) (words others : List ℕ) (one another : History) → Table many words → Table many others
    → ((table_after one words ≡ table_after another others) ↔ Agree (book_after many one) (book_after many another))

-- "A table's image is the output of an accepted writing, as long as the reply says".
abbrev pub written_image : List ℕ → List ℕ → List ℕ
written_image words lent = take (get_or (write_reply words lent).numbers 0 0) (write_output words lent)

-- "and byte for byte what the section Image lays down."
abbrev pub ImageWritten : Type 0
ImageWritten = (words lent : List ℕ) (sound : Sound words) → write_refusal words lent ≡ 0 → written_image words lent ≡ image_of sound.contents

-- Of every two sound tables, of any numbers of slots, the images agree in every byte exactly when the tables agree in order, salt and set, the
-- measures included: "matching images now also mean matching salts".
abbrev pub ImagesAgree : Type 0
ImagesAgree =
    (words others lent room : List ℕ) (sound : Sound words) (right : Sound others) → write_refusal words lent ≡ 0 → write_refusal others room ≡ 0
    → ((written_image words lent ≡ written_image others room) ↔ Agree sound.contents right.contents)

-- After two histories, on any numbers of slots, the images agree exactly when the books do.
abbrev pub HistoriesImagesAgree : Type 0
HistoriesImagesAgree =
    (many several : ℕ) (words others lent room : List ℕ) (one another : History) → Table many words → Table several others
    → write_refusal (table_after one words) lent ≡ 0 → write_refusal (table_after another others) room ≡ 0
    → ((written_image (table_after one words) lent ≡ written_image (table_after another others) room)
    ↔ Agree (book_after many one) (book_after several another))

-- "Demand 3 is a single claim about whole histories": order, salt, keys and measures at once.
pub record HistoryIndependence : Type 0 where
  pub table_from_book : TableFromBook
  pub tables_agree : TablesAgree
  pub image_written : ImageWritten
  pub images_agree : ImagesAgree
  pub histories_images_agree : HistoriesImagesAgree

-- ---- Demand 2, over histories: after every history each call, whatever it is handed, answers what the book says
pub record Answers (many : ℕ) (words : List ℕ) (book : Contents) : Type 0 where
  pub replies : (call : Call) → reply call words ≡ reply_by many call book
  pub corrections : (key : ℕ) → lookup_correction words key ≡ correction_by many key book
  pub outputs : (call : Call) → output call words ≡ output_by many call book
  pub places : (place : Place) → step_place words place ≡ place_by place book
  pub lines : (questions : List Question) → batch_after words questions ≡ lines_by many questions book

abbrev pub AnswersFromBook : Type 0
AnswersFromBook = (many : ℕ) (words : List ℕ) (history : History) → Table many words → Answers many (table_after history words) (book_after many history)

-- ---- calls that only ask
-- "At a lookup, range or writing, the book stays as it was .. steps, and calls of document 02 that write no word of this table, may come
-- anywhere between, and change neither table nor book": a call that only asks leaves every word and the book, and a history without such
-- calls leaves the same words and the same book.
pub record AskingChangesNothing : Type 0 where
  pub table : (call : Call) → asks call ≡ true → (words : List ℕ) → run call words ≡ words
  pub book : (call : Call) → asks call ≡ true → (many : ℕ) (book : Contents) → note many call book ≡ book
  pub table_after_lem : (history : History) (words : List ℕ) → table_after history words ≡ runs (keep (λ call. not (asks call)) (calls_of history)) words
  pub book_after_lem : (many : ℕ) (history : History) → book_after many history ≡ book_of many (keep (λ call. not (asks call)) (calls_of history))

-- ---- the beginning of a history
-- A first call, a set-up or a load, is accepted over any words exactly when its order may be set up, as `History` asks.
abbrev pub FirstAccepted : Type 0
FirstAccepted =
    (many : ℕ) (words : List ℕ) (first : Opening) → Table many words → (((reply (opened first) words).refusal ≡ 0) ↔ Accepted first)

-- What the book held before it does not matter.
abbrev pub AnyStart : Type 0
AnyStart = (many : ℕ) (history : History) (before : Contents) → notes many (calls_of history) before ≡ book_after many history

-- ---- loads
-- "In a history a load counts as its set-up and operations": an accepted load leaves the words, and the book, that these calls leave.
pub record LoadCounts : Type 0 where
  -- over any words, and from any seed
  pub table : (words : List ℕ) (order seed count : ℕ) → load_refusal words order ≡ 0
      → run (load order seed count) words ≡ runs (calls_of_load order seed count) words
  -- in any book, for any M
  pub book : (many : ℕ) (book : Contents) (order seed count : ℕ) → refusal_by many (load order seed count) book ≡ 0
      → note many (load order seed count) book ≡ notes many (calls_of_load order seed count) book

-- The same of whole histories: with the calls that it stands for in the place of each load, they are histories again, and leave the
-- same words and the same book.
pub record LoadsSpelledOut : Type 0 where
  pub plain : (history : History) → (other : History) × (calls_of other ≡ spelled_out (calls_of history))
  pub table : (many : ℕ) (words : List ℕ) (history : History) → Table many words → runs (spelled_out (calls_of history)) words ≡ table_after history words
  pub book : (many : ℕ) (history : History) → book_of many (spelled_out (calls_of history)) ≡ book_after many history

-- ---- what the claims stand on
-- Order, salt and set agree exactly when order, salt and list of entries, by rising key, do.
abbrev pub AgreeAsLists : Type 0
AgreeAsLists =
    (many several : ℕ) (c d : Contents) → Valid many c → Valid several d → (Agree c d ↔ ((c.order ≡ d.order) × (c.salt ≡ d.salt) × (c.entries ≡ d.entries)))

-- The writing of a sound table is accepted exactly when the output has room for the image.
abbrev pub WritingAccepted : Type 0
WritingAccepted =
    (words lent : List ℕ) (sound : Sound words) → ((write_refusal words lent ≡ 0) ↔ (length (image_of sound.contents) ≤ length lent))

-- The book's rules are what the documents call them.
pub record BookRules : Type 0 where
  -- "the listed keys", and where the list rises and neither a length nor a correction is "missing or left over", each with those beside it
  pub lists : (order salt : ℕ) (list lengths : List ℕ) (corrections : List ℤ) → keys_in (listed order salt list lengths corrections) ≡ list
  pub lists_measures : (order salt : ℕ) (list lengths : List ℕ) (corrections : List ℤ) → Rising list → length lengths ≡ length list
      → length corrections ≡ length list → (i : ℕ) → i < length list
      → measure_in (listed order salt list lengths corrections).entries (get_or list i 0) ≡ record { length = get_or lengths i 0; correction = get_or corrections i (pos 0) }
  -- "the key joins the set", and where it was not in it, it has the given measure, and every other key its own
  pub joins : (key other : ℕ) (measure : Measure) (book : Contents)
      → member other (keys_in (with_key key measure book)) ≡ (eqb other key || member other (keys_in book))
  pub joins_measures : (key other : ℕ) (measure : Measure) (book : Contents) → member key (keys_in book) ≡ false
      → measure_in (with_key key measure book).entries other ≡ cond (eqb other key) measure (measure_in book.entries other)
  -- "the key leaves it", and its measure with it; every other key keeps its own
  pub leaves : (key other : ℕ) (book : Contents) → member other (keys_in (without_key key book)) ≡ (not (eqb other key) && member other (keys_in book))
  pub leaves_measures : (key other : ℕ) (book : Contents)
      → measure_in (without_key key book).entries other ≡ cond (eqb other key) unmeasured (measure_in book.entries other)
  -- neither changes order or salt: "the book also keeps the salt, as the calls give it" (02, N9)
  pub joins_keeps : (key : ℕ) (measure : Measure) (book : Contents)
      → ((with_key key measure book).order ≡ book.order) × ((with_key key measure book).salt ≡ book.salt)
  pub leaves_keeps : (key : ℕ) (book : Contents) → ((without_key key book).order ≡ book.order) × ((without_key key book).salt ≡ book.salt)
  -- "the order and set whose image the bytes are", with their salt, where 6 does not apply
  pub reads : (bytes : List ℕ) → All IsByte bytes → is_image bytes ≡ true → Valid most_slots (read_image bytes) × (bytes ≡ image_of (read_image bytes))
  -- 6 does not apply to an image "that the writer makes for any order and any set of at most 4,096 keys", and that order, salt and set are read
  pub read_back : (c : Contents) → Valid most_slots c → (is_image (image_of c) ≡ true) × (read_image (image_of c) ≡ c)
