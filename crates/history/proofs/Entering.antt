-- A call over the fresh table of a book leaves the fresh table of the book in which it is noted, and that book is valid again. Assumes a
-- valid book, and inputs that can be lent.
use mathlib.Core.Bool.{false}
use mathlib.Core.List.{List}
use mathlib.Core.Logic.{◌≢◌}
use mathlib.Core.Path.{◌≡◌, refl, sym, ap, ◌∙◌, subst}
use Prim.Native.Nat.{ℕ, ◌^◌, ◌≤◌, ◌<◌}
use native.Mathlib.Omega.{arith}
use lib.IntN.{ℤ}
use lib.ListN.{length, length-map}
use borrow.Author.Tests.{not-false, eqb-false, ltb-false}
use Rattle.lists.specs.Lists.{All, Rising}
use Rattle.lists.proofs.Keep.{all_both, every_says}
use Rattle.measure.specs.Measure.{Measure, is_measure, measures_beside}
use Rattle.measure.proofs.Beside.{measured_says}
use Rattle.table.specs.Contents.{Entry, Contents, Valid, IsKey, new_order, rising_keys, entry_keys, keys_in}
use Rattle.table.proofs.Entries.{with_keys, with_right}
use Rattle.table.specs.Table.{fresh}
use Rattle.image.specs.Image.{is_image, read_image}
use Rattle.image.proofs.Judging.{is_image_valid}
use Rattle.table_limits.specs.Lengths.{slots_for}
use Rattle.call_sets.specs.Sets.{joined}
use Rattle.call_replies.specs.Replies.{unless_refused}
use Rattle.call_meaning.specs.Reasons.{wrong_order, zero_key, low_above_high, not_rising, not_an_image, output_too_short, wrong_measure, wrong_measures}
use Rattle.call_meaning.specs.Calls.{rewritten, grown, shrunk, set_up_after, load_after, build_after, read_after, insert_after, delete_after}
use Rattle.call_changes.proofs.Sets.{joined_length, joined_valid, without_valid}
use Rattle.call_changes.proofs.Loading.{blank_valid, loaded_valid}
use Rattle.table_decode.proofs.RisingKeys.{rising_says}
use Rattle.history.specs.Call.{Call, set_up, build, reading, insert, delete, lookup, range, writing, step, load, batch, printing, Lent, run}
use Rattle.history.specs.Book.{blank, listed, with_key, without_key, loaded_book, entered, reasons, refusal_by, note}
use Rattle.call_replies.proofs.Refusals.{none_applies, refused_through, either_way, both_same}
use Rattle.call_meaning.proofs.Shows.{Shows}
use Rattle.history.proofs.Refused.{set_up_refused, load_refused, build_refused, reading_refused, insert_refused, delete_refused}

-- ---- the table
module _ (many : ℕ) (words : List ℕ) (book : Contents) (table : Shows many words book) where
  -- what a call that writes the table of some contents, unless it is refused, leaves
  written : (number other : ℕ) (c d : Contents) → number ≡ other → c ≡ d
      → unless_refused number (rewritten words c) words ≡ fresh many (unless_refused other d book)
  unfolding rewritten
  written number other c d e f = rw (e, f, table.slots, table.exactly) (refused_through (fresh many) other d book)

  -- what a call that writes no word leaves
  unwritten : (call : Call) → words ≡ fresh many (unless_refused (refusal_by many call book) book book)
  unwritten call = table.exactly ∙ ap (fresh many) (sym (both_same (refusal_by many call book) book))

  pub run_notes : (call : Call) → run call words ≡ fresh many (note many call book)
  unfolding note set_up_after load_after build_after read_after insert_after delete_after grown shrunk
  run_notes (set_up order salt) = written _ _ (blank order salt) _ (set_up_refused many words book table order salt) refl
  run_notes (build order salt list lengths corrections) =
      written _ _ (listed order salt list lengths corrections) _ (build_refused many words book table order salt list lengths corrections) refl
  run_notes (reading bytes) = written _ _ (read_image bytes) _ (reading_refused many words book table bytes) refl
  run_notes (insert key measure) =
      written _ _ (grown words key measure) _ (insert_refused many words book table key measure) (ap (with_key key measure) table.holds)
  run_notes (delete key) = written _ _ (shrunk words key) _ (delete_refused many words book table key) (ap (without_key key) table.holds)
  run_notes (lookup key) = unwritten (lookup key)
  run_notes (range low high lent) = unwritten (range low high lent)
  run_notes (writing lent) = unwritten (writing lent)
  run_notes (step place) = unwritten (step place)
  run_notes (batch questions) = unwritten (batch questions)
  run_notes (printing output) = unwritten (printing output)
  run_notes (load order seed count) =
      written _ _ (loaded_book (slots_for (length words)) order seed count) _ (load_refused many words book table order seed count)
      (ap (λ (m : ℕ). loaded_book m order seed count) table.slots)

-- ---- the book
module _ (many : ℕ) (book : Contents) (valid : Valid many book) where
  -- no reason that the book gives for refusing the call applies
  abbrev Spared : Call → Type 0
  Spared call = All (λ r. r.applies ≡ false) (reasons many call book)

  listed_valid : (order salt : ℕ) (list lengths : List ℕ) (corrections : List ℤ) → Lent (build order salt list lengths corrections)
      → Spared (build order salt list lengths corrections) → Valid many (listed order salt list lengths corrections)
  unfolding new_order wrong_order not_rising wrong_measures
  listed_valid order salt list lengths corrections lent spared =
      let rising = rising_says list (not-false (rising_keys list) spared.1.0) in
      let measures = measures_beside lengths corrections in
      let same = sym (with_keys list measures) in
      let tested = (measured_says (length list) lengths corrections (not-false _ spared.1.1.0)).2 in
      record {
        order_right = not-false (new_order order) spared.0;
        salt_right = lent.1;
        keys_right = subst (All IsKey) same (all_both (λ k. 1 ≤ k) (λ k. k < 2 ^ 64) list rising.1 lent.2);
        keys_rise = subst Rising same rising.0;
        keys_fit = omega (arith, ap length same, ltb-false many (length list) spared.1.1.1.0);
        measures_right = with_right list measures (every_says is_measure measures tested);
      }

  read_valid : (bytes : List ℕ) → Lent (reading bytes) → Spared (reading bytes) → Valid many (read_image bytes)
  unfolding not_an_image
  read_valid bytes lent spared =
      let image = is_image_valid bytes (not-false (is_image bytes) spared.0) lent in
      record {
        order_right = image.order_right;
        salt_right = image.salt_right;
        keys_right = image.keys_right;
        keys_rise = image.keys_rise;
        keys_fit = ltb-false many (length (keys_in (read_image bytes))) spared.1.0;
        measures_right = image.measures_right;
      }

  key_joins : (key : ℕ) (measure : Measure) → Lent (insert key measure) → Spared (insert key measure) → Valid many (with_key key measure book)
  unfolding zero_key wrong_measure
  key_joins key measure lent spared =
      let some : key ≢ 0 = eqb-false key 0 spared.0 in
      let entry : Entry = record { key = key; measure = measure } in
      let more = joined entry book.entries in
      joined_valid entry many book valid (omega arith, lent.0) (not-false (is_measure measure) spared.1.0) spared.1.1.0
      (omega (
        arith,
        joined_length entry book.entries,
        length-map more (λ e. e.key),
        length-map book.entries (λ e. e.key),
        ltb-false many (length (entry_keys more)) spared.1.1.1.0,
      ))

  numbered : (call : Call) → All (λ r. 1 ≤ r.number) (reasons many call book)
  unfolding wrong_order not_rising not_an_image zero_key low_above_high output_too_short wrong_measure wrong_measures
  numbered (set_up order salt) = omega arith
  numbered (build order salt list lengths corrections) = omega arith
  numbered (reading bytes) = omega arith
  numbered (insert key measure) = omega arith
  numbered (delete key) = omega arith
  numbered (lookup key) = omega arith
  numbered (range low high output) = omega arith
  numbered (writing output) = omega arith
  numbered (step place) = tt
  numbered (load order seed count) = omega arith
  numbered (batch questions) = omega arith
  numbered (printing output) = omega arith

  entered_valid : (call : Call) → Lent call → Spared call → Valid many (entered many call book)
  unfolding wrong_order
  entered_valid (set_up order salt) lent spared = blank_valid many order salt (not-false (new_order order) spared.0) lent.1
  entered_valid (build order salt list lengths corrections) lent spared = listed_valid order salt list lengths corrections lent spared
  entered_valid (reading bytes) lent spared = read_valid bytes lent spared
  entered_valid (insert key measure) lent spared = key_joins key measure lent spared
  entered_valid (delete key) lent spared = without_valid key many book valid
  entered_valid (lookup key) lent spared = valid
  entered_valid (range low high output) lent spared = valid
  entered_valid (writing output) lent spared = valid
  entered_valid (step place) lent spared = valid
  entered_valid (batch questions) lent spared = valid
  entered_valid (printing output) lent spared = valid
  entered_valid (load order seed count) lent spared = loaded_valid many order seed count (not-false (new_order order) spared.0)

  pub note_valid : (call : Call) → Lent call → Valid many (note many call book)
  unfolding note refusal_by
  note_valid call lent =
      either_way (Valid many) (refusal_by many call book) (entered many call book) book
      (λ e. entered_valid call lent (none_applies (reasons many call book) (numbered call) e)) valid
