-- A load counts as its set-up and operations. Assumes nothing.
use mathlib.Core.Bool.{true, false}
use mathlib.Core.List.{List, [], ◌∷◌, ◌++◌, map, flat_map}
use mathlib.Core.Logic.{◌≢◌}
use mathlib.Core.Path.{◌≡◌, refl, sym, ap, ◌∙◌}
use Prim.Native.Nat.{ℕ, suc}
use native.Mathlib.Omega.{arith}
use lib.Dec.{eqb}
use lib.ListN.{length, length-map}
use lib.Signed.{le_z_yes}
use borrow.Author.Tests.{not-false, eqb-true, eqb-false, ne_eqb, lt-ltb, le-ltb}
use Rattle.lists.specs.Lists.{All, member}
use Rattle.lists.proofs.Tests.{by_test}
use Rattle.lists.proofs.Keep.{all_append}
use Rattle.measure.proofs.Stored.{unmeasured_right}
use Rattle.table.specs.Contents.{Contents, Valid, IsKey, new_order, entry_keys, keys_in}
use Rattle.table.specs.Table.{fresh}
use Rattle.call_sets.specs.Sets.{joined}
use Rattle.call_sets.specs.Load.{Operation, inserting, deleting, looking_up, operations, plain, done, loaded}
use Rattle.call_changes.specs.Done.{with_done}
use Rattle.call_changes.proofs.Sets.{joined_length}
use Rattle.call_changes.proofs.Loading.{key_of, AboutKeys, with_all_done, done_valid, operations_keys, blank_valid}
use Rattle.call_meaning.specs.Reasons.{wrong_length, wrong_order, zero_key, wrong_measure}
use Rattle.call_meaning.specs.Calls.{load_refusal}
use Rattle.call_replies.proofs.Refusals.{none_applies}
use Rattle.table_limits.specs.Lengths.{slots_for}
use Rattle.table_limits.proofs.Lengths.{slots_for_some}
use Rattle.history.specs.Call.{Call, set_up, build, reading, insert, delete, lookup, range, writing, step, load, batch, printing, Lent, run, runs, Opening, by_set_up, by_load, opened, Accepted, History, calls_of, call_for, calls_of_load, stands_for, spelled_out}
use Rattle.history.specs.Book.{blank, refusal_by, note, notes, book_of}
use Rattle.history.specs.Theorems.{Table, LoadCounts, LoadsSpelledOut}
use Rattle.history.proofs.Running.{runs_note, table_from_book, first_noted, first_leaves}

-- ---- the book, operation by operation
module _ (many : ℕ) where
  -- an operation is noted as the rules of a load say, "a refused one counts as done"
  note_operation : (operation : Operation) (book : Contents) → IsKey (key_of operation) → Valid many book
      → note many (call_for operation) book ≡ with_done many operation book
  unfolding note refusal_by zero_key wrong_measure done
  note_operation (inserting key) book right valid =
      let nonzero : eqb key 0 ≡ false = ne_eqb key 0 (λ e. omega arith) in
      let more = joined (plain key) book.entries in
      let size : length (entry_keys more) ≡ suc (length book.entries) = length-map more (λ e. e.key) ∙ joined_length (plain key) book.entries in
      by_test (member key (keys_in book))
      (λ held. rw (nonzero, unmeasured_right, held))
      (λ absent.
      by_test (eqb (length book.entries) many)
      (λ e.
      let full = eqb-true (length book.entries) many e in
      rw (nonzero, unmeasured_right, absent, e, lt-ltb many (length (entry_keys more)) (omega arith)))
      (λ e.
      let apart : length book.entries ≢ many = eqb-false (length book.entries) many e in
      rw (nonzero, unmeasured_right, absent, e, le-ltb many (length (entry_keys more)) (omega (arith, valid.keys_fit, length-map book.entries (λ e. e.key))))))
  note_operation (deleting key) book right valid =
      let nonzero : eqb key 0 ≡ false = ne_eqb key 0 (λ e. omega arith) in
      by_test (member key (keys_in book)) (λ held. rw (nonzero, held)) (λ absent. rw (nonzero, absent))
  note_operation (looking_up key) book right valid = rw (ne_eqb key 0 (λ e. omega arith))

  note_operations : (ops : List Operation) (book : Contents) → AboutKeys ops → Valid many book
      → notes many (map call_for ops) book ≡ with_all_done many ops book
  note_operations [] book right valid = refl
  note_operations (operation ∷ ops) book right valid =
      ap (notes many (map call_for ops)) (note_operation operation book right.0 valid)
      ∙ note_operations ops (with_done many operation book) right.1 (done_valid many operation book right.0 valid)

  -- a load is noted as its calls are
  counts_in_book : (order seed count : ℕ) → new_order order ≡ true → (book : Contents)
      → note many (load order seed count) book ≡ notes many (calls_of_load order seed count) book
  unfolding loaded
  counts_in_book order seed count right book =
      let ops = operations seed count in
      first_noted many (by_load order seed count) right book
      ∙ sym (note_operations ops (blank order 0) (operations_keys seed count) (blank_valid many order 0 right (omega arith)))
      ∙ sym (ap (notes many (map call_for ops)) (first_noted many (by_set_up order 0) right book))

  -- and a refused one not at all
  refused_noted : (order seed count : ℕ) → new_order order ≡ false → (book : Contents) → note many (load order seed count) book ≡ book
  unfolding note refusal_by wrong_order
  refused_noted order seed count wrong book = rw wrong

-- ---- the words
operations_lent : (ops : List Operation) → AboutKeys ops → All Lent (map call_for ops)
operations_lent [] right = tt
operations_lent (inserting key ∷ ops) right = ((right.0.1, omega arith, (le_z_yes tt, le_z_yes tt)), operations_lent ops right.1)
operations_lent (deleting key ∷ ops) right = (right.0.1, operations_lent ops right.1)
operations_lent (looking_up key ∷ ops) right = (right.0.1, operations_lent ops right.1)

counts_in_table : (many : ℕ) (words : List ℕ) → Table many words → (order seed count : ℕ) → new_order order ≡ true
    → run (load order seed count) words ≡ runs (calls_of_load order seed count) words
unfolding loaded
counts_in_table many words table order seed count right =
    let ops = operations seed count in
    let keys = operations_keys seed count in
    let valid = blank_valid many order 0 right (omega arith) in
    first_leaves many words table (by_load order seed count) right
    ∙ ap (fresh many) (sym (note_operations many ops (blank order 0) keys valid))
    ∙ sym (runs_note many table.some table.most (map call_for ops) (operations_lent ops keys) (run (set_up order 0) words) (blank order 0) valid
    (first_leaves many words table (by_set_up order 0) right)).0

module _ (words : List ℕ) (order : ℕ) (accepted : load_refusal words order ≡ 0) where
  spared : (eqb (slots_for (length words)) 0 ≡ false) × (new_order order ≡ true)
  unfolding load_refusal wrong_length wrong_order
  spared =
      let none = none_applies (wrong_length words ∷ wrong_order order ∷ []) (omega arith) accepted in
      (none.0, not-false (new_order order) none.1.0)

  -- words over which a load is accepted are a table
  table_here : Table (slots_for (length words)) words
  table_here =
      let sized = slots_for_some (length words) (eqb-false (slots_for (length words)) 0 spared.0) in
      record { some = sized.some; most = sized.within; long = sized.long }

pub load_counts : LoadCounts
unfolding refusal_by wrong_order
load_counts =
    record {
      table = λ words order seed count e.
          counts_in_table (slots_for (length words)) words (table_here words order e) order seed count (spared words order e).1;
      book = λ many book order seed count e.
          counts_in_book many order seed count (not-false (new_order order) (none_applies (wrong_order order ∷ []) (omega arith) e).0) book;
    }

-- ---- whole histories
notes_append : (many : ℕ) (calls more : List Call) (book : Contents) → notes many (calls ++ more) book ≡ notes many more (notes many calls book)
notes_append many [] more book = refl
notes_append many (call ∷ calls) more book = notes_append many calls more (note many call book)

-- a call is noted as the calls that it stands for
stands_noted : (many : ℕ) (call : Call) (book : Contents) → notes many (stands_for call) book ≡ note many call book
stands_noted many (set_up order salt) book = refl
stands_noted many (build order salt list lengths corrections) book = refl
stands_noted many (reading bytes) book = refl
stands_noted many (insert key measure) book = refl
stands_noted many (delete key) book = refl
stands_noted many (lookup key) book = refl
stands_noted many (range low high output) book = refl
stands_noted many (writing output) book = refl
stands_noted many (step place) book = refl
stands_noted many (batch questions) book = refl
stands_noted many (printing output) book = refl
stands_noted many (load order seed count) book =
    by_test (new_order order)
    (λ e. rw e (sym (counts_in_book many order seed count e book)))
    (λ e. rw e (sym (refused_noted many order seed count e book)))

spelled_noted : (many : ℕ) (calls : List Call) (book : Contents) → notes many (spelled_out calls) book ≡ notes many calls book
unfolding flat_map
spelled_noted many [] book = refl
spelled_noted many (call ∷ calls) book =
    notes_append many (stands_for call) (spelled_out calls) book
    ∙ ap (notes many (spelled_out calls)) (stands_noted many call book)
    ∙ spelled_noted many calls (note many call book)

stands_lent : (call : Call) → Lent call → All Lent (stands_for call)
stands_lent (set_up order salt) lent = (lent, tt)
stands_lent (build order salt list lengths corrections) lent = (lent, tt)
stands_lent (reading bytes) lent = (lent, tt)
stands_lent (insert key measure) lent = (lent, tt)
stands_lent (delete key) lent = (lent, tt)
stands_lent (lookup key) lent = (lent, tt)
stands_lent (range low high output) lent = (lent, tt)
stands_lent (writing output) lent = (lent, tt)
stands_lent (step place) lent = (lent, tt)
stands_lent (batch questions) lent = (lent, tt)
stands_lent (printing output) lent = (lent, tt)
stands_lent (load order seed count) lent =
    by_test (new_order order) (λ e. rw e ((lent.0, omega arith), operations_lent (operations seed count) (operations_keys seed count))) (λ e. rw e tt)

spelled_lent : (calls : List Call) → All Lent calls → All Lent (spelled_out calls)
unfolding flat_map
spelled_lent [] lent = tt
spelled_lent (call ∷ calls) lent =
    all_append Lent (stands_for call) (spelled_out calls) (stands_lent call lent.0) (spelled_lent calls lent.1)

without_loads : (history : History) → (other : History) × (calls_of other ≡ spelled_out (calls_of history))
unfolding flat_map
without_loads history = go history.first history.accepted history.later history.lent
  where
    go : (first : Opening) → Accepted first → (later : List Call) → All Lent (opened first ∷ later) → (other : History) × (calls_of other ≡ spelled_out (opened first ∷ later))
    go (by_set_up order salt) right later lent =
        (record { first = by_set_up order salt; accepted = right; later = spelled_out later; lent = (lent.0, spelled_lent later lent.1) }, refl)
    go (by_load order seed count) right later lent =
        let ops = operations seed count in (
          record {
            first = by_set_up order 0;
            accepted = right;
            later = map call_for ops ++ spelled_out later;
            lent = ((lent.0.0, omega arith), all_append Lent (map call_for ops) (spelled_out later) (operations_lent ops (operations_keys seed count)) (spelled_lent later lent.1));
          },
          rw right,
        )

pub loads_spelled_out : LoadsSpelledOut
loads_spelled_out =
    record {
      plain = without_loads;
      table = λ many words history table.
          let (other, e) = without_loads history in
          ap (λ (calls : List Call). runs calls words) (sym e)
          ∙ (table_from_book many words other table).0
          ∙ ap (λ (calls : List Call). fresh many (book_of many calls)) e
          ∙ ap (fresh many) (spelled_noted many (calls_of history) (blank 0 0))
          ∙ sym (table_from_book many words history table).0;
      book = λ many history. spelled_noted many (calls_of history) (blank 0 0);
    }
