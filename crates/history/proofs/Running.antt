-- After a history the table is the fresh one of its book, whatever its words were before. Assumes nothing.
use mathlib.Core.Bool.{true}
use mathlib.Core.List.{List, [], ◌∷◌}
use mathlib.Core.Logic.{◌↔◌}
use mathlib.Core.Path.{◌≡◌, sym, ap, ◌∙◌}
use Prim.Native.Nat.{ℕ, ◌≤◌}
use native.Mathlib.Omega.{arith}
use borrow.Author.Tests.{not-false}
use Rattle.lists.specs.Lists.{All}
use Rattle.table.specs.Layout.{most_slots}
use Rattle.table.specs.Contents.{Contents, Valid, new_order}
use Rattle.table.specs.Table.{fresh, Sound}
use Rattle.call_changes.proofs.Loading.{blank_valid, loaded_valid}
use Rattle.call_replies.specs.Replies.{first_that_applies}
use Rattle.call_meaning.specs.Reasons.{wrong_length, wrong_order}
use Rattle.call_meaning.specs.Calls.{rewritten, set_up_refusal, set_up_reply, set_up_after, load_refusal, load_reply, load_after}
use Rattle.call_meaning.proofs.Judged.{slots_here, right_length}
use Rattle.history.specs.Call.{Call, Lent, run, runs, reply, Opening, by_set_up, by_load, opened, Accepted, History, calls_of}
use Rattle.history.specs.Book.{blank, entered, refusal_by, note, notes}
use Rattle.history.specs.Theorems.{Table, TableFromBook, FirstAccepted, AnyStart, table_after, book_after}
use Rattle.call_replies.proofs.Refusals.{none_applies}
use Rattle.call_meaning.proofs.Shows.{shows}
use Rattle.history.proofs.Entering.{run_notes, note_valid}

-- ---- calls after the first
module _ (many : ℕ) (some : 1 ≤ many) (most : many ≤ most_slots) where
  pub runs_note : (calls : List Call) → All Lent calls → (words : List ℕ) (book : Contents) → Valid many book → words ≡ fresh many book
      → (runs calls words ≡ fresh many (notes many calls book)) × Valid many (notes many calls book)
  runs_note [] lent words book valid e = (e, valid)
  runs_note (call ∷ calls) lent words book valid e =
      runs_note calls lent.1 (run call words) (note many call book) (note_valid many book valid call lent.0)
      (run_notes many words book (shows many words book some most valid e) call)

-- ---- the first call
-- the book that the first call leaves
abbrev pub begun_book : ℕ → Opening → Contents
begun_book many first = entered many (opened first) (blank 0 0)

module _ (many : ℕ) where
  begun_valid : (first : Opening) → Accepted first → Lent (opened first) → Valid many (begun_book many first)
  begun_valid (by_set_up order salt) right lent = blank_valid many order salt right lent.1
  begun_valid (by_load order seed count) right lent = loaded_valid many order seed count right

  pub first_noted : (first : Opening) → Accepted first → (before : Contents) → note many (opened first) before ≡ begun_book many first
  unfolding note refusal_by wrong_order
  first_noted (by_set_up order salt) right before = rw right
  first_noted (by_load order seed count) right before = rw right

module _ (many : ℕ) (words : List ℕ) (table : Table many words) where
  -- 1 does not apply, and so 2 decides
  refused_by_order : (order : ℕ) → first_that_applies (wrong_length words ∷ wrong_order order ∷ []) ≡ first_that_applies (wrong_order order ∷ [])
  unfolding wrong_length
  refused_by_order order = rw (right_length words many table.some table.most table.long)

  order_accepted : (order : ℕ) → ((first_that_applies (wrong_length words ∷ wrong_order order ∷ []) ≡ 0) ↔ (new_order order ≡ true))
  unfolding wrong_order
  order_accepted order = (
    λ e. not-false (new_order order) (none_applies (wrong_order order ∷ []) (omega arith) (sym (refused_by_order order) ∙ e)).0,
    λ right. refused_by_order order ∙ rw right,
  )

  opening_accepted : (first : Opening) → (((reply (opened first) words).refusal ≡ 0) ↔ Accepted first)
  unfolding set_up_reply set_up_refusal load_reply load_refusal
  opening_accepted (by_set_up order salt) = order_accepted order
  opening_accepted (by_load order seed count) = order_accepted order

  pub first_leaves : (first : Opening) → Accepted first → run (opened first) words ≡ fresh many (begun_book many first)
  unfolding set_up_after set_up_refusal load_after load_refusal rewritten
  first_leaves (by_set_up order salt) right = rw ((order_accepted order).1 right, slots_here words many table.some table.most table.long)
  first_leaves (by_load order seed count) right = rw ((order_accepted order).1 right, slots_here words many table.some table.most table.long)

pub first_accepted : FirstAccepted
first_accepted many words first table = opening_accepted many words table first

-- the book of a history, from its first call on
begun : (many : ℕ) (history : History) (before : Contents)
    → notes many (calls_of history) before ≡ notes many history.later (begun_book many history.first)
begun many history before = ap (notes many history.later) (first_noted many history.first history.accepted before)

pub any_start : AnyStart
any_start many history before = begun many history before ∙ sym (begun many history (blank 0 0))

-- ---- whole histories
pub table_from_book : TableFromBook
table_from_book many words history table =
    let first = history.first in
    rw (begun many history (blank 0 0))
    (runs_note many table.some table.most history.later history.lent.1 (run (opened first) words) (begun_book many first)
    (begun_valid many first history.accepted history.lent.0) (first_leaves many words table first history.accepted))

-- a history leaves a sound table, which holds its book
abbrev pub sound_after : (many : ℕ) (words : List ℕ) (history : History) → Table many words → Sound (table_after history words)
sound_after many words history table =
    let after = table_from_book many words history table in
    record {
      many = many;
      contents = book_after many history;
      some = table.some;
      most = table.most;
      valid = after.1;
      exactly = after.0;
    }
