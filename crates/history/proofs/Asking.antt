-- Calls that only ask change neither table nor book, and histories may as well lack them. Assumes nothing.
use mathlib.Core.Bool.{true, false, not}
use mathlib.Core.List.{List, [], ◌∷◌}
use mathlib.Core.Path.{◌≡◌, refl, ap, ◌∙◌}
use Prim.Native.Nat.{ℕ}
use Rattle.lists.specs.Lists.{keep}
use Rattle.lists.proofs.Tests.{by_test, true_or_false}
use Rattle.table.specs.Contents.{Contents}
use Rattle.call_replies.proofs.Refusals.{both_same}
use Rattle.history.specs.Call.{Call, set_up, build, reading, insert, delete, lookup, range, writing, step, load, batch, printing, run, runs, asks, calls_of}
use Rattle.history.specs.Book.{blank, refusal_by, note, notes}
use Rattle.history.specs.Theorems.{AskingChangesNothing}

leaves_words : (call : Call) → asks call ≡ true → (words : List ℕ) → run call words ≡ words
leaves_words (set_up order salt) e words = absurd (true_or_false false e refl)
leaves_words (build order salt list lengths corrections) e words = absurd (true_or_false false e refl)
leaves_words (reading bytes) e words = absurd (true_or_false false e refl)
leaves_words (insert key measure) e words = absurd (true_or_false false e refl)
leaves_words (delete key) e words = absurd (true_or_false false e refl)
leaves_words (lookup key) e words = refl
leaves_words (range low high output) e words = refl
leaves_words (writing output) e words = refl
leaves_words (step place) e words = refl
leaves_words (load order seed count) e words = absurd (true_or_false false e refl)
leaves_words (batch questions) e words = refl
leaves_words (printing output) e words = refl

leaves_book : (call : Call) → asks call ≡ true → (many : ℕ) (book : Contents) → note many call book ≡ book
unfolding note
leaves_book (set_up order salt) e many book = absurd (true_or_false false e refl)
leaves_book (build order salt list lengths corrections) e many book = absurd (true_or_false false e refl)
leaves_book (reading bytes) e many book = absurd (true_or_false false e refl)
leaves_book (insert key measure) e many book = absurd (true_or_false false e refl)
leaves_book (delete key) e many book = absurd (true_or_false false e refl)
leaves_book (lookup key) e many book = both_same (refusal_by many (lookup key) book) book
leaves_book (range low high output) e many book = both_same (refusal_by many (range low high output) book) book
leaves_book (writing output) e many book = both_same (refusal_by many (writing output) book) book
leaves_book (step place) e many book = both_same (refusal_by many (step place) book) book
leaves_book (load order seed count) e many book = absurd (true_or_false false e refl)
leaves_book (batch questions) e many book = both_same (refusal_by many (batch questions) book) book
leaves_book (printing output) e many book = both_same (refusal_by many (printing output) book) book

abbrev changing : List Call → List Call
changing calls = keep (λ call. not (asks call)) calls

same_words : (calls : List Call) (words : List ℕ) → runs calls words ≡ runs (changing calls) words
same_words [] words = refl
same_words (call ∷ calls) words =
    by_test (asks call)
    (λ e. rw e (ap (runs calls) (leaves_words call e words) ∙ same_words calls words))
    (λ e. rw e (same_words calls (run call words)))

same_book : (many : ℕ) (calls : List Call) (book : Contents) → notes many calls book ≡ notes many (changing calls) book
same_book many [] book = refl
same_book many (call ∷ calls) book =
    by_test (asks call)
    (λ e. rw e (ap (notes many calls) (leaves_book call e many book) ∙ same_book many calls book))
    (λ e. rw e (same_book many calls (note many call book)))

pub asking_changes_nothing : AskingChangesNothing
asking_changes_nothing =
    record {
      table = leaves_words;
      book = leaves_book;
      table_after_lem = λ history words. same_words (calls_of history) words;
      book_after_lem = λ many history. same_book many (calls_of history) (blank 0 0);
    }
