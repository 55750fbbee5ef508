-- What the fresh table of a book tells a call: how many slots it has, that it is sound, and the book. Assumes a valid book.
use mathlib.Core.Bool.{true, false}
use mathlib.Core.List.{List}
use mathlib.Core.Path.{◌≡◌, refl, ◌∙◌}
use Prim.Native.Nat.{ℕ, ◌≤◌}
use lib.Dec.{eqb}
use lib.ListN.{length}
use Rattle.table.specs.Layout.{most_slots}
use Rattle.table.specs.Contents.{Contents, Valid}
use Rattle.table.specs.Table.{fresh, Sound}
use Rattle.table.proofs.Words.{fresh_length}
use Rattle.table.proofs.Reading.{contents_of_fresh}
use Rattle.table.proofs.Soundness.{fresh_passes}
use Rattle.table_limits.specs.Lengths.{slots_for}
use Rattle.table_judge.specs.Judge.{is_sound}
use Rattle.call_meaning.specs.Reasons.{shown}
use Rattle.call_meaning.proofs.Judged.{slots_here, right_length, judged, shown_is}

-- A sound table of `many` slots that holds this book.
pub record Shows (many : ℕ) (words : List ℕ) (book : Contents) : Type 0 where
  pub slots : slots_for (length words) ≡ many
  pub right : eqb (slots_for (length words)) 0 ≡ false
  pub sound : is_sound words ≡ true
  pub holds : shown words ≡ book
  pub exactly : words ≡ fresh many book

fresh_shows : (many : ℕ) (book : Contents) → 1 ≤ many → many ≤ most_slots → Valid many book → Shows many (fresh many book) book
fresh_shows many book some most valid =
    let words = fresh many book in
    let long = fresh_length many book in
    record {
      slots = slots_here words many some most long;
      right = right_length words many some most long;
      sound = judged words many some most long true (fresh_passes many book some valid);
      holds = shown_is words many some most long ∙ contents_of_fresh many book some valid;
      exactly = refl;
    }

pub shows : (many : ℕ) (words : List ℕ) (book : Contents) → 1 ≤ many → many ≤ most_slots → Valid many book → words ≡ fresh many book → Shows many words book
shows many words book some most valid e = rw e (fresh_shows many book some most valid)

-- a sound table shows what it holds
pub sound_shows : (words : List ℕ) (sound : Sound words) → Shows sound.many words sound.contents
sound_shows words sound = shows sound.many words sound.contents sound.some sound.most sound.valid sound.exactly
