-- The claims of `specs/Theorems`, proved. Assumes nothing.
use mathlib.Core.Path.{sym, ap, ◌∙◌}
use Rattle.table.specs.Table.{fresh}
use Rattle.table.proofs.Reading.{fresh_unique}
use Rattle.history.specs.Theorems.{TablesAgree, HistoriesImagesAgree, HistoryIndependence, AnswersFromBook, table_after, book_after}
use Rattle.call_meaning.proofs.Shows.{sound_shows}
use Rattle.history.proofs.Answering.{answers}
use Rattle.history.proofs.Running.{table_from_book, sound_after}
use Rattle.history.proofs.Agreeing.{same_agree, agree_same, image_written, images_agree}

pub tables_agree : TablesAgree
tables_agree many words others one another table second =
    let after = table_from_book many words one table in
    let later = table_from_book many others another second in
    let book = book_after many one in
    let other = book_after many another in (
      λ same. same_agree book other (fresh_unique many book other table.some after.1 later.1 (sym after.0 ∙ same ∙ later.0)),
      λ agree. after.0 ∙ ap (fresh many) (agree_same many many book other after.1 later.1 agree) ∙ sym later.0,
    )

pub histories_images_agree : HistoriesImagesAgree
histories_images_agree many several words others lent room one another table second accepted e =
    images_agree (table_after one words) (table_after another others) lent room (sound_after many words one table) (sound_after several others another second) accepted e

-- Demand 3
pub history_independence : HistoryIndependence
history_independence =
    record {
      table_from_book = table_from_book;
      tables_agree = tables_agree;
      image_written = image_written;
      images_agree = images_agree;
      histories_images_agree = histories_images_agree;
    }

-- Demand 2, over histories
pub answers_from_book : AnswersFromBook
answers_from_book many words history table =
    let sound = sound_after many words history table in
    answers many (table_after history words) (book_after many history) (sound_shows (table_after history words) sound)
