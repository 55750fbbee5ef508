-- The tests that refusals 6 and 7 cite are document 01's sentences. Assumes nothing.
use native.Mathlib.Omega.{arith}
use Rattle.lists.proofs.Keep.{all_anywhere}
use Rattle.table_judge.proofs.Decides.{is_sound_says, is_sound_when}
use Rattle.image.specs.Image.{read_image}
use Rattle.image.proofs.Judging.{is_image_says, is_image_when}
use Rattle.history.specs.Call.{IsWord}
use Rattle.history.specs.Tests.{SoundTested, ImageTested}

pub sound_tested : SoundTested
sound_tested words sized = (is_sound_says words (λ i. all_anywhere IsWord words i 0 (omega arith) sized), is_sound_when words)

pub image_tested : ImageTested
image_tested bytes small = (
  λ passed.
      let said = is_image_says bytes passed small in
      record { contents = read_image bytes; valid = said.0; exactly = said.1 },
  λ is. is_image_when bytes is.contents is.valid is.exactly,
)
