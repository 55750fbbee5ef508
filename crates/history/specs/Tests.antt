-- What is claimed of the two computed tests that refusals cite: they are document 01's sentences. `proofs/Tested` proves it. Assumes
-- nothing.
use Rattle.std.specs.Prelude.{true, List, ◌↔◌, ◌≡◌, ℕ}
use Rattle.lists.specs.Lists.{All}
use Rattle.table.specs.Layout.{most_slots}
use Rattle.table.specs.Contents.{Contents, Valid}
use Rattle.table.specs.Table.{Sound}
use Rattle.table_judge.specs.Judge.{is_sound}
use Rattle.image.specs.Layout.{IsByte}
use Rattle.image.specs.Image.{image_of, is_image}
use Rattle.history.specs.Call.{IsWord}

-- "7. The table is not sound." Any 64-bit words, however many, pass the test exactly when they are a sound table.
abbrev pub SoundTested : Type 0
SoundTested = (words : List ℕ) → All IsWord words → ((is_sound words ≡ true) ↔ Sound words)

-- The bytes are "one that the writer makes for" some "order and" some "set of at most 4,096 keys", and for some salt.
pub record IsImage (bytes : List ℕ) : Type 0 where
  pub contents : Contents
  pub valid : Valid most_slots contents
  pub exactly : bytes ≡ image_of contents

-- "6. The image is not one that the writer makes for any order and any set of at most 4,096 keys." Any bytes pass the test exactly when
-- they are such an image.
abbrev pub ImageTested : Type 0
ImageTested = (bytes : List ℕ) → All IsByte bytes → ((is_image bytes ≡ true) ↔ IsImage bytes)
