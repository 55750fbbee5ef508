-- What the programs print of the bytes that they read: the listing program the listing, the other one the printed pages. Assumes nothing.
use Rattle.std.specs.Prelude.{true, cond, List, [], ◌∷◌, ◌++◌, ◌≡◌, ℕ, ◌≤◌, eqb, ltb, length, take}
use Rattle.table.specs.Contents.{Valid, keys_in}
use Rattle.table.specs.Table.{fresh}
use Rattle.image.specs.Image.{read_image, is_image}
use Rattle.text.specs.Ascii.{ascii}
use Rattle.text.specs.Digits.{decimal}
use Rattle.text.specs.Written.{Written}
use Rattle.text_listing.specs.Listing.{listing_of}
use Rattle.text_pages.specs.Pages.{pages_of}
use Rattle.call_replies.specs.Replies.{first_that_applies}
use Rattle.call_meaning.specs.Reasons.{not_an_image}
use Rattle.image_programs.specs.declared.Kind.{Kind}
use Rattle.image_programs.specs.declared.Kind.TheVariants.{Listing, Pages}

-- "The listing program reads an image on standard input, into 1,000 slots." The one that prints pages is built like it (`docs/DECISIONS.md`, the
-- reading of N6).
abbrev pub program_slots : ℕ
program_slots = 1000

-- "its byte limit is 50,023" (02, N9).
abbrev pub program_bytes : ℕ
program_bytes = 50023

-- Room for all that is printed: at most ten bytes for each byte of an image.
abbrev pub program_room : ℕ
program_room = 500230

-- Why the image is turned down: 6, or 10 where it has more keys than the program has slots; zero where it is not.
unfoldable pub program_refusal : List ℕ → ℕ
program_refusal bytes =
    first_that_applies (not_an_image bytes ∷ (record { number = 10; applies = ltb program_slots (length (keys_in (read_image bytes))) }) ∷ [])

-- "A refusal prints `refused`, a space and its number." "Every line the program prints ends in a line feed."
unfoldable pub refused_text : ℕ → List ℕ
refused_text number = ascii "refused " ++ decimal number ++ ascii "\n"

-- The text of the image that the bytes are, of each kind.
abbrev pub text_as : Kind → List ℕ → List ℕ
text_as Listing bytes = listing_of (read_image bytes)
text_as Pages bytes = pages_of (read_image bytes)

-- "More than" so many "bytes prints `too long`; a refusal prints `refused`, a space and its number"; else the text.
unfoldable pub printed : Kind → List ℕ → List ℕ
printed kind bytes =
    cond (ltb program_bytes (length bytes)) (ascii "too long\n")
    (cond (eqb (program_refusal bytes) 0) (text_as kind bytes) (refused_text (program_refusal bytes)))

-- ---- once the bytes are read
-- They are an image of at most so many bytes, and the words are the table of what it holds.
pub record ReadInto (words bytes : List ℕ) : Type 0 where
  pub short : length bytes ≤ program_bytes
  pub image : is_image bytes ≡ true
  pub valid : Valid program_slots (read_image bytes)
  pub table : words ≡ fresh program_slots (read_image bytes)

-- What is printed is that of some first bytes of the buffer, those that were read; it stands at the start of the output.
pub record Prints (kind : Kind) (buffer before after : List ℕ) (end : ℕ) : Type 0 where
  pub got : ℕ
  pub text : Written before 0 (printed kind (take got buffer)) after end
