-- What is claimed of listings; `proofs/Claims` proves it. Assumes nothing.
use Rattle.std.specs.Prelude.{true, List, [], ◌∷◌, ◌++◌, ◌≡◌, ℕ}
use Rattle.lists.specs.Lists.{All}
use Rattle.measure.specs.Measure.{Measure}
use Rattle.treap.specs.Examples.{written}
use Rattle.treap_ceilings.specs.BlockClaims.{WithinCeilings}
use Rattle.table.specs.Contents.{keys_in, priority_in}
use Rattle.image.specs.Layout.{IsByte}
use Rattle.image.specs.Image.{is_image, read_image}
use Rattle.text.specs.Ascii.{ascii}
use Rattle.text_listing.specs.Listing.{listing, listing_of}

-- The text that document 01 has for example B.
abbrev pub text_of_b : List ℕ
text_of_b = ascii "order 3 keys 1 blocks 1 fill 20 root 0000000000000005\nblock 0000000000000005 level 0 keys 1\nkey 0000000000000005 rank 0 count 1\n"

-- The text of example G, which is F, "Root 3, 2 and 4 below it, 1 under 2, 5 under 4", "with 6 under 5".
abbrev pub text_of_g : List ℕ
text_of_g =
    ascii "order 3 keys 6 blocks 3 fill 46 root 0000000000000003\nblock 0000000000000003 level 2 keys 2\nkey 0000000000000003 rank 2 count 1\nkey 0000000000000004 rank 1 count 1\n"
    ++ ascii "block 0000000000000003 level 1 keys 2\nkey 0000000000000001 rank 0 count 1\nkey 0000000000000002 rank 0 count 2\n"
    ++ ascii "block 0000000000000004 level 1 keys 2\nkey 0000000000000005 rank 0 count 2\nkey 0000000000000006 rank 0 count 1\n"

-- The text where there are no keys: one line.
abbrev pub text_of_none : List ℕ
text_of_none = ascii "order 3 keys 0 blocks 0 fill 0 root 0000000000000000\n"

pub record Listings : Type 0 where
  -- "For B's image .. it prints exactly" (document 01): key 5 in order 3, whatever its measure, and "the listing shows no salt" (02, N9)
  pub example_b : (salt : ℕ) (m : Measure) → listing_of (record { order = 3; salt = salt; entries = record { key = 5; measure = m } ∷ [] }) ≡ text_of_b
  -- "Example G reads 46" (document 02, N8)
  pub example_g : listing 3 (written (3 ∷ 2 ∷ 4 ∷ 1 ∷ 5 ∷ 6 ∷ [])) (1 ∷ 2 ∷ 3 ∷ 4 ∷ 5 ∷ 6 ∷ []) ≡ text_of_g
  pub empty : (salt : ℕ) → listing_of (record { order = 3; salt = salt; entries = [] }) ≡ text_of_none
  -- in every image, and so in every listing, the root block has at most 2α−1 keys, any other at most 2α−2, and fill is at most 100
  pub every_image : (bytes : List ℕ) → All IsByte bytes → is_image bytes ≡ true → WithinCeilings (read_image bytes).order (priority_in (read_image bytes)) (keys_in (read_image bytes))
