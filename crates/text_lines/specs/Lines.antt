-- The lines of a listing (document 01, "The listing program"), each from the numbers that it shows. Assumes nothing.
use Rattle.std.specs.Prelude.{List, ◌++◌, ℕ}
use Prim.Native.String.{String}
use Rattle.text.specs.Ascii.{ascii}
use Rattle.text.specs.Digits.{decimal, hexadecimal}

-- What a line says of a number, "base ten without leading zeros", and of a key, "16 hexadecimal digits, letters capital".
abbrev pub shows_number : String → ℕ → List ℕ
shows_number label n = ascii label ++ decimal n

abbrev pub shows_key : String → ℕ → List ℕ
shows_key label key = ascii label ++ hexadecimal key

-- "Every line the program prints ends in a line feed."
abbrev pub line_feed : List ℕ
line_feed = ascii "\n"

-- The line for the header, as `order 3 keys 1 blocks 1 fill 20 root 0000000000000005`.
unfoldable pub header_line : ℕ → ℕ → ℕ → ℕ → ℕ → List ℕ
header_line order keys blocks fill root =
    shows_number "order " order ++ shows_number " keys " keys ++ shows_number " blocks " blocks ++ shows_number " fill " fill
    ++ shows_key " root " root ++ line_feed

-- "a block line shows the block's leader key, level and keys in it", as `block 0000000000000005 level 0 keys 1`.
unfoldable pub block_line : ℕ → ℕ → ℕ → List ℕ
block_line leader level keys = shows_key "block " leader ++ shows_number " level " level ++ shows_number " keys " keys ++ line_feed

-- The line for a key, as `key 0000000000000005 rank 0 count 1`.
unfoldable pub key_line : ℕ → ℕ → ℕ → List ℕ
key_line key rank count = shows_key "key " key ++ shows_number " rank " rank ++ shows_number " count " count ++ line_feed
