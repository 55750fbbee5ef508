-- The listings of document 01's examples B and G, and of no keys: they compute. Assumes nothing.
use mathlib.Core.List.{[], ◌∷◌, flat_map}
use mathlib.Core.Path.{◌≡◌, refl}
use Prim.Native.Nat.{ℕ}
use Rattle.measure.specs.Measure.{Measure}
use Rattle.treap.specs.Treap.{top, treap, outranks, outranks_rest}
use Rattle.treap.specs.Levels.{next_level, rank, count, leader}
use Rattle.treap.specs.Blocks.{root_rank, root_block, block, blocks_of_level, blocks, room, fill}
use Rattle.treap.specs.Examples.{written}
use Rattle.text.specs.Digits.{decimal, hexadecimal}
use Rattle.text_lines.specs.Lines.{header_line, block_line, key_line}
use Rattle.text_listing.specs.Listing.{key_line_of, block_lines, listing, listing_of}
use Rattle.text_listing.specs.Claims.{text_of_b, text_of_g, text_of_none}

pub single : (salt : ℕ) (m : Measure) → listing_of (record { order = 3; salt = salt; entries = record { key = 5; measure = m } ∷ [] }) ≡ text_of_b
unfolding listing_of listing header_line block_lines block_line key_line_of key_line decimal hexadecimal blocks root_block root_rank room fill top treap outranks_rest rank count next_level flat_map
single salt m = refl

pub six : listing 3 (written (3 ∷ 2 ∷ 4 ∷ 1 ∷ 5 ∷ 6 ∷ [])) (1 ∷ 2 ∷ 3 ∷ 4 ∷ 5 ∷ 6 ∷ []) ≡ text_of_g
unfolding listing header_line block_lines block_line key_line_of key_line decimal hexadecimal blocks blocks_of_level block root_block root_rank room fill top treap outranks outranks_rest rank count leader next_level flat_map
six = refl

pub empty : (salt : ℕ) → listing_of (record { order = 3; salt = salt; entries = [] }) ≡ text_of_none
unfolding listing_of listing header_line decimal hexadecimal blocks fill top flat_map
empty salt = refl
