-- What is claimed of printed pages (document 02, N6); `proofs/Claims` proves it. Assumes nothing.
use Rattle.std.specs.Prelude.{true, ◌≢◌, ◌≡◌, ℕ, suc, pred, ◌+◌, ◌*◌, ◌<◌, ◌≤◌, pos, neg_ℤ, length}
use mathlib.Core.List.{List, [], ◌∷◌, map, flat_map}
use Rattle.lists.specs.Lists.{All, up_from, lies}
use Rattle.paris_points.specs.Points.{corrected, half_points, size_of}
use Rattle.paris_points.specs.Claims.{least_half_points, greatest_half_points}
use Rattle.treap.specs.Levels.{rank, count}
use Rattle.table.specs.Contents.{Contents, keys_in, priority_in, measure_in}
use Rattle.table.specs.Table.{Sound}
use Rattle.text.specs.Ascii.{ascii}
use Rattle.text.specs.Digits.{decimal}
use Rattle.text_page_lines.specs.PageLines.{number_digits, size_text, column_width}
use Rattle.text_page_lines.specs.Claims.{key_characters, heading_bytes}
use Rattle.text_pages.specs.Pages.{line_of, page_keys, keys_on, page_count, pages_of}

-- The length of the pages of so many keys: ten bytes a page, 49 a key.
unfoldable pub pages_bytes : ℕ → ℕ
pages_bytes n = heading_bytes * page_count n + suc key_characters * n

-- A key's columns hold what they show: "rank (4), count (4), .. size (4, ..)"; the size is from 7.5 to 67.5, from 15 to 135 half points.
pub record InColumns (c : Contents) (k : ℕ) : Type 0 where
  pub rank_fits : length (decimal (rank c.order (priority_in c) (keys_in c) k)) ≤ column_width
  pub count_fits : length (decimal (count c.order (priority_in c) (keys_in c) k)) ≤ column_width
  pub size_fits : length (size_text (size_of (measure_in c.entries k))) ≤ column_width
  pub size_lies : (measure_in c.entries k).length ≢ 0
      → lies least_half_points greatest_half_points (half_points (corrected (measure_in c.entries k))) ≡ true

-- One key, of the size that document 02 gives for a t of 26,500, under a salt.
abbrev pub single : ℕ → Contents
single salt = record { order = 3; salt = salt; entries = record { key = 5; measure = record { length = 26750; correction = neg_ℤ (pos 250) } } ∷ [] }

pub record Pages : Type 0 where
  -- "A key line is 48 characters and a line feed", for every key of every sound table
  pub key_lines : (words : List ℕ) (sound : Sound words) → All (λ k. length (line_of sound.contents k) ≡ suc key_characters) (keys_in sound.contents)
  -- whose ranks and counts have at most four digits, and whose sizes are from 7.5 to 67.5
  pub columns : (words : List ℕ) (sound : Sound words) → All (InColumns sound.contents) (keys_in sound.contents)
  -- the number of its last page, and so of each, has at most four digits
  pub numbers : (words : List ℕ) (sound : Sound words) → length (decimal (page_count (length (keys_in sound.contents)))) ≤ number_digits
  -- the length of the whole text
  pub text_length : (words : List ℕ) (sound : Sound words) → length (pages_of sound.contents) ≡ pages_bytes (length (keys_in sound.contents))
  -- "50 key lines" on each page but the last
  pub full_pages : (keys : List ℕ) (before : ℕ) → suc before < page_count (length keys) → length (keys_on before keys) ≡ page_keys
  -- "the last page may have fewer, but has at least one"
  pub last_page : (keys : List ℕ) → 1 ≤ length keys → (1 ≤ length (keys_on (pred (page_count (length keys))) keys)) × (length (keys_on (pred (page_count (length keys))) keys) ≤ page_keys)
  -- every key is on one page, and the keys keep their order
  pub every_key : (keys : List ℕ) → flat_map (λ before. keys_on before keys) (up_from 0 (page_count (length keys))) ≡ keys
  -- "Only an empty library is one page with no key lines."
  pub empty : (order salt : ℕ) → pages_of (record { order = order; salt = salt; entries = [] }) ≡ ascii "PAGE 0001\n"
  -- 50 keys are one page, 51 two
  pub worked_counts : map page_count (0 ∷ 1 ∷ 49 ∷ 50 ∷ 51 ∷ 100 ∷ 101 ∷ 4096 ∷ []) ≡ 1 ∷ 1 ∷ 1 ∷ 1 ∷ 2 ∷ 2 ∷ 3 ∷ 82 ∷ []
  -- the pages of one key
  pub worked_page : (salt : ℕ) → pages_of (single salt) ≡ ascii "PAGE 0001\n0000000000000005    0    1 0000000000000000 40.0\n"
