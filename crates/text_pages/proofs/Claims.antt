-- The claims of printed pages. Assumes nothing.
use mathlib.Core.Bool.{true}
use mathlib.Core.List.{List, flat_map}
use mathlib.Core.Path.{◌≡◌, ap, ap₂, ◌∙◌}
use Prim.Native.Nat.{ℕ, suc, pred, min, ◌+◌, ◌*◌, ◌≤◌, ◌<◌}
use native.Mathlib.Omega.{arith}
use lib.ListN.{length, length-append}
use lib.Seq.{take_all}
use Rattle.lists.specs.Lists.{All, up_from}
use Rattle.lists.proofs.FlatMap.{length-flat_map_each, length-flat_map_headed}
use Rattle.lists.proofs.Membership.{all_of_members}
use Rattle.lists.proofs.UpFrom.{up_from-length}
use Rattle.table.specs.Layout.{most_slots}
use Rattle.table.specs.Contents.{Contents, keys_in, measure_in, right_measure}
use Rattle.table.specs.Table.{Sound}
use Rattle.table.proofs.Entries.{found_right}
use Rattle.paris_points.proofs.Claims.{sizes_hold}
use Rattle.text.specs.Digits.{decimal}
use Rattle.text.proofs.Decimal.{decimal_fits}
use Rattle.text_page_lines.specs.PageLines.{number_digits, heading_line}
use Rattle.text_page_lines.specs.Claims.{key_characters, heading_bytes}
use Rattle.text_page_lines.proofs.Claims.{heading_length}
use Rattle.text_page_lines.proofs.Columns.{number_fits, size_fits}
use Rattle.text_pages.specs.Pages.{line_of, page_keys, keys_on, page_of, page_count, pages_of}
use Rattle.text_pages.specs.Claims.{pages_bytes, InColumns, Pages}
use Rattle.text_pages.proofs.Worked.{counts_worked, empty_worked, page_worked}
use Rattle.text_pages.proofs.Counting.{pages_reach, last_begun, keys_many, first_pages}
use Rattle.text_pages.proofs.Lines.{rank_small, count_small, line_length}

-- ---- the keys of the pages
pub all_pages : (keys : List ℕ) → flat_map (λ before. keys_on before keys) (up_from 0 (page_count (length keys))) ≡ keys
all_pages keys =
    let reach = pages_reach (length keys) in
    first_pages keys (page_count (length keys)) reach.1 ∙ take_all (min (page_keys * page_count (length keys)) (length keys)) keys (omega arith)

page_full : (keys : List ℕ) (before : ℕ) → suc before < page_count (length keys) → length (keys_on before keys) ≡ page_keys
page_full keys before h = let reach = pages_reach (length keys) in omega (arith, keys_many keys before)

page_last : (keys : List ℕ) → 1 ≤ length keys
    → (1 ≤ length (keys_on (pred (page_count (length keys))) keys)) × (length (keys_on (pred (page_count (length keys))) keys) ≤ page_keys)
page_last keys h =
    let begun = last_begun (length keys) h in
    let many = keys_many keys (pred (page_count (length keys))) in
    (omega arith, omega arith)

-- ---- the length of the text
module _ (c : Contents) (few : length (keys_in c) ≤ most_slots) (right : All (λ e. right_measure e ≡ true) c.entries) where
  page_length : (before : ℕ) → length (page_of c before) ≡ heading_bytes + length (flat_map (line_of c) (keys_on before (keys_in c)))
  unfolding page_of
  page_length before = length-append (heading_line (suc before)) (flat_map (line_of c) (keys_on before (keys_in c))) ∙ omega (arith, heading_length (suc before))

  pub pages_length : length (pages_of c) ≡ pages_bytes (length (keys_in c))
  unfolding pages_of pages_bytes
  pages_length =
      let n = length (keys_in c) in
      length-flat_map_headed (line_of c) heading_bytes (page_of c) (λ before. keys_on before (keys_in c)) page_length (up_from 0 (page_count n))
      ∙ ap₂ (λ (i j : ℕ). heading_bytes * i + j) (up_from-length 0 (page_count n))
      (ap (λ (ks : List ℕ). length (flat_map (line_of c) ks)) (all_pages (keys_in c)) ∙ length-flat_map_each (line_of c) (suc key_characters) (λ k. line_length c few k right) (keys_in c))

-- ---- of sound tables
module _ (words : List ℕ) (sound : Sound words) where
  abbrev c : Contents
  c = sound.contents

  few : length (keys_in c) ≤ most_slots
  few = omega (arith, sound.valid.keys_fit, sound.most)

  lines_long : All (λ k. length (line_of c k) ≡ suc key_characters) (keys_in c)
  lines_long = all_of_members (λ k. length (line_of c k) ≡ suc key_characters) (keys_in c) (λ k m. line_length c few k sound.valid.measures_right)

  in_columns : All (InColumns c) (keys_in c)
  in_columns =
      all_of_members (InColumns c) (keys_in c)
      (λ k m.
      let right = found_right c.entries k sound.valid.measures_right in
      record {
        rank_fits = number_fits _ (rank_small c few k);
        count_fits = number_fits _ (count_small c few k);
        size_fits = size_fits (measure_in c.entries k) right;
        size_lies = λ long. sizes_hold.size_lies (measure_in c.entries k) (right, long);
      })

  numbers_short : length (decimal (page_count (length (keys_in c)))) ≤ number_digits
  numbers_short = decimal_fits 3 (page_count (length (keys_in c))) (omega (arith, few, pages_reach (length (keys_in c))))

  text_long : length (pages_of c) ≡ pages_bytes (length (keys_in c))
  text_long = pages_length c few sound.valid.measures_right

pub pages_hold : Pages
pages_hold =
    record {
      key_lines = lines_long;
      columns = in_columns;
      numbers = numbers_short;
      text_length = text_long;
      full_pages = page_full;
      last_page = page_last;
      every_key = all_pages;
      empty = empty_worked;
      worked_counts = counts_worked;
      worked_page = page_worked;
    }
