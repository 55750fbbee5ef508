-- What lists of a set's keys, tags, ranks, counts and leaders show: they can be written, and their pages are the set's. Assumes few keys that rise,
-- and measures within the rules.
use mathlib.Core.Bool.{true}
use mathlib.Core.List.{List, ◌++◌, flat_map}
use mathlib.Core.Path.{◌≡◌, refl, sym, ap, ap₂, ◌∙◌, subst}
use Prim.Native.Nat.{ℕ, zero, suc, ◌+◌, ◌-◌, ◌*◌, ◌≤◌, ◌<◌}
use native.Mathlib.Omega.{arith}
use lib.ListN.{length, get_or}
use lib.Seq.{slice, slice_empty, slice-cons}
use Rattle.lists.specs.Lists.{All, Rising, up_from}
use Rattle.lists.proofs.Keep.{all_at, all_map}
use Rattle.lists.proofs.FlatMap.{flat_map-same}
use Rattle.lists.proofs.UpFrom.{up_from_within}
use Rattle.measure.specs.Tag.{measure_at, is_tag}
use Rattle.treap_columns.specs.declared.Columns.{Columns}
use Rattle.table.specs.Layout.{most_slots}
use Rattle.table.specs.Contents.{Contents, Entry, keys_in, measure_in, right_measure}
use Rattle.table.specs.Tags.{tags_in, Beside}
use Rattle.table.proofs.Tagged.{found_tagged, beside_of, tagged_is}
use Rattle.table_encode.proofs.Standings.{StandingsOf}
use Rattle.text_page_lines.specs.PageLines.{heading_line}
use Rattle.text_page_lines.specs.Claims.{column_limit}
use Rattle.text_pages.specs.Pages.{line_of, page_keys, keys_on, page_of, page_count, pages_of}
use Rattle.text_pages.specs.Shown.{page_end, shown_line, shown_lines, shown_page, shown_pages, Printable}
use Rattle.text_pages.proofs.Counting.{page_begun, keys_upto}
use Rattle.text_pages.proofs.Lines.{rank_small, count_small}

-- part of a list, and the same by indexes
by_index : (g h : ℕ → List ℕ) (xs : List ℕ) (many low high : ℕ) → low + many ≡ high → high ≤ length xs
    → ((i : ℕ) → low ≤ i → i < high → g (get_or xs i 0) ≡ h i) → flat_map g (slice low high xs) ≡ flat_map h (up_from low many)
unfolding flat_map
by_index g h xs zero low high e fits same =
    let end : low ≡ high = omega arith in
    ap (λ (n : ℕ). flat_map g (slice n high xs)) end ∙ ap (flat_map g) (slice_empty high xs)
by_index g h xs (suc many) low high e fits same =
    ap (flat_map g) (slice-cons low high xs 0 (omega arith) fits)
    ∙ ap₂ (λ (ys zs : List ℕ). ys ++ zs) (same low (omega arith) (omega arith))
    (by_index g h xs many (suc low) high (omega arith) fits (λ i l k. same i (omega arith) k))

-- a page is the line of its number, counted from one, and those of its keys
pub page_pieces : (keys tags : List ℕ) (columns : Columns) (before end : ℕ) → end ≡ page_end (length keys) before
    → shown_page keys tags columns before ≡ heading_line (before + 1) ++ shown_lines keys tags columns (page_keys * before) end
unfolding shown_page
page_pieces keys tags columns before end e =
    let number : suc before ≡ before + 1 = omega arith in
    ap₂ (λ (n to : ℕ). heading_line n ++ shown_lines keys tags columns (page_keys * before) to) number (sym e)

module _ (c : Contents) (few : length (keys_in c) ≤ most_slots) (rising : Rising (keys_in c)) (right : All (λ e. right_measure e ≡ true) c.entries)
    {keys tags : List ℕ} {columns : Columns} (keys_are : keys ≡ keys_in c) (tags_are : tags ≡ tags_in c) (stands : StandingsOf c.order c.salt (keys_in c) columns) where
  beside : Beside keys tags
  beside = beside_of c.entries right keys_are tags_are

  standing : StandingsOf c.order c.salt keys columns
  standing = subst (λ (ks : List ℕ). StandingsOf c.order c.salt ks columns) (sym keys_are) stands

  as_many : length keys ≡ length (keys_in c)
  as_many = ap length keys_are

  pub printable : Printable keys tags columns
  printable =
      record {
        few = omega (arith, as_many, few);
        tag_long = omega (arith, beside.as_many);
        rank_long = standing.rank_long;
        count_long = standing.count_long;
        leader_long = standing.leader_long;
        tag_right = λ i h. all_at (λ t. is_tag t ≡ true) tags i 0 beside.right (omega (arith, beside.as_many, h));
        rank_small = λ i h. subst (λ (n : ℕ). n < column_limit) (sym (stands.rank_is i (omega (arith, as_many, h)))) (rank_small c few (get_or (keys_in c) i 0));
        count_small = λ i h. subst (λ (n : ℕ). n < column_limit) (sym (stands.count_is i (omega (arith, as_many, h)))) (count_small c few (get_or (keys_in c) i 0));
        leader_within = standing.leader_within;
      }

  -- ---- a key's line
  measure_here : (i : ℕ) → i < length keys → measure_in c.entries (get_or keys i 0) ≡ measure_at (get_or tags i 0)
  measure_here i h =
      ap (λ (es : List Entry). measure_in es (get_or keys i 0)) (sym (tagged_is c.entries right keys_are tags_are))
      ∙ found_tagged keys tags i (subst Rising (sym keys_are) rising) h

  line_shown_lem : (i : ℕ) → i < length keys → line_of c (get_or keys i 0) ≡ shown_line keys tags columns i
  unfolding line_of shown_line
  line_shown_lem i h =
      rw (sym keys_are, standing.rank_is i h, standing.count_is i h, standing.leader_is i h, measure_here i h) refl

  -- ---- and so the pages
  page_shown : (before : ℕ) → before < page_count (length keys) → page_of c before ≡ shown_page keys tags columns before
  unfolding page_of shown_page shown_lines
  page_shown before h =
      let from = page_keys * before in
      let to = page_end (length keys) before in
      let begun = page_begun (length keys) before h in
      ap (λ (ks : List ℕ). heading_line (suc before) ++ flat_map (line_of c) (keys_on before ks)) (sym keys_are)
      ∙ ap (λ (ks : List ℕ). heading_line (suc before) ++ flat_map (line_of c) ks) (keys_upto keys before)
      ∙ ap (λ (lines : List ℕ). heading_line (suc before) ++ lines)
      (by_index (line_of c) (shown_line keys tags columns) keys (to - from) from to (omega arith) (omega arith) (λ i l k. line_shown_lem i (omega arith)))

  pub pages_shown : pages_of c ≡ shown_pages keys tags columns
  unfolding pages_of shown_pages
  pages_shown =
      ap (λ (ks : List ℕ). flat_map (page_of c) (up_from 0 (page_count (length ks)))) (sym keys_are)
      ∙ flat_map-same (page_of c) (shown_page keys tags columns) (up_from 0 (page_count (length keys)))
      (all_map (λ x. (0 ≤ x) × (x < 0 + page_count (length keys))) (λ x. page_of c x ≡ shown_page keys tags columns x)
      (λ x within. page_shown x (omega (arith, within.1))) (up_from 0 (page_count (length keys))) (up_from_within 0 (page_count (length keys))))
