-- The pages as they are written: each key by its index in lists of what its line shows. Assumes nothing.
use Rattle.std.specs.Prelude.{true, ◌≡◌, ℕ, suc, min, ◌+◌, ◌-◌, ◌*◌, ◌<◌, ◌≤◌, length, get_or}
use mathlib.Core.List.{List, ◌++◌, flat_map}
use Rattle.lists.specs.Lists.{up_from}
use Rattle.measure.specs.Tag.{measure_at, is_tag}
use Rattle.paris_points.specs.Points.{size_of}
use Rattle.treap_columns.specs.declared.Columns.{Columns}
use Rattle.table.specs.Layout.{most_slots}
use Rattle.table_encode.specs.Encode.{key_at}
use Rattle.text_page_lines.specs.PageLines.{heading_line, page_line}
use Rattle.text_page_lines.specs.Claims.{column_limit}
use Rattle.text_pages.specs.Pages.{page_keys, page_count}

-- Where the page ends, of so many keys, before which so many pages come.
abbrev pub page_end : ℕ → ℕ → ℕ
page_end n before = min (page_keys * before + page_keys) n

-- Keys, and beside them the tags of their measures, and the columns of their ranks, their counts and their leaders; a leader is a position, or zero
-- for none.
module _ (keys tags : List ℕ) (columns : Columns) where
  -- The line of the key at an index.
  unfoldable pub shown_line : ℕ → List ℕ
  shown_line i = page_line (get_or keys i 0) (get_or columns.rank i 0) (get_or columns.count i 0) (key_at keys (get_or columns.leader i 0)) (size_of (measure_at (get_or tags i 0)))

  -- The lines of the keys from one index up to another, that one left out.
  unfoldable pub shown_lines : ℕ → ℕ → List ℕ
  shown_lines from to = flat_map shown_line (up_from from (to - from))

  -- The page before which so many come, and all pages.
  unfoldable pub shown_page : ℕ → List ℕ
  shown_page before = heading_line (suc before) ++ shown_lines (page_keys * before) (page_end (length keys) before)

  unfoldable pub shown_pages : List ℕ
  shown_pages = flat_map shown_page (up_from 0 (page_count (length keys)))

  -- They can be written: there are no more keys than a table has slots, and each column holds what it is to show.
  pub record Printable : Type 0 where
    pub few : length keys ≤ most_slots
    pub tag_long : length keys ≤ length tags
    pub rank_long : length keys ≤ length columns.rank
    pub count_long : length keys ≤ length columns.count
    pub leader_long : length keys ≤ length columns.leader
    pub tag_right : (i : ℕ) → i < length keys → is_tag (get_or tags i 0) ≡ true
    pub rank_small : (i : ℕ) → i < length keys → get_or columns.rank i 0 < column_limit
    pub count_small : (i : ℕ) → i < length keys → get_or columns.count i 0 < column_limit
    pub leader_within : (i : ℕ) → i < length keys → get_or columns.leader i 0 ≤ length keys
