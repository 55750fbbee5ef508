-- The printed pages of an order, a salt and a set (document 02, N6). Assumes nothing.
use Rattle.std.specs.Prelude.{cond, ℕ, suc, ◌+◌, ◌*◌, eqb, length}
use mathlib.Core.List.{List, ◌++◌, flat_map}
use Rattle.std.proofs.Math.Seq.{slice}
use Rattle.lists.specs.Lists.{rounded_up, up_from}
use Rattle.treap.specs.Levels.{rank, count, leader}
use Rattle.table.specs.Contents.{Contents, keys_in, priority_in, measure_in}
use Rattle.paris_points.specs.Points.{size_of}
use Rattle.text_page_lines.specs.PageLines.{heading_line, page_line}

-- The line of a key; the leader is zero for the root.
unfoldable pub line_of : Contents → ℕ → List ℕ
line_of c k =
    page_line k
    (rank c.order (priority_in c) (keys_in c) k)
    (count c.order (priority_in c) (keys_in c) k)
    (leader c.order (priority_in c) (keys_in c) k)
    (size_of (measure_in c.entries k))

-- "Then 50 key lines, rising": the keys of a page, from how many pages come before it.
abbrev pub page_keys : ℕ
page_keys = 50

abbrev pub keys_on : ℕ → List ℕ → List ℕ
keys_on before keys = slice (page_keys * before) (page_keys * before + page_keys) keys

-- "A page is the line `PAGE` with .. four digits, from 0001, .. then 50 key lines".
unfoldable pub page_of : Contents → ℕ → List ℕ
page_of c before = heading_line (suc before) ++ flat_map (line_of c) (keys_on before (keys_in c))

-- "The last page may have fewer, but has at least one": a fiftieth of the keys, rounded up. "Only an empty library is one page with no key lines."
unfoldable pub page_count : ℕ → ℕ
page_count n = cond (eqb n 0) 1 (rounded_up n page_keys)

-- All pages.
unfoldable pub pages_of : Contents → List ℕ
pages_of c = flat_map (page_of c) (up_from 0 (page_count (length (keys_in c))))
