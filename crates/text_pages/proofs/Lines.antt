-- How long the line of each key is. Assumes few keys, and measures within the rules.
use mathlib.Core.Bool.{true}
use mathlib.Core.Path.{◌≡◌}
use Prim.Native.Nat.{ℕ, suc, ◌≤◌, ◌<◌}
use native.Mathlib.Omega.{arith}
use lib.ListN.{length}
use Rattle.lists.specs.Lists.{All}
use Rattle.treap.specs.Levels.{rank, count}
use Rattle.treap_structure.proofs.Bounds.{rank_at_most, count_at_most}
use Rattle.table.specs.Layout.{most_slots}
use Rattle.table.specs.Contents.{Contents, keys_in, priority_in, measure_in, right_measure}
use Rattle.table.proofs.Entries.{found_right}
use Rattle.text_page_lines.specs.Claims.{key_characters, column_limit}
use Rattle.text_page_lines.proofs.Claims.{key_line_length}
use Rattle.text_pages.specs.Pages.{line_of}

module _ (c : Contents) (few : length (keys_in c) ≤ most_slots) (k : ℕ) where
  pub rank_small : rank c.order (priority_in c) (keys_in c) k < column_limit
  rank_small = omega (arith, rank_at_most c.order (priority_in c) (keys_in c) k)

  pub count_small : count c.order (priority_in c) (keys_in c) k < column_limit
  count_small = omega (arith, count_at_most c.order (priority_in c) (keys_in c) k)

  pub line_length : All (λ e. right_measure e ≡ true) c.entries → length (line_of c k) ≡ suc key_characters
  unfolding line_of
  line_length right = key_line_length k _ _ _ (measure_in c.entries k) rank_small count_small (found_right c.entries k right)
