-- What the tests say of a block that the way down enters: whether earlier lookups met it. Assumes nothing.
use mathlib.Core.Bool.{true, false, not}
use mathlib.Core.Logic.{◌≢◌}
use mathlib.Core.Path.{◌≡◌, sym}
use Prim.Native.Nat.{ℕ, ◌<◌, ◌≤◌}
use native.Mathlib.Omega.{arith}
use lib.Dec.{eqb}
use borrow.Author.Tests.{eq-eqb, ne_eqb, lt-ltb, le-ltb}
use Rattle.lists.proofs.Tests.{nonzero_when, zero_fails}
use Rattle.treap_structure.proofs.Blocks.{block_level}
use Rattle.treap_structure.proofs.Entrances.{of_level}
use Rattle.table.specs.Contents.{Contents, keys_in, priority_in}
use Rattle.table_entries.specs.Steps.{next_key}
use Rattle.table_descend.specs.Entering.{new_block}

module _ (c : Contents) (at low other level below : ℕ) where
  -- no other block
  pub same_level : below ≡ level → false ≡ new_block c at low other level below
  unfolding new_block
  same_level e = rw (eq-eqb below level e)

  module _ (differs : below ≢ level) where
    -- the earlier search did not come by
    pub not_along : other ≤ low → true ≡ new_block c at low other level below
    unfolding new_block
    not_along h = rw (ne_eqb below level differs, le-ltb low other h)

    -- it did, and went on to a key, or ended
    module _ (above : low < other) (there : ℕ) (link : there ≡ next_key c at other) where
      pub same_next : (next : ℕ) → there ≡ next → of_level c.order (priority_in c) (keys_in c) below next ≡ true → false ≡ new_block c at low other level below
      unfolding new_block
      same_next next e onto = rw (ne_eqb below level differs, lt-ltb low other above, sym link, e, onto)

      pub no_next : there ≡ 0 → true ≡ new_block c at low other level below
      unfolding new_block of_level
      no_next e = rw (ne_eqb below level differs, lt-ltb low other above, sym link, zero_fails there e)

      pub by_level : there ≢ 0 → (its : ℕ) → its ≡ block_level c.order (priority_in c) (keys_in c) there → not (eqb its below) ≡ new_block c at low other level below
      unfolding new_block of_level
      by_level d its e = rw (ne_eqb below level differs, lt-ltb low other above, sym link, nonzero_when there (omega arith), sym e)
