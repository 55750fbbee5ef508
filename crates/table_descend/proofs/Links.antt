-- The link that a search follows from a key. Assumes nothing.
use mathlib.Core.Path.{◌≡◌}
use Prim.Native.Nat.{ℕ}
use lib.Dec.{ltb}
use Rattle.lists.proofs.Tests.{by_test}
use Rattle.treap.specs.Treap.{root_key, subtree, treap, left_link, right_link}
use Rattle.treap_structure.proofs.Descent.{side}
use Rattle.table.specs.Contents.{Contents, keys_in, priority_in}
use Rattle.table_entries.specs.Steps.{next_key}

-- the key that the search compares next is the root of the side
pub next_is_side : (c : Contents) (at v : ℕ) → root_key (subtree at (treap (priority_in c) (keys_in c))) ≡ at
    → next_key c at v ≡ root_key (side v (subtree at (treap (priority_in c) (keys_in c))))
unfolding side next_key left_link right_link
next_is_side c at v e =
    by_test (ltb v at) (λ f. rw (f, e, f)) (λ f. rw (f, e, f))
