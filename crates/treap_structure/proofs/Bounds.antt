-- How large the numbers of a key can be: ranks and counts are at most the number of keys, and the root, links and leaders are keys
-- or zero. Assumes rising keys, and an order of at least 2, where it says so.
use mathlib.Core.Bool.{Bool, ◌||◌}
use mathlib.Core.List.{List, [], ◌∷◌}
use mathlib.Core.Path.{sym, subst}
use Prim.Native.Nat.{ℕ, zero, suc, ◌≤◌}
use native.Mathlib.Omega.{arith}
use lib.Dec.{eqb, ltb, leb}
use lib.ListN.{length}
use Rattle.lists.specs.Lists.{member, first, largest, All, Rising}
use Rattle.lists.proofs.Tests.{by_test}
use Rattle.lists.proofs.Keep.{all_map, all_append_left, all_append_right, length-keep}
use Rattle.lists.proofs.Membership.{all_member}
use Rattle.treap.specs.Treap.{Tree, keys, root_key, left_of, right_of, subtree, outranks_rest, top, treap, left_link, right_link}
use Rattle.treap.specs.Treap.Tree.{leaf, node}
use Rattle.treap.specs.Levels.{next_level, level, rank, count}
use Rattle.treap.specs.Blocks.{Block, root_rank, root_block, block, blocks}
use Rattle.treap_structure.proofs.Shape.{treap_keys}
use Rattle.treap_structure.proofs.Subtrees.{all_subtree}
use Rattle.treap_structure.proofs.Blocks.{Formed, blocks_formed}
use Rattle.treap_structure.proofs.Blocks.Formed.{at_root, below}

largest_at_most : (f : ℕ → Bool) (bound : ℕ) → largest f bound ≤ bound
largest_at_most f zero = omega arith
largest_at_most f (suc bound) =
    let within = largest_at_most f bound in
    by_test (f (suc bound)) (λ e. rw e (omega arith)) (λ e. rw e (omega arith))

-- ---- ranks and counts
module _ (α : ℕ) (p : ℕ → ℕ) (ks : List ℕ) where
  pub rank_at_most : (v : ℕ) → rank α p ks v ≤ length ks
  unfolding rank
  rank_at_most v = largest_at_most (λ i. member v (level α p ks i)) (length ks)

  pub root_rank_at_most : root_rank α p ks ≤ length ks
  unfolding root_rank
  root_rank_at_most = rank_at_most (top p ks)

  next_at_most : (xs : List ℕ) → length (next_level α p xs) ≤ length xs
  unfolding next_level
  next_at_most xs =
      by_test (ltb 1 (length xs))
      (λ e. rw e (length-keep (λ v. eqb v (top p xs) || leb α (length (keys (subtree v (treap p xs))))) xs))
      (λ e. rw e (omega arith))

  level_at_most : (i : ℕ) → length (level α p ks i) ≤ length ks
  level_at_most zero = omega arith
  level_at_most (suc i) = omega (arith, next_at_most (level α p ks i), level_at_most i)

  pub count_at_most : (v : ℕ) → count α p ks v ≤ length ks
  unfolding count
  count_at_most v =
      omega (
        arith,
        length-keep (λ u. member u (keys (subtree v (treap p ks)))) (level α p ks (rank α p ks v)),
        level_at_most (rank α p ks v),
      )

-- ---- the root and the links: what holds of every key and of zero
module _ (P : ℕ → Type 0) (none : P 0) (p : ℕ → ℕ) (ks : List ℕ) (each : All P ks) where
  first_one : (f : ℕ → Bool) (xs : List ℕ) → All P xs → P (first 0 f xs)
  first_one f [] h = none
  first_one f (x ∷ xs) h = by_test (f x) (λ e. rw e h.0) (λ e. rw e (first_one f xs h.1))

  pub top_one : P (top p ks)
  unfolding top
  top_one = first_one (outranks_rest p ks) ks each

  module _ (rising : Rising ks) where
    root_one : (t : Tree) → All P (keys t) → P (root_key t)
    root_one leaf h = none
    root_one (node l k r) h = (all_append_right P (keys l) (k ∷ keys r) h).0

    left_one : (t : Tree) → All P (keys t) → P (root_key (left_of t))
    left_one leaf h = none
    left_one (node l k r) h = root_one l (all_append_left P (keys l) (k ∷ keys r) h)

    right_one : (t : Tree) → All P (keys t) → P (root_key (right_of t))
    right_one leaf h = none
    right_one (node l k r) h = root_one r (all_append_right P (keys l) (k ∷ keys r) h).1

    under : (v : ℕ) → All P (keys (subtree v (treap p ks)))
    under v = all_subtree P v (treap p ks) (subst (All P) (sym (treap_keys p ks rising)) each)

    pub left_link_one : (v : ℕ) → P (left_link p ks v)
    unfolding left_link
    left_link_one v = left_one (subtree v (treap p ks)) (under v)

    pub right_link_one : (v : ℕ) → P (right_link p ks v)
    unfolding right_link
    right_link_one v = right_one (subtree v (treap p ks)) (under v)

  -- ---- the names of blocks
  pub leaders_one : (α : ℕ) → All (λ b. P b.leader_key) (blocks α p ks)
  unfolding root_block block
  leaders_one α = all_map (Formed α p ks) (λ b. P b.leader_key) named (blocks α p ks) (blocks_formed α p ks)
    where
      named : (b : Block) → Formed α p ks b → P b.leader_key
      named b at_root = top_one
      named b (below i v l h m s) = all_member P ks v each m

pub levels_at_most : (α : ℕ) (p : ℕ → ℕ) (ks : List ℕ) → All (λ b. b.level ≤ length ks) (blocks α p ks)
unfolding root_block block
levels_at_most α p ks = all_map (Formed α p ks) (λ b. b.level ≤ length ks) low (blocks α p ks) (blocks_formed α p ks)
  where
    low : (b : Block) → Formed α p ks b → b.level ≤ length ks
    low b at_root = root_rank_at_most α p ks
    low b (below i v l h m s) = omega (arith, root_rank_at_most α p ks)
