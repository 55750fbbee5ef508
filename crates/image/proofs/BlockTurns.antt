-- The blocks one after the other, as a pass over the keys in the image's order meets them: from an index up to the first key of
-- another block. Assumes an order of at least 2 and rising keys, where it says so.
use mathlib.Core.Bool.{true, false}
use mathlib.Core.List.{List, [], ◌∷◌, map}
use mathlib.Core.Path.{◌≡◌, sym, ap, ◌∙◌}
use Prim.Native.Nat.{ℕ, ◌<◌, ◌≤◌}
use native.Mathlib.Nat.{add-zero}
use native.Mathlib.Omega.{arith}
use lib.ListN.{length, get_or, drop}
use lib.Seq.{slice, drop-length}
use Rattle.lists.specs.Lists.{Rising, sort_by, runs}
use Rattle.lists.proofs.Sorting.{length_permuted, sort_by_permutes}
use Rattle.lists.proofs.RunEnds.{slice_at, runs_at}
use Rattle.treap.specs.Blocks.{Block, blocks}
use Rattle.treap_structure.proofs.Blocks.{block_level}
use Rattle.image.proofs.ImageOrder.{block_leader, before, same_block}
use Rattle.image.proofs.BlockRuns.{block_from, same_block_similar, blocks_are_runs}

-- The keys in the image's order.
unfoldable pub in_image : ℕ → (ℕ → ℕ) → List ℕ → List ℕ
in_image α p ks = sort_by (before α p ks) ks

-- The blocks of the keys from an index on.
unfoldable pub blocks_from : ℕ → (ℕ → ℕ) → List ℕ → ℕ → List Block
blocks_from α p ks start = map (block_from α p ks) (runs (same_block α p ks) (drop start (in_image α p ks)))

-- The block of the keys from an index up to, not including, another, named by the first of them.
unfoldable pub block_within : ℕ → (ℕ → ℕ) → List ℕ → ℕ → ℕ → Block
block_within α p ks start end =
    record {
      leader_key = block_leader α p ks (get_or (in_image α p ks) start 0);
      level = block_level α p ks (get_or (in_image α p ks) start 0);
      held = slice start end (in_image α p ks);
    }

module _ (α : ℕ) (p : ℕ → ℕ) (ks : List ℕ) where
  pub in_image_length : length (in_image α p ks) ≡ length ks
  unfolding in_image
  in_image_length = length_permuted (sort_by_permutes (before α p ks) ks)

  -- all of them, none of them, and one of them with those that follow
  pub blocks_from_start : 2 ≤ α → Rising ks → blocks α p ks ≡ blocks_from α p ks 0
  unfolding blocks_from in_image
  blocks_from_start wide rising = blocks_are_runs α p ks wide rising

  pub blocks_from_end : blocks_from α p ks (length ks) ≡ []
  unfolding blocks_from
  blocks_from_end =
      ap (λ (xs : List ℕ). map (block_from α p ks) (runs (same_block α p ks) xs))
      (ap (λ (n : ℕ). drop n (in_image α p ks)) (sym in_image_length) ∙ drop-length (in_image α p ks))

  pub blocks_from_next : (start end : ℕ) → start < end → end ≤ length ks
      → ((k : ℕ) → start < k → k < end → same_block α p ks (get_or (in_image α p ks) start 0) (get_or (in_image α p ks) k 0) ≡ true)
      → (end < length ks → same_block α p ks (get_or (in_image α p ks) start 0) (get_or (in_image α p ks) end 0) ≡ false)
      → blocks_from α p ks start ≡ block_within α p ks start end ∷ blocks_from α p ks end
  unfolding blocks_from block_from block_within
  blocks_from_next start end l fits like ends =
      ap (map (block_from α p ks))
      (runs_at (same_block α p ks) (same_block_similar α p ks) (in_image α p ks) start end l (omega (arith, in_image_length)) like (λ m. ends (omega (arith, in_image_length))))
      ∙ ap (λ (b : Block). b ∷ blocks_from α p ks end) named
    where
      first : get_or (slice start end (in_image α p ks)) 0 0 ≡ get_or (in_image α p ks) start 0
      first = slice_at start end 0 (in_image α p ks) (omega arith) ∙ ap (λ (n : ℕ). get_or (in_image α p ks) n 0) (add-zero start)

      named : block_from α p ks (slice start end (in_image α p ks)) ≡ block_within α p ks start end
      named = λ i. record {
        leader_key = block_leader α p ks (first i);
        level = block_level α p ks (first i);
        held = slice start end (in_image α p ks);
      }
