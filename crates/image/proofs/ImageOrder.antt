-- The keys in the image's order: by falling level of their block, rising leader in its name, rising key. What the blocks hold, one
-- after the other, is the keys so sorted, and the blocks are its runs. Assumes an order of at least 2 and rising keys.
use mathlib.Core.Bool.{Bool, true, false, cond, ◌&&◌}
use mathlib.Core.List.Permᴰ
use mathlib.Core.List.{List, map, flat_map}
use mathlib.Core.Path.{◌≡◌, refl, sym, ap, ◌∙◌}
use Prim.Native.Nat.{ℕ, suc, pred, ◌<◌, ◌≤◌}
use native.Mathlib.Omega.{arith}
use lib.Dec.{eqb, ltb}
use lib.ListN.{length}
use borrow.Author.Tests.{eqb-true, eqb-false, eq-eqb, ne_eqb}
use Rattle.lists.specs.Lists.{member, All, Pairwise, Rising, sort_by, falling_from}
use Rattle.lists.proofs.Tests.{by_test, and_left, and_right}
use Rattle.lists.proofs.Keep.{all_map, all_mapped, all_always, all_both, all_keep}
use Rattle.lists.proofs.Membership.{all_member, all_of_members}
use Rattle.lists.proofs.Pairwise.{pairwise_map, pairwise_mapped, pairwise_keep, pairwise_unique}
use Rattle.lists.proofs.FlatMap.{all_flat_map, pairwise_flat_map, AllRelated, falling_within, falling_falls, length-flat_map-some}
use Rattle.lists.proofs.Sorting.{Before, all_permuted, length_permuted, sort_by_permutes, sort_by_ordered}
use Rattle.treap.specs.Treap.{top}
use Rattle.treap.specs.Levels.{rank, leader}
use Rattle.treap.specs.Blocks.{Block, root_rank, root_block, block, blocks_of_level, blocks}
use Rattle.treap_structure.proofs.Blocks.{block_level, held_by_root, held_by_block, level_of_root, level_of_other, level_under, Formed, blocks_formed, Holds, blocks_hold, every_key_held}
use Rattle.treap_structure.proofs.Blocks.Formed.{at_root, below}
use Rattle.treap_structure.proofs.BlockSizes.{led_by_top}
use Rattle.lists.proofs.Precedence.{precedes, agree, precedes_when, precedes_trans, precedes_one_way, precedes_total}
use Rattle.lists.proofs.Precedence.Earlier.{by_first, by_second, by_itself}

-- The leader in the name of the block that holds a key: the root for the root block, else the key's leader.
unfoldable pub block_leader : ℕ → (ℕ → ℕ) → List ℕ → ℕ → ℕ
block_leader α p ks x = cond (eqb (block_level α p ks x) (root_rank α p ks)) (top p ks) (leader α p ks x)

-- `x` comes before `y` in the image: "blocks by falling level, then rising leader; after each block its keys, rising".
unfoldable pub before : ℕ → (ℕ → ℕ) → List ℕ → ℕ → ℕ → Bool
before α p ks = precedes (block_level α p ks) (block_leader α p ks)

-- `x` and `y` are in the same block, by its name.
unfoldable pub same_block : ℕ → (ℕ → ℕ) → List ℕ → ℕ → ℕ → Bool
same_block α p ks = agree (block_level α p ks) (block_leader α p ks)

-- A key's block has this name.
pub record Named (α : ℕ) (p : ℕ → ℕ) (ks : List ℕ) (b : Block) (x : ℕ) : Type 0 where
  pub at_level : block_level α p ks x ≡ b.level
  pub with_leader : block_leader α p ks x ≡ b.leader_key

-- The name of the one block comes before that of the other.
pub data NameBefore (b c : Block) : Type 0 where
  higher : c.level < b.level → NameBefore b c
  lesser : b.level ≡ c.level → b.leader_key < c.leader_key → NameBefore b c

module _ (α : ℕ) (p : ℕ → ℕ) (wide : 2 ≤ α) (ks : List ℕ) (rising : Rising ks) where
  -- the root's block is named by the root, and any other key's by the key's leader
  pub block_leader_is : (x : ℕ) → member x ks ≡ true → block_leader α p ks x ≡ cond (eqb x (top p ks)) (top p ks) (leader α p ks x)
  unfolding block_leader
  block_leader_is x m =
      by_test (eqb x (top p ks))
      (λ e. rw (e, eq-eqb (block_level α p ks x) (root_rank α p ks) (level_of_root α p ks wide rising x (eqb-true x (top p ks) e))))
      (λ e.
      let level = level_of_other α p ks wide rising x (eqb-false x (top p ks) e) in
      rw e
      (by_test (eqb (block_level α p ks x) (root_rank α p ks))
      (λ q. rw q (sym (led_by_top α p wide ks rising x m (sym level ∙ eqb-true (block_level α p ks x) (root_rank α p ks) q))))
      (λ q. rw q)))

  -- ---- the keys that a block holds have its name
  named_by : (b : Block) → Formed α p ks b → (x : ℕ) → member x ks ≡ true → member x b.held ≡ true → Named α p ks b x
  unfolding block_leader root_block block
  named_by b at_root x m i =
      let t : eqb (block_level α p ks x) (root_rank α p ks) ≡ true = sym (held_by_root α p ks x m) ∙ i in
      record { at_level = eqb-true (block_level α p ks x) (root_rank α p ks) t; with_leader = rw t }
  named_by b (below j v l h n s) x m i =
      let t : (eqb (suc (rank α p ks x)) j && eqb (leader α p ks x) v) ≡ true = sym (held_by_block α p ks j v x m) ∙ i in
      let under = level_under α p ks wide rising x j m (eqb-true (suc (rank α p ks x)) j (and_left (eqb (suc (rank α p ks x)) j) (eqb (leader α p ks x) v) t)) h in
      let level = under.1 in
      let other : eqb (block_level α p ks x) (root_rank α p ks) ≡ false = ne_eqb (block_level α p ks x) (root_rank α p ks) (λ e. omega arith) in
      record { at_level = level; with_leader = rw other (eqb-true (leader α p ks x) v (and_right (eqb (suc (rank α p ks x)) j) (eqb (leader α p ks x) v) t)) }

  pub blocks_named : All (λ b. All (Named α p ks b) b.held) (blocks α p ks)
  blocks_named =
      all_map (λ b. Formed α p ks b × Holds α p ks wide rising b) (λ b. All (Named α p ks b) b.held)
      (λ b h.
      all_of_members (Named α p ks b) b.held
      (λ x i. named_by b h.0 x (all_member (λ y. member y ks ≡ true) b.held x h.1.keys_of i) i))
      (blocks α p ks) (all_both (Formed α p ks) (Holds α p ks wide rising) (blocks α p ks) (blocks_formed α p ks) (blocks_hold α p ks wide rising))

  -- ---- the blocks come by falling level, then rising leader
  levels_same : (i : ℕ) → All (λ b. b.level ≡ i) (blocks_of_level α p ks i)
  unfolding blocks_of_level block
  levels_same i =
      all_keep (λ b. b.level ≡ i) (λ b. ltb 0 (length b.held)) (map (block α p ks i) ks)
      (all_mapped (λ b. b.level ≡ i) (block α p ks i) ks (all_always (λ v. (block α p ks i v).level ≡ i) (λ v. refl) ks))

  level_ordered : (i : ℕ) → Pairwise NameBefore (blocks_of_level α p ks i)
  unfolding blocks_of_level block
  level_ordered i =
      pairwise_keep NameBefore (λ b. ltb 0 (length b.held)) (map (block α p ks i) ks)
      (pairwise_mapped NameBefore (block α p ks i) ks
      (pairwise_map (λ x. Unit {0}) ◌<◌ (λ v w. NameBefore (block α p ks i v) (block α p ks i w)) (λ v w _ _ h. lesser refl h) ks
      (all_always (λ x. Unit {0}) (λ x. tt) ks) rising))

  levels_ordered : (i j : ℕ) → j < i → AllRelated NameBefore (blocks_of_level α p ks i) (blocks_of_level α p ks j)
  levels_ordered i j h =
      all_map (λ b. b.level ≡ i) (λ b. All (NameBefore b) (blocks_of_level α p ks j))
      (λ b (e : b.level ≡ i).
      all_map (λ c. c.level ≡ j) (NameBefore b) (λ c (d : c.level ≡ j). higher (omega arith)) (blocks_of_level α p ks j) (levels_same j))
      (blocks_of_level α p ks i) (levels_same i)

  pub blocks_ordered : Pairwise NameBefore (blocks α p ks)
  unfolding blocks root_block
  blocks_ordered =
      by_test (ltb 0 (length ks))
      (λ e. rw e (root_first, rest_ordered))
      (λ e. rw e tt)
    where
      levels : List ℕ
      levels = falling_from (pred (root_rank α p ks))

      root_first : All (NameBefore (root_block α p ks)) (flat_map (blocks_of_level α p ks) levels)
      root_first =
          all_flat_map (NameBefore (root_block α p ks)) (blocks_of_level α p ks) levels
          (all_map (λ i. (1 ≤ i) × (i ≤ pred (root_rank α p ks))) (λ i. All (NameBefore (root_block α p ks)) (blocks_of_level α p ks i))
          (λ i h. all_map (λ b. b.level ≡ i) (NameBefore (root_block α p ks)) (λ b (e : b.level ≡ i). higher (omega arith)) (blocks_of_level α p ks i) (levels_same i))
          levels (falling_within (pred (root_rank α p ks))))

      rest_ordered : Pairwise NameBefore (flat_map (blocks_of_level α p ks) levels)
      rest_ordered =
          pairwise_flat_map NameBefore (blocks_of_level α p ks) levels (all_always (λ i. Pairwise NameBefore (blocks_of_level α p ks i)) level_ordered levels)
          (pairwise_map (λ i. Unit {0}) (λ i j. j < i) (λ i j. AllRelated NameBefore (blocks_of_level α p ks i) (blocks_of_level α p ks j)) (λ i j _ _ h. levels_ordered i j h) levels
          (all_always (λ i. Unit {0}) (λ i. tt) levels) (falling_falls (pred (root_rank α p ks))))

  -- ---- so what they hold, one after the other, is in order
  earlier_by_name : (b c : Block) → NameBefore b c → (x y : ℕ) → Named α p ks b x → Named α p ks c y → before α p ks x y ≡ true
  unfolding before
  earlier_by_name b c (higher l) x y n m = precedes_when (block_level α p ks) (block_leader α p ks) x y (by_first (omega arith))
  earlier_by_name b c (lesser e l) x y n m = precedes_when (block_level α p ks) (block_leader α p ks) x y (by_second (omega arith) (omega arith))

  earlier_by_key : (b : Block) (x y : ℕ) → Named α p ks b x → Named α p ks b y → x < y → before α p ks x y ≡ true
  unfolding before
  earlier_by_key b x y n m l = precedes_when (block_level α p ks) (block_leader α p ks) x y (by_itself (omega arith) (omega arith) l)

  held_in_order : All (λ b. Pairwise (Before (before α p ks)) b.held) (blocks α p ks)
  held_in_order =
      all_map (λ b. All (Named α p ks b) b.held × Holds α p ks wide rising b) (λ b. Pairwise (Before (before α p ks)) b.held)
      (λ b h. pairwise_map (Named α p ks b) ◌<◌ (Before (before α p ks)) (λ x y n m l. earlier_by_key b x y n m l) b.held h.0 h.1.in_order)
      (blocks α p ks) (all_both (λ b. All (Named α p ks b) b.held) (Holds α p ks wide rising) (blocks α p ks) blocks_named (blocks_hold α p ks wide rising))

  blocks_in_order : Pairwise (λ b c. AllRelated (Before (before α p ks)) b.held c.held) (blocks α p ks)
  blocks_in_order =
      pairwise_map (λ b. All (Named α p ks b) b.held) NameBefore (λ b c. AllRelated (Before (before α p ks)) b.held c.held)
      (λ b c n m l.
      all_map (Named α p ks b) (λ x. All (Before (before α p ks) x) c.held)
      (λ x q. all_map (Named α p ks c) (Before (before α p ks) x) (λ y r. earlier_by_name b c l x y q r) c.held m) b.held n)
      (blocks α p ks) blocks_named blocks_ordered

  -- ---- and it is the keys, no more and no fewer
  held_are_keys : All (λ x. member x ks ≡ true) (flat_map (λ b. b.held) (blocks α p ks))
  held_are_keys =
      all_flat_map (λ x. member x ks ≡ true) (λ b. b.held) (blocks α p ks)
      (all_map (Holds α p ks wide rising) (λ b. All (λ x. member x ks ≡ true) b.held) (λ b h. h.keys_of) (blocks α p ks) (blocks_hold α p ks wide rising))

  keys_are_keys : All (λ x. member x ks ≡ true) ks
  keys_are_keys = all_of_members (λ x. member x ks ≡ true) ks (λ x m. m)

  -- the keys in the image's order
  pub sorted_before : Pairwise (Before (before α p ks)) (sort_by (before α p ks) ks)
  unfolding before
  sorted_before =
      sort_by_ordered (before α p ks) (precedes_trans (block_level α p ks) (block_leader α p ks)) ks
      (pairwise_map (λ x. Unit {0}) ◌<◌ (λ x y. before α p ks x y ≡ false → before α p ks y x ≡ true) (λ x y _ _ l. precedes_total (block_level α p ks) (block_leader α p ks) x y l) ks
      (all_always (λ x. Unit {0}) (λ x. tt) ks) rising)

  pub image_order : flat_map (λ b. b.held) (blocks α p ks) ≡ sort_by (before α p ks) ks
  unfolding before
  image_order =
      let permuted = sort_by_permutes (before α p ks) ks in
      pairwise_unique (Before (before α p ks)) (precedes_one_way (block_level α p ks) (block_leader α p ks)) (flat_map (λ b. b.held) (blocks α p ks)) (sort_by (before α p ks) ks)
      (pairwise_flat_map (Before (before α p ks)) (λ b. b.held) (blocks α p ks) held_in_order blocks_in_order)
      sorted_before
      (all_map (λ x. member x ks ≡ true) (λ x. member x (sort_by (before α p ks) ks) ≡ true)
      (λ x m. all_member (λ y. member y (sort_by (before α p ks) ks) ≡ true) ks x (all_permuted (λ y. member y (sort_by (before α p ks) ks) ≡ true) permuted (all_of_members (λ y. member y (sort_by (before α p ks) ks) ≡ true) (sort_by (before α p ks) ks) (λ y i. i))) m)
      (flat_map (λ b. b.held) (blocks α p ks)) held_are_keys)
      (all_map (λ x. member x ks ≡ true) (λ x. member x (flat_map (λ b. b.held) (blocks α p ks)) ≡ true) (every_key_held α p ks wide rising) (sort_by (before α p ks) ks) (all_permuted (λ x. member x ks ≡ true) (Permᴰ.symm permuted) keys_are_keys))

  -- ---- how many keys and blocks
  pub held_total : length (flat_map (λ b. b.held) (blocks α p ks)) ≡ length ks
  held_total = ap length image_order ∙ length_permuted (sort_by_permutes (before α p ks) ks)

  pub blocks_some : All (λ b. 0 < length b.held) (blocks α p ks)
  blocks_some = all_map (Holds α p ks wide rising) (λ b. 0 < length b.held) (λ b h. h.some) (blocks α p ks) (blocks_hold α p ks wide rising)

  pub blocks_few : length (blocks α p ks) ≤ length ks
  blocks_few = omega (arith, held_total, length-flat_map-some (λ b. b.held) (blocks α p ks) blocks_some)
