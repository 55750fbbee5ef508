-- Treaps whose blocks hold as many keys as they can: where the root has α − 1 keys on each side, it has one block of 2α − 1; where a key
-- alone below the root has so many, they are in a block of 2α − 2. Assumes an order of at least 2 and rising keys.
use mathlib.Core.Bool.{Bool, true, false, ◌&&◌}
use mathlib.Core.List.{List, [], ◌∷◌, ◌++◌, map, flat_map, append-nil}
use mathlib.Core.Logic.{◌≢◌, ⊎_elim}
use mathlib.Core.Path.{◌≡◌, refl, sym, ap, ap₂, ◌∙◌, subst}
use Prim.Native.Nat.{ℕ, suc, pred, max, ◌+◌, ◌*◌, ◌-◌, ◌<◌, ◌≤◌}
use native.Mathlib.Omega.{arith}
use lib.Dec.{eqb, ltb}
use lib.ListN.{length, length-append, length-map}
use borrow.Author.Tests.{eqb-true, eqb-false, eq-eqb, ltb-true, lt-ltb, le-leb, lt-leb}
use Rattle.lists.specs.Lists.{keep, member, All, Rising, falling_from}
use Rattle.lists.proofs.Tests.{Compared, compared, by_test, true_or_false, or_true_cases, and_left, and_right}
use Rattle.lists.proofs.Tests.Compared.{less, same, more}
use Rattle.lists.proofs.Keep.{all_map, all_both, length-keep_le, length-keep-or, map-keep, some_kept}
use Rattle.lists.proofs.Membership.{all_member, all_of_members, a_member, member-append}
use Rattle.lists.proofs.Rising.{rising_once}
use Rattle.treap.specs.Treap.{Tree, keys, root_key, subtree, top, treap}
use Rattle.treap.specs.Treap.Tree.{leaf, node}
use Rattle.treap.specs.Levels.{rank, leader}
use Rattle.treap.specs.Blocks.{Block, root_rank, root_block, block, blocks_of_level, blocks, is_root_block}
use Rattle.treap_structure.proofs.Shape.{size, keys_root, Good, lesser_below, treap_keys, treap_good, treap_size}
use Rattle.treap_structure.proofs.Subtrees.{size_subtree, subtree_root, subtree_left, subtree_right}
use Rattle.treap_structure.proofs.Fold.{Standing, raise, standing, root_standing}
use Rattle.treap_structure.proofs.Paths.{left_member}
use Rattle.treap_structure.proofs.Columns.{rank_below}
use Rattle.treap_structure.proofs.Ancestors.{leader_under, leader_leads}
use Rattle.treap_structure.proofs.Blocks.{top_is_root, level_not_root}
use Rattle.treap_structure.proofs.BlockSizes.{Bounded, blocks_bounded, keys_in_blocks, root_block_size}
use Rattle.treap_ceilings.proofs.RootRank.{root_rank_is}

-- How many keys each block holds.
abbrev pub sizes : List Block → List ℕ
sizes = map (λ b. length b.held)

module _ (α : ℕ) (wide : 2 ≤ α) where
  -- a tree of fewer than α keys is of rank 0, and its count is their number
  small_stands : (t : Tree) → size t < α → standing α t ≡ record { rank = 0; count = size t }
  small_stands leaf h = refl
  small_stands (node l k r) h =
      ap₂ (raise α) (small_stands l (omega arith)) (small_stands r (omega arith))
      ∙ rw (lt-leb α (suc (size l + size r)) (omega arith)) (ap (λ (c : ℕ). record { rank = 0; count = c }) (omega arith))

  module _ (p : ℕ → ℕ) (ks : List ℕ) (rising : Rising ks) where
    -- ---- the root has α − 1 keys on each side
    module _ (l : Tree) (k : ℕ) (r : Tree) (is : treap p ks ≡ node l k r) (left : size l ≡ α - 1) (right : size r ≡ α - 1) where
      many : length ks ≡ 2 * α - 1
      many = sym (treap_size p ks rising) ∙ ap size is ∙ omega arith

      rank_one : root_rank α p ks ≡ 1
      rank_one =
          root_rank_is α p wide ks rising (omega (arith, many))
          ∙ ap (λ t. (root_standing α t).rank) is
          ∙ rw (lt-ltb 0 (size l + size r) (omega arith)) (ap₂ (λ (a b : Standing). suc (max a.rank b.rank)) (small_stands l (omega arith)) (small_stands r (omega arith)))

      only : blocks α p ks ≡ root_block α p ks ∷ []
      unfolding blocks flat_map
      only =
          rw (lt-ltb 0 (length ks) (omega (arith, many)))
          (ap (λ (i : ℕ). root_block α p ks ∷ flat_map (blocks_of_level α p ks) (falling_from (pred i))) rank_one)

      pub root_full : sizes (blocks α p ks) ≡ (2 * α - 1) ∷ []
      unfolding flat_map
      root_full =
          let (x, m) = a_member ks (omega (arith, many)) in
          let held = (root_block α p ks).held in
          let all : length ks ≤ length (held ++ []) = subst (λ (bs : List Block). length ks ≤ length (flat_map (λ b. b.held) bs)) only (keys_in_blocks α p wide ks rising) in
          ap sizes only ∙ ap (λ (n : ℕ). n ∷ []) (omega (arith, all, many, length-append held [], root_block_size α p wide ks rising x m))

    -- ---- a key alone below the root has α − 1 keys on each side
    module _ (l : Tree) (w : ℕ) (r : Tree) (k : ℕ) (is : treap p ks ≡ node (node l w r) k leaf) (left : size l ≡ α - 1) (right : size r ≡ α - 1) where
      abbrev inner : Tree
      inner = node l w r

      number : length ks ≡ 2 * α
      number = sym (treap_size p ks rising) ∙ ap size is ∙ omega arith

      good : Good p (node inner k leaf)
      good = subst (Good p) is (treap_good p ks rising)

      inner_stands : standing α inner ≡ record { rank = 1; count = 1 }
      inner_stands = ap₂ (raise α) (small_stands l (omega arith)) (small_stands r (omega arith)) ∙ rw (le-leb α (suc (size l + size r)) (omega arith)) refl

      rank_two : root_rank α p ks ≡ 2
      rank_two =
          root_rank_is α p wide ks rising (omega (arith, number))
          ∙ ap (λ t. (root_standing α t).rank) is
          ∙ rw (lt-ltb 0 (size inner + 0) (omega arith)) (ap (λ (a : Standing). suc (max a.rank 0)) inner_stands)

      -- where a key stands, its rank and its leader
      data Place (x : ℕ) : Type 0 where
        at_root : rank α p ks x ≡ 2 → Place x
        below_root : x ≡ w → rank α p ks x ≡ 1 → Place x
        lowest : rank α p ks x ≡ 0 → leader α p ks x ≡ w → Place x

      key_below : (x : ℕ) → member x (keys inner) ≡ true → x < k
      key_below x m = all_member (λ y. y < k) (keys inner) x (lesser_below p k (keys inner) good.0) m

      key_of : (x : ℕ) → member x (keys inner) ≡ true → member x ks ≡ true
      key_of x m = ap (member x) (sym (treap_keys p ks rising) ∙ ap keys is) ∙ left_member x inner k leaf m

      subtree_in : (x : ℕ) → member x (keys inner) ≡ true → subtree x (treap p ks) ≡ subtree x inner
      subtree_in x m = ap (subtree x) is ∙ subtree_left inner k leaf x (key_below x m)

      rank_in_lem : (x : ℕ) → member x (keys inner) ≡ true → rank α p ks x ≡ (standing α (subtree x inner)).rank
      rank_in_lem x m =
          let low = key_below x m in
          rank_below p ks rising α wide k x (node inner k leaf) (ap (subtree k) is ∙ subtree_root inner k leaf) (left_member x inner k leaf m) (λ e. omega arith)
          ∙ ap (λ t. (standing α t).rank) (subtree_in x m)

      rank_of_w : rank α p ks w ≡ 1
      rank_of_w = rank_in_lem w (keys_root l w r) ∙ ap (λ t. (standing α t).rank) (subtree_root l w r) ∙ ap (λ (a : Standing). a.rank) inner_stands

      rank_small : (x : ℕ) (t : Tree) → size t < α → (standing α (subtree x t)).rank ≡ 0
      rank_small x t h = ap (λ (a : Standing). a.rank) (small_stands (subtree x t) (omega (arith, size_subtree x t)))

      rank_of_other : (x : ℕ) → member x (keys inner) ≡ true → x ≢ w → rank α p ks x ≡ 0
      rank_of_other x m d = rank_in_lem x m ∙ go (compared x w)
        where
          go : Compared x w → (standing α (subtree x inner)).rank ≡ 0
          go (less e f h q) = ap (λ t. (standing α t).rank) (subtree_left l w r x q) ∙ rank_small x l (omega arith)
          go (same e f h q) = absurd (d q)
          go (more e f h q) = ap (λ t. (standing α t).rank) (subtree_right l w r x q) ∙ rank_small x r (omega arith)

      leader_of_other : (x : ℕ) → member x (keys inner) ≡ true → x ≢ w → leader α p ks x ≡ w
      leader_of_other x m d =
          let low = rank_of_other x m d in
          let high = rank_of_w in
          let here : subtree w (treap p ks) ≡ inner = subtree_in w (keys_root l w r) ∙ subtree_root l w r in
          let led : member (leader α p ks x) (keys inner) ≡ true =
          sym (ap (λ t. member (leader α p ks x) (keys t)) here)
          ∙ leader_under α p wide ks rising w x (key_of w (keys_root l w r)) (key_of x m) (omega arith) (ap (λ t. member x (keys t)) here ∙ m)
          in
          let leads = leader_leads α p wide ks rising x (key_of x m) (λ e. let q = e ∙ ap root_key is in omega (arith, key_below x m)) in
          by_test (eqb (leader α p ks x) w)
          (λ e. eqb-true (leader α p ks x) w e)
          (λ e. absurd (omega (arith, leads.higher_rank, rank_of_other (leader α p ks x) led (eqb-false (leader α p ks x) w e))))

      root_is : top p ks ≡ k
      root_is = top_is_root p ks rising w (key_of w (keys_root l w r)) ∙ ap root_key is

      place : (x : ℕ) → member x ks ≡ true → Place x
      unfolding root_rank
      place x m =
          ⊎_elim
          (λ i.
          by_test (eqb x w)
          (λ e. let q = eqb-true x w e in below_root q (ap (rank α p ks) q ∙ rank_of_w))
          (λ e. let d = eqb-false x w e in lowest (rank_of_other x i d) (leader_of_other x i d)))
          (λ i. at_root (ap (rank α p ks) (alone i ∙ sym root_is) ∙ rank_two))
          (or_true_cases (member x (keys inner)) (member x (k ∷ [])) (sym (member-append x (keys inner) (k ∷ [])) ∙ ap (member x) (sym (ap keys is) ∙ treap_keys p ks rising) ∙ m))
        where
          alone : member x (k ∷ []) ≡ true → x ≡ k
          alone i = ⊎_elim (λ e. eqb-true x k e) (λ e. absurd (true_or_false false e refl)) (or_true_cases (eqb x k) false i)

      -- ---- so the root block holds two keys, and there is one other block
      root_few : length (root_block α p ks).held ≤ 2
      unfolding root_block
      root_few =
          omega (
            arith,
            length-keep-or (λ x. eqb x (top p ks)) next ks,
            rising_once ks (top p ks) rising,
            length-keep_le next (λ x. eqb x w) ks (all_of_members (λ x. next x ≡ true → eqb x w ≡ true) ks (λ x m e. is_w x (place x m) (eqb-true (suc (rank α p ks x)) (root_rank α p ks) e))),
            rising_once ks w rising,
          )
        where
          next : ℕ → Bool
          next x = eqb (suc (rank α p ks x)) (root_rank α p ks)

          is_w : (x : ℕ) → Place x → suc (rank α p ks x) ≡ root_rank α p ks → eqb x w ≡ true
          is_w x (at_root h) e = absurd (omega (arith, rank_two))
          is_w x (below_root q h) e = eq-eqb x w q
          is_w x (lowest h q) e = absurd (omega (arith, rank_two))

      one_other : length (blocks_of_level α p ks 1) ≤ 1
      unfolding blocks_of_level block
      one_other =
          omega (
            arith,
            ap length (map-keep (block α p ks 1) some ks),
            length-map (keep (λ v. some (block α p ks 1 v)) ks) (block α p ks 1),
            length-keep_le (λ v. some (block α p ks 1 v)) (λ v. eqb v w) ks (all_of_members (λ v. some (block α p ks 1 v) ≡ true → eqb v w ≡ true) ks (λ v m e. leads v (ltb-true 0 (length (block α p ks 1 v).held) e))),
            rising_once ks w rising,
          )
        where
          some : Block → Bool
          some b = ltb 0 (length b.held)

          taken : ℕ → ℕ → Bool
          taken v x = eqb (suc (rank α p ks x)) 1 && eqb (leader α p ks x) v

          is_w : (v x : ℕ) → Place x → suc (rank α p ks x) ≡ 1 → leader α p ks x ≡ v → eqb v w ≡ true
          is_w v x (at_root h) e q = absurd (omega arith)
          is_w v x (below_root i h) e q = absurd (omega arith)
          is_w v x (lowest h i) e q = eq-eqb v w (sym q ∙ i)

          leads : (v : ℕ) → 0 < length (keep (taken v) ks) → eqb v w ≡ true
          leads v h =
              let (x, m, e) = some_kept (taken v) (λ x. member x ks ≡ true) ks (all_of_members (λ x. member x ks ≡ true) ks (λ x m. m)) h in
              is_w v x (place x m) (eqb-true (suc (rank α p ks x)) 1 (and_left (eqb (suc (rank α p ks x)) 1) (eqb (leader α p ks x) v) e))
              (eqb-true (leader α p ks x) v (and_right (eqb (suc (rank α p ks x)) 1) (eqb (leader α p ks x) v) e))

      two : blocks α p ks ≡ root_block α p ks ∷ blocks_of_level α p ks 1
      unfolding blocks flat_map
      two =
          rw (lt-ltb 0 (length ks) (omega (arith, number)))
          (ap (λ (i : ℕ). root_block α p ks ∷ flat_map (blocks_of_level α p ks) (falling_from (pred i))) rank_two
          ∙ ap (λ (bs : List Block). root_block α p ks ∷ bs) (append-nil (blocks_of_level α p ks 1)))

      pub other_full : sizes (blocks α p ks) ≡ 2 ∷ (2 * α - 2) ∷ []
      unfolding flat_map
      other_full =
          ap sizes two
          ∙ both (root_block α p ks) (blocks_of_level α p ks 1) root_few one_other others
          (omega (arith, number, subst (λ (bs : List Block). length ks ≤ length (flat_map (λ b. b.held) bs)) two (keys_in_blocks α p wide ks rising)))
        where
          others : All (λ b. length b.held ≤ 2 * α - 2) (blocks_of_level α p ks 1)
          others =
              let every = subst (All (Bounded α p wide ks rising)) two (blocks_bounded α p wide ks rising) in
              all_map (λ b. (is_root_block α p ks b ≡ false) × Bounded α p wide ks rising b) (λ b. length b.held ≤ 2 * α - 2)
              (λ b h. rw h.0 at h.1) (blocks_of_level α p ks 1)
              (all_both (λ b. is_root_block α p ks b ≡ false) (Bounded α p wide ks rising) (blocks_of_level α p ks 1)
              (level_not_root α p ks 1 (omega (arith, rank_two))) every.1)

          both : (b : Block) (bs : List Block) → length b.held ≤ 2 → length bs ≤ 1 → All (λ c. length c.held ≤ 2 * α - 2) bs
              → 2 * α ≤ length (flat_map (λ c. c.held) (b ∷ bs)) → sizes (b ∷ bs) ≡ 2 ∷ (2 * α - 2) ∷ []
          both b [] few one most all = absurd (omega (arith, length-append b.held []))
          both b (c ∷ []) few one most all =
              let here = length-append b.held (c.held ++ []) in
              let there = length-append c.held [] in
              ap₂ (λ (m n : ℕ). m ∷ n ∷ []) (omega (arith, most.0)) (omega (arith, most.0))
          both b (c ∷ d ∷ bs) few one most all = absurd (omega arith)
