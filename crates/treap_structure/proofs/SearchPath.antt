-- Along a search path levels never rise and a block is never entered again, so that the blocks met are the different
-- levels met. Assumes an order of at least 2 and rising keys.
use mathlib.Core.Bool.{Bool, true, false}
use mathlib.Core.List.{List, [], ◌∷◌, ◌++◌, map}
use mathlib.Core.Logic.{◌≢◌, ⊎_elim}
use mathlib.Core.Path.{◌≡◌, refl, sym, ap, ap₂, ◌∙◌, subst}
use Prim.Native.Nat.{ℕ, suc, ◌+◌, ◌≤◌}
use native.Mathlib.Omega.{arith}
use lib.Dec.{eqb}
use lib.ListN.{length}
use borrow.Author.Tests.{eqb-true, eqb-false}
use Rattle.lists.specs.Lists.{keep, some, member, distinct, All, Pairwise, Rising}
use Rattle.lists.proofs.Tests.{by_test, true_or_false, same_test, or_true_cases, or_true_right}
use Rattle.lists.proofs.Keep.{all_map, all_both, all_append_left, kept_pass, keep_none, keep_same, keep_only, length-keep_apart, all_always, all_for_each}
use Rattle.lists.proofs.Membership.{all_member, some_when, some_says, member-map, mapped_from}
use Rattle.lists.proofs.Pairwise.{pairwise_append_right, pairwise_before, pairwise_map}
use Rattle.treap.specs.Treap.{keys, subtree, path, top, treap}
use Rattle.treap.specs.Levels.{rank}
use Rattle.treap.specs.Blocks.{Block, root_rank, block, blocks, holding, meets, blocks_met}
use Rattle.treap_structure.proofs.Shape.{treap_good}
use Rattle.treap_structure.proofs.Ranks.{rank_falls}
use Rattle.treap_structure.proofs.Paths.{InSubtree, path_in_tree, path_nested, not_root_below}
use Rattle.treap_structure.proofs.Leaders.{treap_member}
use Rattle.treap_structure.proofs.Ancestors.{same_rank_leader}
use Rattle.treap_structure.proofs.Blocks.{top_is_root, block_level, block_of, level_of_root, level_of_other, level_high, holding_is}
use Rattle.treap_structure.proofs.BlockTree.{level_of_block}

module _ (α : ℕ) (p : ℕ → ℕ) (wide : 2 ≤ α) (ks : List ℕ) (rising : Rising ks) where
  -- ---- two keys, the second in the subtree of the first
  module _ (x y : ℕ) (m : member x ks ≡ true) (n : member y ks ≡ true) (i : member y (keys (subtree x (treap p ks))) ≡ true) where
    not_top : x ≢ top p ks → y ≢ top p ks
    not_top d e =
        let r = top_is_root p ks rising x m in
        not_root_below p (treap p ks) x y (treap_good p ks rising) (λ q. d (q ∙ sym r)) i (e ∙ r)

    level_falls : block_level α p ks y ≤ block_level α p ks x
    level_falls =
        by_test (eqb x (top p ks))
        (λ e. omega (arith, level_of_root α p ks wide rising x (eqb-true x (top p ks) e), level_high α p ks wide rising y n))
        (λ e.
        let d = eqb-false x (top p ks) e in
        omega (arith, level_of_other α p ks wide rising x d, level_of_other α p ks wide rising y (not_top d), rank_falls α p wide ks rising x y m n i))

    same_block : block_level α p ks x ≡ block_level α p ks y → block_of α p ks x ≡ block_of α p ks y
    unfolding block_of
    same_block e =
        by_test (eqb (block_level α p ks x) (root_rank α p ks))
        (λ q. rw (q, ap (λ (j : ℕ). eqb j (root_rank α p ks)) (sym e) ∙ q))
        (λ q.
        let d : x ≢ top p ks = λ z. eqb-false (block_level α p ks x) (root_rank α p ks) q (level_of_root α p ks wide rising x z) in
        let ranks : rank α p ks x ≡ rank α p ks y = omega (arith, level_of_other α p ks wide rising x d, level_of_other α p ks wide rising y (not_top d)) in
        rw (q, ap (λ (j : ℕ). eqb j (root_rank α p ks)) (sym e) ∙ q) (ap₂ (block α p ks) e (same_rank_leader α p wide ks rising x y m n i ranks)))

  -- ---- a whole path
  pub path_keys : (v : ℕ) → All (λ x. member x ks ≡ true) (path v (treap p ks))
  path_keys v = all_map (λ x. member x (keys (treap p ks)) ≡ true) (λ x. member x ks ≡ true) (λ x j. treap_member α p wide ks rising x j) (path v (treap p ks)) (path_in_tree v (treap p ks))

  -- levels never rise
  pub path_levels_fall : (v : ℕ) → Pairwise (λ x y. block_level α p ks y ≤ block_level α p ks x) (path v (treap p ks))
  path_levels_fall v =
      pairwise_map (λ x. member x ks ≡ true) (InSubtree p (treap p ks)) (λ x y. block_level α p ks y ≤ block_level α p ks x) (λ x y m n i. level_falls x y m n i) (path v (treap p ks)) (path_keys v)
      (path_nested p (treap p ks) v (treap_good p ks rising))

  -- keys of one level are in one block
  abbrev pub SameBlock : ℕ → ℕ → Type 0
  SameBlock x y = block_level α p ks x ≡ block_level α p ks y → block_of α p ks x ≡ block_of α p ks y

  pub path_level_block : (v : ℕ) → Pairwise (λ x y. block_level α p ks x ≡ block_level α p ks y → block_of α p ks x ≡ block_of α p ks y) (path v (treap p ks))
  path_level_block v =
      pairwise_map (λ x. member x ks ≡ true) (InSubtree p (treap p ks)) SameBlock (λ x y m n i. same_block x y m n i) (path v (treap p ks)) (path_keys v)
      (path_nested p (treap p ks) v (treap_good p ks rising))

  -- a block is never entered again: what lies between two keys of one block is in that block
  pub never_reentered : (v : ℕ) (front : List ℕ) (x : ℕ) (middle : List ℕ) (z : ℕ) (back : List ℕ) → path v (treap p ks) ≡ front ++ x ∷ (middle ++ z ∷ back)
      → block_of α p ks x ≡ block_of α p ks z → All (λ y. block_of α p ks x ≡ block_of α p ks y) middle
  never_reentered v front x middle z back e b =
      let falls = pairwise_append_right (λ x y. block_level α p ks y ≤ block_level α p ks x) front (x ∷ (middle ++ z ∷ back)) (subst (Pairwise (λ x y. block_level α p ks y ≤ block_level α p ks x)) e (path_levels_fall v)) in
      let blocks-of = pairwise_append_right SameBlock front (x ∷ (middle ++ z ∷ back)) (subst (Pairwise SameBlock) e (path_level_block v)) in
      let ends : block_level α p ks x ≡ block_level α p ks z = sym (level_of_block α p wide ks rising x) ∙ ap (λ (c : Block). c.level) b ∙ level_of_block α p wide ks rising z in
      all_map (λ y. ((block_level α p ks y ≤ block_level α p ks x) × (block_level α p ks z ≤ block_level α p ks y)) × SameBlock x y) (λ y. block_of α p ks x ≡ block_of α p ks y)
      (λ y q. q.1 (let h = q.0 in omega arith)) middle
      (all_both (λ y. (block_level α p ks y ≤ block_level α p ks x) × (block_level α p ks z ≤ block_level α p ks y)) (SameBlock x) middle
      (all_both (λ y. block_level α p ks y ≤ block_level α p ks x) (λ y. block_level α p ks z ≤ block_level α p ks y) middle
      (all_append_left (λ y. block_level α p ks y ≤ block_level α p ks x) middle (z ∷ back) falls.0)
      (pairwise_before (λ x y. block_level α p ks y ≤ block_level α p ks x) middle z back falls.1))
      (all_append_left (SameBlock x) middle (z ∷ back) blocks-of.0))

  -- ---- the blocks met
  -- a block of the list that holds x is the block of x, which holds it
  holder : (x : ℕ) → member x ks ≡ true → All (λ b. member x b.held ≡ true → b ≡ block_of α p ks x) (blocks α p ks)
  unfolding holding
  holder x m = keep_only (λ b. member x b.held) (block_of α p ks x) (blocks α p ks) (holding_is α p ks wide rising x m)

  -- the same of all keys of a list
  abbrev pub Owned : List ℕ → Block → Type 0
  Owned ys b = (y : ℕ) → member y ys ≡ true → member y b.held ≡ true → b ≡ block_of α p ks y

  pub owners : (ys : List ℕ) → All (λ y. member y ks ≡ true) ys → All (Owned ys) (blocks α p ks)
  owners ys k =
      all_for_each (λ y. member y ys ≡ true) (λ y b. member y b.held ≡ true → b ≡ block_of α p ks y) (blocks α p ks)
      (λ y i. holder y (all_member (λ z. member z ks ≡ true) ys y k i))

  held : (x : ℕ) → member x ks ≡ true → member x (block_of α p ks x).held ≡ true
  unfolding holding
  held x m = (subst (All (λ b. member x b.held ≡ true)) (holding_is α p ks wide rising x m) (kept_pass (λ b. member x b.held) (blocks α p ks))).0

  unfoldable pub holds_some : List ℕ → Block → Bool
  holds_some xs b = some (λ x. member x b.held) xs

  -- a key whose level is met again adds no block
  met_again : (x : ℕ) (xs : List ℕ) → member x ks ≡ true → All (λ y. member y ks ≡ true) xs → All (SameBlock x) xs → member (block_level α p ks x) (map (block_level α p ks) xs) ≡ true
      → keep (holds_some (x ∷ xs)) (blocks α p ks) ≡ keep (holds_some xs) (blocks α p ks)
  unfolding holds_some
  met_again x xs m a s l =
      let (y, j, e) = mapped_from (block_level α p ks) xs (block_level α p ks x) l in
      let same : block_of α p ks x ≡ block_of α p ks y = all_member (SameBlock x) xs y s j e in
      keep_same (holds_some (x ∷ xs)) (holds_some xs) (blocks α p ks)
      (all_map (λ b. member x b.held ≡ true → b ≡ block_of α p ks x) (λ b. holds_some (x ∷ xs) b ≡ holds_some xs b)
      (λ b h.
      same_test (holds_some (x ∷ xs) b) (holds_some xs b)
      (λ t.
      ⊎_elim
      (λ i. some_when (λ z. member z b.held) xs y j (ap (λ (c : Block). member y c.held) (h i ∙ same) ∙ held y (all_member (λ z. member z ks ≡ true) xs y a j)))
      (λ i. i) (or_true_cases (member x b.held) (holds_some xs b) t))
      (λ t. or_true_right (member x b.held) (holds_some xs b) t))
      (blocks α p ks) (holder x m))

  -- a key of a new level adds one
  met_new : (x : ℕ) (xs : List ℕ) → member x ks ≡ true → All (λ y. member y ks ≡ true) xs → member (block_level α p ks x) (map (block_level α p ks) xs) ≡ false
      → length (keep (holds_some (x ∷ xs)) (blocks α p ks)) ≡ suc (length (keep (holds_some xs) (blocks α p ks)))
  unfolding holds_some holding
  met_new x xs m a l =
      length-keep_apart (λ b. member x b.held) (holds_some xs) (blocks α p ks) apart
      ∙ ap (λ (bs : List Block). length bs + length (keep (holds_some xs) (blocks α p ks))) (holding_is α p ks wide rising x m)
      ∙ omega arith
    where
      owner : (b : Block) → Owned xs b → (member x b.held ≡ true → b ≡ block_of α p ks x)
          → member x b.held ≡ true → holds_some xs b ≡ false
      owner b f g h =
          by_test (holds_some xs b)
          (λ t.
          let (y, j, e) = some_says (λ z. member z b.held) xs t in
          let levels : block_level α p ks x ≡ block_level α p ks y =
          sym (level_of_block α p wide ks rising x) ∙ ap (λ (c : Block). c.level) (sym (g h) ∙ f y j e) ∙ level_of_block α p wide ks rising y
          in
          absurd (true_or_false (member (block_level α p ks x) (map (block_level α p ks) xs)) (ap (λ (n : ℕ). member n (map (block_level α p ks) xs)) levels ∙ member-map (block_level α p ks) xs y j) l))
          (λ t. t)

      apart : All (λ b. member x b.held ≡ true → holds_some xs b ≡ false) (blocks α p ks)
      apart =
          all_map (λ b. Owned xs b × (member x b.held ≡ true → b ≡ block_of α p ks x)) (λ b. member x b.held ≡ true → holds_some xs b ≡ false)
          (λ b q. owner b q.0 q.1) (blocks α p ks)
          (all_both (Owned xs) (λ b. member x b.held ≡ true → b ≡ block_of α p ks x) (blocks α p ks) (owners xs a) (holder x m))

  pub met_levels : (xs : List ℕ) → All (λ x. member x ks ≡ true) xs → Pairwise SameBlock xs → length (keep (holds_some xs) (blocks α p ks)) ≡ length (distinct (map (block_level α p ks) xs))
  unfolding holds_some
  met_levels [] a s = none
    where
      none : length (keep (holds_some []) (blocks α p ks)) ≡ 0
      none = ap length (keep_none (holds_some []) (blocks α p ks) (all_always (λ b. holds_some [] b ≡ false) (λ b. refl) (blocks α p ks)))
  met_levels (x ∷ xs) a s =
      let ih = met_levels xs a.1 s.1 in
      by_test (member (block_level α p ks x) (map (block_level α p ks) xs))
      (λ e. rw e (ap length (met_again x xs a.0 a.1 s.0 e) ∙ ih))
      (λ e. rw e (met_new x xs a.0 a.1 e ∙ ap suc ih))

  -- the number of different blocks that hold the keys on a path is the number of different levels on it
  pub blocks_met_is : (v : ℕ) → blocks_met α p ks v ≡ length (distinct (map (block_level α p ks) (path v (treap p ks))))
  unfolding blocks_met meets holds_some
  blocks_met_is v = met_levels (path v (treap p ks)) (path_keys v) (path_level_block v)
