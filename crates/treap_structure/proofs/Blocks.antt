-- Every key is in exactly one block, and every block holds keys: blocks partition the keys. The block of a key is named
-- by its leader and the level above its rank, the root's by the root. Assumes an order of at least 2 and rising keys.
use mathlib.Core.Bool.{Bool, true, false, cond, ◌||◌, ◌&&◌, and-true}
use mathlib.Core.List.{List, [], ◌∷◌, map, flat_map}
use mathlib.Core.Logic.{◌≢◌}
use mathlib.Core.Path.{◌≡◌, refl, sym, ap, ap₂, ◌∙◌, subst}
use Prim.Native.Nat.{ℕ, suc, pred, ◌<◌, ◌≤◌}
use native.Mathlib.Omega.{arith}
use lib.Dec.{eqb, ltb}
use lib.ListN.{length}
use borrow.Author.Tests.{ltb-true, ltb-false, lt-ltb, eqb-true, eqb-false, eq-eqb, ne_eqb}
use Rattle.lists.specs.Lists.{cons_if, keep, member, All, Rising, falling_from}
use Rattle.lists.proofs.Tests.{by_test, true_or_false, and_both, and_false_right}
use Rattle.lists.proofs.Keep.{all_map, all_mapped, all_always, all_both, all_keep, kept_pass, keep_none, keep_after}
use Rattle.lists.proofs.Membership.{eqb_same, some-member, all_of_members, member-keep}
use Rattle.lists.proofs.Pairwise.{pairwise_keep}
use Rattle.lists.proofs.FlatMap.{all_flat_map, member-flat_map, keep-flat_map, flat_map-same, falling_within, flat_map_none, flat_map_one, keep_one}
use Rattle.treap.specs.Treap.{Tree, keys, root_key, top, treap}
use Rattle.treap.specs.Treap.Tree.{leaf, node}
use Rattle.treap.specs.Levels.{rank, leader}
use Rattle.treap.specs.Blocks.{Block, root_rank, root_block, block, blocks_of_level, blocks, holding, is_root_block}
use Rattle.treap_structure.proofs.Shape.{Good, top_of_good, top_member, treap_keys, treap_good}
use Rattle.treap_structure.proofs.Ranks.{root_rank_highest}
use Rattle.treap_structure.proofs.Ancestors.{Leads, leader_leads, root_key_lem}

module _ (p : ℕ → ℕ) (ks : List ℕ) (rising : Rising ks) where
  -- the key that outranks the rest is the treap's root
  pub top_is_root : (x : ℕ) → member x ks ≡ true → top p ks ≡ root_key (treap p ks)
  top_is_root x m = ap (top p) (sym (treap_keys p ks rising)) ∙ go (treap p ks) (treap_good p ks rising) (ap (member x) (treap_keys p ks rising) ∙ m)
    where
      go : (t : Tree) → Good p t → member x (keys t) ≡ true → top p (keys t) ≡ root_key t
      go leaf g i = absurd (true_or_false false i refl)
      go (node l k r) g i = top_of_good p l k r g

module _ (α : ℕ) (p : ℕ → ℕ) (ks : List ℕ) where
  -- The level of the block that holds a key: the root's rank for the root, one above the rank for any other key.
  unfoldable pub block_level : ℕ → ℕ
  block_level x = cond (eqb x (top p ks)) (root_rank α p ks) (suc (rank α p ks x))

  -- The block that holds a key.
  unfoldable pub block_of : ℕ → Block
  block_of x = cond (eqb (block_level x) (root_rank α p ks)) (root_block α p ks) (block α p ks (block_level x) (leader α p ks x))

  -- ---- what a block holds, by level and leader
  pub held_by_root : (x : ℕ) → member x ks ≡ true → member x (root_block α p ks).held ≡ eqb (block_level x) (root_rank α p ks)
  unfolding root_block block_level
  held_by_root x m =
      member-keep (λ y. eqb y (top p ks) || eqb (suc (rank α p ks y)) (root_rank α p ks)) x ks
      ∙ ap (λ b. (eqb x (top p ks) || eqb (suc (rank α p ks x)) (root_rank α p ks)) && b) m
      ∙ and-true (eqb x (top p ks) || eqb (suc (rank α p ks x)) (root_rank α p ks))
      ∙ by_test (eqb x (top p ks)) (λ e. rw e (sym (eqb_same (root_rank α p ks)))) (λ e. rw e refl)

  pub held_by_block : (i v x : ℕ) → member x ks ≡ true → member x (block α p ks i v).held ≡ (eqb (suc (rank α p ks x)) i && eqb (leader α p ks x) v)
  unfolding block
  held_by_block i v x m =
      member-keep (λ y. eqb (suc (rank α p ks y)) i && eqb (leader α p ks y) v) x ks
      ∙ ap (λ b. (eqb (suc (rank α p ks x)) i && eqb (leader α p ks x) v) && b) m
      ∙ and-true (eqb (suc (rank α p ks x)) i && eqb (leader α p ks x) v)

  -- ---- the form of a block in the list
  pub data Formed : Block → Type 0 where
    at_root : Formed (root_block α p ks)
    below : (i v : ℕ) → 1 ≤ i → i < root_rank α p ks → member v ks ≡ true → 0 < length (block α p ks i v).held → Formed (block α p ks i v)

  -- the root block has the root block's name, and no block of a lower level has
  pub root_is_root : is_root_block α p ks (root_block α p ks) ≡ true
  unfolding is_root_block root_block
  root_is_root = and_both (eqb (top p ks) (top p ks)) (eqb (root_rank α p ks) (root_rank α p ks)) (eqb_same (top p ks)) (eqb_same (root_rank α p ks))

  pub below_is_not_root : (i v : ℕ) → i < root_rank α p ks → is_root_block α p ks (block α p ks i v) ≡ false
  unfolding is_root_block block
  below_is_not_root i v h = and_false_right (eqb v (top p ks)) (eqb i (root_rank α p ks)) (ne_eqb i (root_rank α p ks) (λ e. omega arith))

  formed_level : (i : ℕ) → 1 ≤ i → i < root_rank α p ks → All Formed (blocks_of_level α p ks i)
  unfolding blocks_of_level
  formed_level i l h =
      all_map (λ b. (ltb 0 (length b.held) ≡ true) × Source b) Formed made (keep (λ b. ltb 0 (length b.held)) (map (block α p ks i) ks))
      (all_both (λ b. ltb 0 (length b.held) ≡ true) Source (keep (λ b. ltb 0 (length b.held)) (map (block α p ks i) ks)) (kept_pass (λ b. ltb 0 (length b.held)) (map (block α p ks i) ks))
      (all_keep Source (λ b. ltb 0 (length b.held)) (map (block α p ks i) ks) (all_mapped Source (block α p ks i) ks (all_of_members (λ v. Source (block α p ks i v)) ks (λ v m. (v, m, refl))))))
    where
      Source : Block → Type 0
      Source b = (v : ℕ) × (member v ks ≡ true) × (b ≡ block α p ks i v)

      made : (b : Block) → (ltb 0 (length b.held) ≡ true) × Source b → Formed b
      made b (t, (v, m, e)) = subst Formed (sym e) (below i v l h m (subst (λ (c : Block). 0 < length c.held) e (ltb-true 0 (length b.held) t)))

  pub blocks_formed : All Formed (blocks α p ks)
  unfolding blocks
  blocks_formed =
      by_test (ltb 0 (length ks))
      (λ e. rw e (at_root, formed_below))
      (λ e. rw e tt)
    where
      formed_below : All Formed (flat_map (blocks_of_level α p ks) (falling_from (pred (root_rank α p ks))))
      formed_below =
          all_flat_map Formed (blocks_of_level α p ks) (falling_from (pred (root_rank α p ks)))
          (all_map (λ i. (1 ≤ i) × (i ≤ pred (root_rank α p ks))) (λ i. All Formed (blocks_of_level α p ks i)) (λ i h. formed_level i h.0 (omega arith)) (falling_from (pred (root_rank α p ks))) (falling_within (pred (root_rank α p ks))))

  -- one block is the root's
  pub level_not_root : (i : ℕ) → i < root_rank α p ks → All (λ b. is_root_block α p ks b ≡ false) (blocks_of_level α p ks i)
  unfolding blocks_of_level
  level_not_root i h =
      all_keep (λ b. is_root_block α p ks b ≡ false) (λ b. ltb 0 (length b.held)) (map (block α p ks i) ks)
      (all_mapped (λ b. is_root_block α p ks b ≡ false) (block α p ks i) ks (all_always (λ v. is_root_block α p ks (block α p ks i v) ≡ false) (λ v. below_is_not_root i v h) ks))

  not_root_below : All (λ b. is_root_block α p ks b ≡ false) (flat_map (blocks_of_level α p ks) (falling_from (pred (root_rank α p ks))))
  not_root_below =
      all_flat_map (λ b. is_root_block α p ks b ≡ false) (blocks_of_level α p ks) (falling_from (pred (root_rank α p ks)))
      (all_map (λ i. (1 ≤ i) × (i ≤ pred (root_rank α p ks))) (λ i. All (λ b. is_root_block α p ks b ≡ false) (blocks_of_level α p ks i)) (λ i h. level_not_root i (omega arith))
      (falling_from (pred (root_rank α p ks))) (falling_within (pred (root_rank α p ks))))

  pub one_root_block : 1 ≤ length ks → keep (is_root_block α p ks) (blocks α p ks) ≡ root_block α p ks ∷ []
  unfolding blocks
  one_root_block some =
      rw (lt-ltb 0 (length ks) some, root_is_root)
      (ap (λ (bs : List Block). root_block α p ks ∷ bs) (keep_none (is_root_block α p ks) (flat_map (blocks_of_level α p ks) (falling_from (pred (root_rank α p ks)))) not_root_below))

  -- the nonempty test may be left out where a member is asked for
  nonempty_after : (x : ℕ) (bs : List Block) → keep (λ b. member x b.held) (keep (λ b. ltb 0 (length b.held)) bs) ≡ keep (λ b. member x b.held) bs
  nonempty_after x bs =
      keep_after (λ b. member x b.held) (λ b. ltb 0 (length b.held)) bs
      (all_always (λ b. member x b.held ≡ true → ltb 0 (length b.held) ≡ true) (λ b m. lt-ltb 0 (length b.held) (some-member x b.held m)) bs)

  module _ (wide : 2 ≤ α) (rising : Rising ks) where
    -- ---- ranks and leaders of keys other than the root, in terms of `top`
    pub below_root_rank : (x : ℕ) → member x ks ≡ true → x ≢ top p ks → rank α p ks x < root_rank α p ks
    unfolding root_rank
    below_root_rank x m d =
        let e = top_is_root p ks rising x m in
        rw e (root_rank_highest α p wide ks rising x m (λ q. d (q ∙ sym e)) (root_key_lem α p wide ks rising x m))

    pub led : (x : ℕ) → member x ks ≡ true → x ≢ top p ks → Leads α p wide ks rising (leader α p ks x) x
    led x m d = leader_leads α p wide ks rising x m (λ q. d (q ∙ sym (top_is_root p ks rising x m)))

    pub level_of_root : (x : ℕ) → x ≡ top p ks → block_level x ≡ root_rank α p ks
    unfolding block_level
    level_of_root x e = rw (eq-eqb x (top p ks) e)

    pub level_of_other : (x : ℕ) → x ≢ top p ks → block_level x ≡ suc (rank α p ks x)
    unfolding block_level
    level_of_other x d = rw (ne_eqb x (top p ks) d)

    -- one above the rank is no level below the root's, of the root
    rank_of_top : (x : ℕ) → x ≡ top p ks → rank α p ks x ≡ root_rank α p ks
    unfolding root_rank
    rank_of_top x e = ap (rank α p ks) e

    pub level_high : (x : ℕ) → member x ks ≡ true → block_level x ≤ root_rank α p ks
    level_high x m =
        by_test (eqb x (top p ks))
        (λ e. rw (level_of_root x (eqb-true x (top p ks) e)) (omega arith))
        (λ e. let d = eqb-false x (top p ks) e in rw (level_of_other x d) (below_root_rank x m d))

    -- a key that is one rank below a level under the root's is in a block of that level
    pub level_under : (x i : ℕ) → member x ks ≡ true → suc (rank α p ks x) ≡ i → i < root_rank α p ks → (x ≢ top p ks) × (block_level x ≡ i)
    level_under x i m e h =
        let d : x ≢ top p ks = λ q. let r = rank_of_top x q in omega arith in
        (d, level_of_other x d ∙ e)

    -- ---- the blocks of a level that hold a key
    pub holding_level : (x i : ℕ) → member x ks ≡ true → 1 ≤ i → i < root_rank α p ks
        → keep (λ b. member x b.held) (blocks_of_level α p ks i) ≡ cond (eqb (block_level x) i) (block α p ks i (leader α p ks x) ∷ []) []
    unfolding blocks_of_level
    holding_level x i m l h =
        nonempty_after x (map (block α p ks i) ks)
        ∙ by_test (eqb (suc (rank α p ks x)) i)
        (λ e.
        let under = level_under x i m (eqb-true (suc (rank α p ks x)) i e) h in
        rw (eq-eqb (block_level x) i under.1)
        (keep_one (λ b. member x b.held) (block α p ks i) (leader α p ks x) ks rising (led x m under.0).key (λ v. held_by_block i v x m ∙ ap (λ b. b && eqb (leader α p ks x) v) e)))
        (λ e.
        let apart : eqb (block_level x) i ≡ false =
        by_test (eqb x (top p ks))
        (λ q. ne_eqb (block_level x) i (λ z. let r = level_of_root x (eqb-true x (top p ks) q) in omega arith))
        (λ q. ap (λ (j : ℕ). eqb j i) (level_of_other x (eqb-false x (top p ks) q)) ∙ e)
        in
        rw apart
        (keep_none (λ b. member x b.held) (map (block α p ks i) ks)
        (all_mapped (λ b. member x b.held ≡ false) (block α p ks i) ks
        (all_always (λ v. member x (block α p ks i v).held ≡ false) (λ v. held_by_block i v x m ∙ ap (λ b. b && eqb (leader α p ks x) v) e) ks))))

    holding_below : (x : ℕ) → member x ks ≡ true
        → keep (λ b. member x b.held) (flat_map (blocks_of_level α p ks) (falling_from (pred (root_rank α p ks))))
        ≡ flat_map (λ i. cond (eqb (block_level x) i) (block α p ks i (leader α p ks x) ∷ []) []) (falling_from (pred (root_rank α p ks)))
    holding_below x m =
        let levels = falling_from (pred (root_rank α p ks)) in
        keep-flat_map (λ b. member x b.held) (blocks_of_level α p ks) levels
        ∙ flat_map-same (λ i. keep (λ b. member x b.held) (blocks_of_level α p ks i)) (λ i. cond (eqb (block_level x) i) (block α p ks i (leader α p ks x) ∷ []) []) levels
        (all_map (λ i. (1 ≤ i) × (i ≤ pred (root_rank α p ks))) (λ i. keep (λ b. member x b.held) (blocks_of_level α p ks i) ≡ cond (eqb (block_level x) i) (block α p ks i (leader α p ks x) ∷ []) [])
        (λ i h. holding_level x i m h.0 (omega arith)) levels (falling_within (pred (root_rank α p ks))))

    -- every key is held by exactly one block: the one named by its level and leader
    pub holding_is : (x : ℕ) → member x ks ≡ true → holding α p ks x ≡ block_of x ∷ []
    unfolding holding blocks block_of flat_map
    holding_is x m =
        rw (lt-ltb 0 (length ks) (some-member x ks m))
        (by_test (eqb (block_level x) (root_rank α p ks))
        (λ e.
        let q = eqb-true (block_level x) (root_rank α p ks) e in
        ap₂ (λ b bs. cons_if b (root_block α p ks) bs) (held_by_root x m ∙ e)
        (holding_below x m ∙ none_below q)
        ∙ rw e)
        (λ e.
        let d : block_level x ≢ root_rank α p ks = eqb-false (block_level x) (root_rank α p ks) e in
        let top-level = level_high x m in
        ap₂ (λ b bs. cons_if b (root_block α p ks) bs) (held_by_root x m ∙ e)
        (holding_below x m ∙ flat_map_one (λ i. block α p ks i (leader α p ks x) ∷ []) (block_level x) (pred (root_rank α p ks)) (positive d) (omega arith))
        ∙ rw e))
      where
        positive : block_level x ≢ root_rank α p ks → 1 ≤ block_level x
        positive d =
            by_test (eqb x (top p ks))
            (λ e. absurd (d (level_of_root x (eqb-true x (top p ks) e))))
            (λ e. rw (level_of_other x (eqb-false x (top p ks) e)) (omega arith))

        none_below : block_level x ≡ root_rank α p ks → flat_map (λ i. cond (eqb (block_level x) i) (block α p ks i (leader α p ks x) ∷ []) []) (falling_from (pred (root_rank α p ks))) ≡ []
        none_below q =
            by_test (ltb (pred (root_rank α p ks)) (root_rank α p ks))
            (λ t. flat_map_none (λ i. block α p ks i (leader α p ks x) ∷ []) (block_level x) (pred (root_rank α p ks)) (let h = ltb-true (pred (root_rank α p ks)) (root_rank α p ks) t in omega arith))
            (λ t. let z : pred (root_rank α p ks) ≡ 0 = let h = ltb-false (pred (root_rank α p ks)) (root_rank α p ks) t in omega arith in rw z)

    pub every_key_held : (x : ℕ) → member x ks ≡ true → member x (flat_map (λ b. b.held) (blocks α p ks)) ≡ true
    unfolding holding
    every_key_held x m = member-flat_map x (λ b. b.held) (blocks α p ks) (omega (arith, ap length (holding_is x m)))

    -- ---- and every block holds keys, rising
    pub record Holds (b : Block) : Type 0 where
      pub some : 0 < length b.held
      pub keys_of : All (λ x. member x ks ≡ true) b.held
      pub in_order : Rising b.held

    part_holds : (f : ℕ → Bool) → All (λ x. member x ks ≡ true) (keep f ks) × Rising (keep f ks)
    part_holds f = (all_keep (λ x. member x ks ≡ true) f ks (all_of_members (λ x. member x ks ≡ true) ks (λ x m. m)), pairwise_keep ◌<◌ f ks rising)

    pub blocks_hold : All Holds (blocks α p ks)
    unfolding blocks root_block block
    blocks_hold =
        by_test (ltb 0 (length ks))
        (λ e. all_map Formed Holds (λ b f. formed_holds (ltb-true 0 (length ks) e) b f) (blocks α p ks) blocks_formed)
        (λ e. none e)
      where
        none : ltb 0 (length ks) ≡ false → All Holds (blocks α p ks)
        none e = rw e tt

        root_in : (xs : List ℕ) → 0 < length xs → xs ≡ ks → member (top p ks) ks ≡ true
        root_in [] h q = absurd (omega arith)
        root_in (x ∷ xs) h q = subst (λ (zs : List ℕ). member (top p zs) zs ≡ true) q (top_member p x xs)

        formed_holds : 0 < length ks → (b : Block) → Formed b → Holds b
        formed_holds h b at_root =
            let root = root_in ks h refl in
            record {
              some = some-member (top p ks) (root_block α p ks).held (held_by_root (top p ks) root ∙ eq-eqb (block_level (top p ks)) (root_rank α p ks) (level_of_root (top p ks) refl));
              keys_of = (part_holds (λ y. eqb y (top p ks) || eqb (suc (rank α p ks y)) (root_rank α p ks))).0;
              in_order = (part_holds (λ y. eqb y (top p ks) || eqb (suc (rank α p ks y)) (root_rank α p ks))).1;
            }
        formed_holds h b (below i v l k m s) =
            record {
              some = s;
              keys_of = (part_holds (λ y. eqb (suc (rank α p ks y)) i && eqb (leader α p ks y) v)).0;
              in_order = (part_holds (λ y. eqb (suc (rank α p ks y)) i && eqb (leader α p ks y) v)).1;
            }
