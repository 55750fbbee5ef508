-- Where a search enters a block: a block other than the root's, named by its leader v, is met by the searches that go on from v to a child
-- of the block's level, and by no others. Assumes an order of at least 2, and rising keys none of which is zero.
use mathlib.Core.Bool.{Bool, true, false, not, ◌&&◌}
use mathlib.Core.List.{List}
use mathlib.Core.Logic.{◌≢◌}
use mathlib.Core.Path.{◌≡◌, refl, sym, ap, ◌∙◌, subst}
use Prim.Native.Nat.{ℕ, suc, ◌<◌, ◌≤◌}
use native.Mathlib.Omega.{arith}
use lib.Dec.{eqb, ltb}
use borrow.Author.Tests.{eqb-true, eqb-false, eq-eqb, ne_eqb, ltb-true, ltb-false, not-true}
use Rattle.lists.specs.Lists.{nonzero, member, All, Rising}
use Rattle.lists.proofs.Tests.{by_test, true_or_false, same_test, and_both, and_left, and_right, nonzero_when, nonzero_says}
use Rattle.lists.proofs.Membership.{all_member, some_when, some_says}
use Rattle.treap.specs.Treap.{Tree, keys, root_key, subtree, path, top, treap}
use Rattle.treap.specs.Treap.Tree.{leaf, node}
use Rattle.treap.specs.Levels.{rank, leader}
use Rattle.treap.specs.Blocks.{Block, root_rank, block, meets}
use Rattle.treap_structure.proofs.Shape.{keys_root}
use Rattle.treap_structure.proofs.Subtrees.{all_subtree}
use Rattle.treap_structure.proofs.Ranks.{rank_falls}
use Rattle.treap_structure.proofs.Leaders.{treap_member}
use Rattle.treap_structure.proofs.Ancestors.{Leads, leader_under}
use Rattle.treap_structure.proofs.Blocks.{block_level, block_of, held_by_block, below_root_rank, led, level_of_root, level_of_other, level_high, level_under}
use Rattle.treap_structure.proofs.Descent.{side}
use Rattle.treap_structure.proofs.PathsThrough.{in_path}
use Rattle.treap_structure.proofs.Children.{child, positive_in_tree, side_is, not_below, child_beside, child_key, child_rank, child_led, way_below, goes_by}

module _ (α : ℕ) (p : ℕ → ℕ) (ks : List ℕ) where
  -- A key of a block of this level.
  unfoldable pub of_level : ℕ → ℕ → Bool
  of_level i x = nonzero x && eqb (block_level α p ks x) i

  -- A search for q goes on from v to a key of a block of this level.
  unfoldable pub enters : ℕ → ℕ → ℕ → Bool
  enters i v q = member v (path q (treap p ks)) && (not (eqb q v) && of_level i (child p ks v q))

module _ (α : ℕ) (p : ℕ → ℕ) (wide : 2 ≤ α) (ks : List ℕ) (rising : Rising ks) (positive : All (λ k. 1 ≤ k) ks) (v : ℕ) (m : member v ks ≡ true) where
  abbrev t : Tree
  t = treap p ks

  -- ---- the child is in another block than v: v names that block
  module _ (q : ℕ) (some : child p ks v q ≢ 0) (other : block_level α p ks (child p ks v q) ≢ block_level α p ks v) where
    pub record Entered : Type 0 where
      pub block_is : block_of α p ks (child p ks v q) ≡ block α p ks (block_level α p ks (child p ks v q)) v
      pub below_root : block_level α p ks (child p ks v q) < root_rank α p ks
      pub led_by : block_level α p ks (child p ks v q) ≤ rank α p ks v

    not_top : child p ks v q ≢ top p ks
    unfolding root_rank
    not_top e =
        by_test (eqb v (top p ks))
        (λ f. not_below α p wide ks rising positive v m q (ap (λ (k : ℕ). member k (keys (side q (subtree v t)))) (eqb-true v (top p ks) f ∙ sym e) ∙ child_beside α p wide ks rising positive v m q some))
        (λ f. let h = below_root_rank α p ks wide rising v m (eqb-false v (top p ks) f) in let r = child_rank α p wide ks rising positive v m q some in let z = ap (rank α p ks) e in absurd (omega arith))

    pub entered : Entered
    unfolding block_of root_rank
    entered =
        let c = child p ks v q in
        let r = child_rank α p wide ks rising positive v m q some in
        let l = level_of_other α p ks wide rising c not_top in
        let h = level_high α p ks wide rising c (child_key α p wide ks rising positive v m q some) in
        let lower : suc (rank α p ks c) ≤ rank α p ks v =
        by_test (eqb v (top p ks))
        (λ e. let z = level_of_root α p ks wide rising v (eqb-true v (top p ks) e) in let y = ap (rank α p ks) (eqb-true v (top p ks) e) in omega (arith, other))
        (λ e. let z = level_of_other α p ks wide rising v (eqb-false v (top p ks) e) in omega (arith, other))
        in
        let beneath : block_level α p ks c < root_rank α p ks =
        by_test (eqb v (top p ks))
        (λ e. let y = ap (rank α p ks) (eqb-true v (top p ks) e) in let z = level_of_root α p ks wide rising v (eqb-true v (top p ks) e) in omega (arith, other))
        (λ e. let y = below_root_rank α p ks wide rising v m (eqb-false v (top p ks) e) in omega arith)
        in
        record {
          block_is = rw (ne_eqb (block_level α p ks c) (root_rank α p ks) (λ e. omega arith)) (ap (block α p ks (block_level α p ks c)) (child_led α p wide ks rising positive v m q some (omega arith)));
          below_root = beneath;
          led_by = omega arith;
        }

  -- ---- the block of a level that v leads
  module _ (i : ℕ) (low : i < root_rank α p ks) (q : ℕ) where
    abbrev b : Block
    b = block α p ks i v

    -- a key of the block on a search's way
    record Met : Type 0 where
      y : ℕ
      on : member y (path q t) ≡ true
      key : member y ks ≡ true
      ranked : suc (rank α p ks y) ≡ i
      leads : leader α p ks y ≡ v
      under : Leads α p wide ks rising v y

    met : meets α p ks q b ≡ true → Met
    unfolding meets
    met e =
        let (y, on, held) = some_says (λ x. member x b.held) (path q t) e in
        let key : member y ks ≡ true = treap_member α p wide ks rising y (in_path p q y t on) in
        let both = sym (held_by_block α p ks i v y key) ∙ held in
        let ranked : suc (rank α p ks y) ≡ i = eqb-true (suc (rank α p ks y)) i (and_left (eqb (suc (rank α p ks y)) i) _ both) in
        let leads : leader α p ks y ≡ v = eqb-true (leader α p ks y) v (and_right (eqb (suc (rank α p ks y)) i) (eqb (leader α p ks y) v) both) in
        record {
          y = y;
          on = on;
          key = key;
          ranked = ranked;
          leads = leads;
          under = subst (λ (u : ℕ). Leads α p wide ks rising u y) leads (led α p ks wide rising y key (level_under α p ks wide rising y i key ranked low).0);
        }

    -- so v's rank is at least the level
    pub met_led : meets α p ks q b ≡ true → i ≤ rank α p ks v
    met_led e = let here = met e in omega (arith, here.ranked, here.under.higher_rank)

    -- a search that goes on to a key of that level meets the block
    pub goes_in : i ≤ rank α p ks v → enters α p ks i v q ≡ true → meets α p ks q b ≡ true
    unfolding enters of_level meets
    goes_in led_by e =
        let comes : member v (path q t) ≡ true = and_left (member v (path q t)) _ e in
        let more = and_right (member v (path q t)) _ e in
        let other : q ≢ v = λ z. true_or_false (eqb q v) (eq-eqb q v z) (not-true (eqb q v) (and_left (not (eqb q v)) _ more)) in
        let there = and_right (not (eqb q v)) (nonzero (child p ks v q) && eqb (block_level α p ks (child p ks v q)) i) more in
        let some : child p ks v q ≢ 0 = λ z. let h = nonzero_says (child p ks v q) (and_left (nonzero (child p ks v q)) _ there) in omega arith in
        let level = eqb-true (block_level α p ks (child p ks v q)) i (and_right (nonzero (child p ks v q)) (eqb (block_level α p ks (child p ks v q)) i) there) in
        let c = child p ks v q in
        let apart : c ≢ top p ks = λ z. let h = level_of_root α p ks wide rising c z in omega arith in
        let ranked : suc (rank α p ks c) ≡ i = sym (level_of_other α p ks wide rising c apart) ∙ level in
        some_when (λ x. member x b.held) (path q t) c
        (goes_by α p wide ks rising positive v m q some q comes other refl)
        (held_by_block α p ks i v c (child_key α p wide ks rising positive v m q some)
        ∙ and_both (eqb (suc (rank α p ks c)) i) (eqb (leader α p ks c) v) (eq-eqb (suc (rank α p ks c)) i ranked)
        (eq-eqb (leader α p ks c) v (child_led α p wide ks rising positive v m q some (omega arith))))

    -- and one that meets the block goes on to such a key
    pub comes_in : meets α p ks q b ≡ true → enters α p ks i v q ≡ true
    unfolding enters of_level
    comes_in e =
        let here = met e in
        let y = here.y in
        let key = here.key in
        let ranked = here.ranked in
        let apart : y ≢ v = λ z. let h = here.under.higher_rank in let r = ap (rank α p ks) z in omega arith in
        let way = way_below α p wide ks rising positive v m q y apart here.on here.under.ancestor in
        let some : child p ks v q ≢ 0 = has_child (side q (subtree v t)) y way.beside positive_beside in
        let c = child p ks v q in
        let c-key = child_key α p wide ks rising positive v m q some in
        let y-below : member y (keys (subtree c t)) ≡ true =
        ap (λ (u : Tree). member y (keys u)) (side_is α p wide ks rising positive v m q) ∙ in_path p q y (side q (subtree v t)) way.beside
        in
        let high = rank_falls α p wide ks rising c y c-key key y-below in
        let not-higher : rank α p ks c ≤ rank α p ks y =
        by_test (ltb (rank α p ks y) (rank α p ks c))
        (λ f.
        absurd
        (not_below α p wide ks rising positive v m q
        (ap (λ (u : Tree). member v (keys u)) (sym (side_is α p wide ks rising positive v m q))
        ∙ ap (λ (u : ℕ). member u (keys (subtree c t))) (sym here.leads)
        ∙ leader_under α p wide ks rising c y c-key key (ltb-true (rank α p ks y) (rank α p ks c) f) y-below)))
        (λ f. ltb-false (rank α p ks y) (rank α p ks c) f)
        in
        let level = (level_under α p ks wide rising c i c-key (omega arith) low).1 in
        and_both (member v (path q t)) (not (eqb q v) && (nonzero c && eqb (block_level α p ks c) i)) way.comes
        (and_both (not (eqb q v)) (nonzero c && eqb (block_level α p ks c) i) (ap not (ne_eqb q v way.other))
        (and_both (nonzero c) (eqb (block_level α p ks c) i) (nonzero_when c (omega arith)) (eq-eqb (block_level α p ks c) i level)))
      where
        positive_beside : All (λ k. 1 ≤ k) (keys (side q (subtree v t)))
        positive_beside =
            subst (λ (u : Tree). All (λ k. 1 ≤ k) (keys u)) (side_is α p wide ks rising positive v m q)
            (all_subtree (λ k. 1 ≤ k) (child p ks v q) t (positive_in_tree α p wide ks rising positive))

        has_child : (s : Tree) (y : ℕ) → member y (path q s) ≡ true → All (λ k. 1 ≤ k) (keys s) → root_key s ≢ 0
        has_child leaf y on h e = true_or_false false on refl
        has_child (node l k r) y on h e = let z = all_member (λ k. 1 ≤ k) (keys (node l k r)) k h (keys_root l k r) in omega arith

    -- ---- both: a block is met by the searches that go on to a key of its level
    pub meets_enters : i ≤ rank α p ks v → meets α p ks q b ≡ enters α p ks i v q
    meets_enters led_by = same_test (meets α p ks q b) (enters α p ks i v q) comes_in (goes_in led_by)
