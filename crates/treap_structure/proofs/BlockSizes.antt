-- How many keys a block holds: at most 2α − 1 in the root block, at most 2α − 2 in any other; so all keys together have room
-- in their blocks. Assumes an order of at least 2 and rising keys.
use mathlib.Core.Bool.{Bool, true, false, cond, ◌&&◌}
use mathlib.Core.List.{List, [], ◌∷◌, ◌++◌, flat_map}
use mathlib.Core.Logic.{◌≢◌}
use mathlib.Core.Path.{◌≡◌, refl, sym, ap, ap₂, ◌∙◌, subst}
use Prim.Native.Nat.{ℕ, suc, pred, ◌+◌, ◌*◌, ◌-◌, ◌<◌, ◌≤◌}
use native.Mathlib.Nat.{mul-suc, mul_comm}
use native.Mathlib.Omega.{arith}
use lib.Dec.{eqb, ltb, leb}
use lib.ListN.{length, length-append}
use borrow.Author.Tests.{ltb-true, ltb-false, leb-true, leb-false, le-leb, eqb-true, eqb-false, eq-eqb}
use Rattle.lists.specs.Lists.{cons_if, keep, member, All, Rising}
use Rattle.lists.proofs.Tests.{by_test, true_or_false, and_left, and_right, same_test, and_both}
use Rattle.lists.proofs.Keep.{all_map, all_both, keep_append, keep_none, keep_same, keep_after, length-keep, length-keep_le, length-keep-or}
use Rattle.lists.proofs.Membership.{all_member, all_of_members}
use Rattle.lists.proofs.Rising.{rising_once, rising_covered}
use Rattle.lists.proofs.FlatMap.{length-flat_map_most}
use Rattle.treap.specs.Treap.{Tree, keys, subtree, top, treap}
use Rattle.treap.specs.Treap.Tree.{leaf, node}
use Rattle.treap.specs.Levels.{rank, leader}
use Rattle.treap.specs.Blocks.{Block, root_rank, root_block, block, blocks, is_root_block, room}
use Rattle.treap_structure.proofs.Shape.{size, length_keys, keys_root, Good, lesser_below, greater_above, treap_keys, treap_good}
use Rattle.treap_structure.proofs.Subtrees.{inside, good_subtree, subtree_root, subtree_left, subtree_right}
use Rattle.treap_structure.proofs.Prune.{pruned}
use Rattle.treap_structure.proofs.Fold.{standing, pruned_away, pruned_away_small}
use Rattle.treap_structure.proofs.Within.{subtree_of_key, within_pruned}
use Rattle.treap_structure.proofs.Ranks.{pruned_by_rank}
use Rattle.treap_structure.proofs.Paths.{left_member, right_member}
use Rattle.treap_structure.proofs.Leaders.{treap_member, member_treap}
use Rattle.treap_structure.proofs.Columns.{subtree_within, rank_below}
use Rattle.treap_structure.proofs.Ancestors.{Leads, leader_under, root_key_lem}
use Rattle.treap_structure.proofs.Blocks.{top_is_root, Formed, blocks_formed, Holds, blocks_hold, root_is_root, below_is_not_root, one_root_block, below_root_rank, led, every_key_held}
use Rattle.treap_structure.proofs.Blocks.Formed.{at_root, below}

module _ (α : ℕ) (p : ℕ → ℕ) (wide : 2 ≤ α) (ks : List ℕ) (rising : Rising ks) where
  -- The test by which a block (v, i) takes its keys.
  taken : ℕ → ℕ → ℕ → Bool
  taken i v x = eqb (suc (rank α p ks x)) i && eqb (leader α p ks x) v

  -- One side of a key v: a subtree of the treap without v, whose keys have the rank of their subtree there.
  record Side (v : ℕ) (c : Tree) : Type 0 where
    good : Good p c
    within_treap : (x : ℕ) → member x (keys c) ≡ true → (member x ks ≡ true) × (subtree x (treap p ks) ≡ subtree x c)
    ranked : (x : ℕ) → member x (keys c) ≡ true → rank α p ks x ≡ (standing α (subtree x c)).rank
    without : member v (keys c) ≡ false

  -- if the side's root is of rank i or above, it leads instead of v
  led_elsewhere : (i v : ℕ) (c : Tree) → Side v c → i ≤ (standing α c).rank → All (λ x. taken i v x ≡ false) (keys c)
  unfolding taken
  led_elsewhere i v leaf s h = tt
  led_elsewhere i v (node a y b) s h =
      all_of_members (λ x. taken i v x ≡ false) (keys (node a y b))
      (λ x m.
      by_test (taken i v x)
      (λ e.
      let level = eqb-true (suc (rank α p ks x)) i (and_left (eqb (suc (rank α p ks x)) i) (eqb (leader α p ks x) v) e) in
      let leads = eqb-true (leader α p ks x) v (and_right (eqb (suc (rank α p ks x)) i) (eqb (leader α p ks x) v) e) in
      let root = keys_root a y b in
      let here : subtree y (treap p ks) ≡ node a y b = (s.within_treap y root).1 ∙ subtree_root a y b in
      let high : rank α p ks y ≡ (standing α (node a y b)).rank = s.ranked y root ∙ ap (λ t. (standing α t).rank) (subtree_root a y b) in
      let under =
      leader_under α p wide ks rising y x (s.within_treap y root).0 (s.within_treap x m).0 (omega arith) (ap (λ t. member x (keys t)) here ∙ m)
      in
      absurd (true_or_false (member v (keys (node a y b))) (sym (ap₂ (λ (z : ℕ) t. member z (keys t)) leads here) ∙ under) s.without))
      (λ e. e))

  -- so of each side fewer than α keys are taken
  side_bound : (i v : ℕ) (c : Tree) → Side v c → length (keep (taken i v) (keys c)) < α
  unfolding taken
  side_bound i v c s =
      by_test (leb i (standing α c).rank)
      (λ e. rw (keep_none (taken i v) (keys c) (led_elsewhere i v c s (leb-true i (standing α c).rank e))) (omega arith))
      (λ e.
      let few : size (pruned α (pred i) c) < α = pruned_away_small α (pruned α (pred i) c) (omega arith) (gone (leb-false i (standing α c).rank e)) in
      omega (arith, length-keep_le (taken i v) (λ x. leb (pred i) (standing α (subtree x c)).rank) (keys c) stays, ap length (pruned_by_rank α p wide (pred i) c s.good), length_keys (pruned α (pred i) c)))
    where
      gone : (standing α c).rank < i → size (pruned α (suc (pred i)) c) ≡ 0
      gone h = pruned_away α wide c (suc (pred i)) (omega arith)

      stays : All (λ x. taken i v x ≡ true → leb (pred i) (standing α (subtree x c)).rank ≡ true) (keys c)
      stays =
          all_of_members (λ x. taken i v x ≡ true → leb (pred i) (standing α (subtree x c)).rank ≡ true) (keys c)
          (λ x m e.
          let level = eqb-true (suc (rank α p ks x)) i (and_left (eqb (suc (rank α p ks x)) i) (eqb (leader α p ks x) v) e) in
          le-leb (pred i) (standing α (subtree x c)).rank (omega (arith, s.ranked x m)))

  -- ---- the two sides of a key
  module _ (v : ℕ) (l r : Tree) (s : subtree v (treap p ks) ≡ node l v r) where
    good_here : Good p (node l v r)
    good_here = subst (Good p) s (good_subtree p v (treap p ks) (treap_good p ks rising))

    key_of : (x : ℕ) → member x (keys (node l v r)) ≡ true → member x ks ≡ true
    key_of x m = treap_member α p wide ks rising x (inside (treap p ks) v x (ap (λ t. member x (keys t)) s ∙ m))

    -- a part of v's subtree in which each key has the same subtree
    part : (c : Tree) → Good p c → ((x : ℕ) → member x (keys c) ≡ true → (member x (keys (node l v r)) ≡ true) × (x ≢ v) × (subtree x (node l v r) ≡ subtree x c)) → Side v c
    part c g f =
        record {
          good = g;
          within_treap = λ x m. (key_of x (f x m).0, subtree_within p ks rising α wide v x (node l v r) s (f x m).0 ∙ (f x m).2);
          ranked = λ x m. rank_below p ks rising α wide v x (node l v r) s (f x m).0 (f x m).1 ∙ ap (λ t. (standing α t).rank) (subtree_within p ks rising α wide v x (node l v r) s (f x m).0 ∙ (f x m).2);
          without = by_test (member v (keys c)) (λ e. absurd ((f v e).1 refl)) (λ e. e);
        }

    left_side : Side v l
    left_side =
        part l good_here.2
        (λ x m. let low : x < v = all_member (λ z. z < v) (keys l) x (lesser_below p v (keys l) good_here.0) m in (left_member x l v r m, (λ e. omega arith), subtree_left l v r x low))

    right_side : Side v r
    right_side =
        part r good_here.3
        (λ x m. let high : v < x = all_member (λ z. v < z) (keys r) x (greater_above p v (keys r) good_here.1) m in (right_member x l v r m, (λ e. omega arith), subtree_right l v r x high))

  -- ---- the keys that a block takes lie on the two sides of its leader
  taken_led : (i v x : ℕ) → i ≤ root_rank α p ks → member x ks ≡ true → taken i v x ≡ true → Leads α p wide ks rising v x
  unfolding taken root_rank
  taken_led i v x h m e =
      let level = eqb-true (suc (rank α p ks x)) i (and_left (eqb (suc (rank α p ks x)) i) (eqb (leader α p ks x) v) e) in
      let leads = eqb-true (leader α p ks x) v (and_right (eqb (suc (rank α p ks x)) i) (eqb (leader α p ks x) v) e) in
      subst (λ (z : ℕ). Leads α p wide ks rising z x) leads
      (led α p ks wide rising x m (λ q. let same = ap (rank α p ks) q in omega arith))

  taken_bound : (i v : ℕ) → i ≤ root_rank α p ks → member v ks ≡ true → length (keep (taken i v) ks) + 2 ≤ 2 * α
  taken_bound i v h m =
      let (l, r, s) = subtree_of_key p (treap p ks) v (treap_good p ks rising) (member_treap α p wide ks rising v m) in
      let low = side_bound i v l (left_side v l r s) in
      let high = side_bound i v r (right_side v l r s) in
      let all_here : keep (taken i v) ks ≡ keep (taken i v) (keys l) ++ keep (taken i v) (keys r) =
      sym (keep_after (taken i v) (λ x. member x (keys (subtree v (treap p ks)))) ks (all_of_members (λ x. taken i v x ≡ true → member x (keys (subtree v (treap p ks))) ≡ true) ks (λ x n e. (taken_led i v x h n e).ancestor)))
      ∙ ap (λ (xs : List ℕ). keep (taken i v) (keep (λ x. member x (keys (subtree v (treap p ks)))) xs)) (sym (treap_keys p ks rising))
      ∙ ap (keep (taken i v)) (within_pruned p α 0 (treap p ks) v (treap_good p ks rising) ∙ ap keys s)
      ∙ keep_append (taken i v) (keys l) (v ∷ keys r)
      ∙ ap (λ b. keep (taken i v) (keys l) ++ cons_if b v (keep (taken i v) (keys r))) (by_test (taken i v v) (λ e. let o = (taken_led i v v h m e).higher_rank in absurd (omega arith)) (λ e. e))
      in
      omega (arith, ap length all_here, length-append (keep (taken i v) (keys l)) (keep (taken i v) (keys r)))

  pub block_size : (i v : ℕ) → i ≤ root_rank α p ks → member v ks ≡ true → length (block α p ks i v).held ≤ 2 * α - 2
  unfolding block taken
  block_size i v h m = omega (arith, taken_bound i v h m)

  -- ---- the root block: the root, and the keys that the block (root, k) would take
  pub led_by_top : (x : ℕ) → member x ks ≡ true → suc (rank α p ks x) ≡ root_rank α p ks → leader α p ks x ≡ top p ks
  unfolding root_rank
  led_by_top x m e =
      let leads = led α p ks wide rising x m (λ q. let same = ap (rank α p ks) q in omega arith) in
      by_test (eqb (leader α p ks x) (top p ks))
      (λ q. eqb-true (leader α p ks x) (top p ks) q)
      (λ q. absurd (omega (arith, leads.higher_rank, below_root_rank α p ks wide rising (leader α p ks x) leads.key (eqb-false (leader α p ks x) (top p ks) q))))

  pub root_block_size : (x : ℕ) → member x ks ≡ true → length (root_block α p ks).held ≤ 2 * α - 1
  unfolding root_block taken
  root_block_size x m =
      let k = root_rank α p ks in
      let root = top p ks in
      let one = rising_once ks root rising in
      let others =
      ap length
      (keep_same (λ y. eqb (suc (rank α p ks y)) k) (taken k root) ks
      (all_of_members (λ y. eqb (suc (rank α p ks y)) k ≡ taken k root y) ks
      (λ y n.
      same_test (eqb (suc (rank α p ks y)) k) (taken k root y)
      (λ e. and_both (eqb (suc (rank α p ks y)) k) (eqb (leader α p ks y) root) e (eq-eqb (leader α p ks y) root (led_by_top y n (eqb-true (suc (rank α p ks y)) k e))))
      (λ e. and_left (eqb (suc (rank α p ks y)) k) (eqb (leader α p ks y) root) e))))
      in
      omega (arith, length-keep-or (λ y. eqb y root) (λ y. eqb (suc (rank α p ks y)) k) ks, others, taken_bound k root (omega arith) (top_key x m))
    where
      top_key : (y : ℕ) → member y ks ≡ true → member (top p ks) ks ≡ true
      top_key y n = ap (λ (z : ℕ). member z ks) (top_is_root p ks rising y n) ∙ root_key_lem α p wide ks rising y n

  -- every block, by whether it is the root's
  abbrev pub Bounded : Block → Type 0
  Bounded b = length b.held ≤ cond (is_root_block α p ks b) (2 * α - 1) (2 * α - 2)

  pub blocks_bounded : All Bounded (blocks α p ks)
  blocks_bounded = all_map (λ b. Formed α p ks b × Holds α p ks wide rising b) Bounded bounded (blocks α p ks) (all_both (Formed α p ks) (Holds α p ks wide rising) (blocks α p ks) (blocks_formed α p ks) (blocks_hold α p ks wide rising))
    where
      some_key_of : (xs : List ℕ) → 0 < length xs → All (λ x. member x ks ≡ true) xs → (x : ℕ) × (member x ks ≡ true)
      some_key_of [] h a = absurd (omega arith)
      some_key_of (x ∷ xs) h a = (x, a.0)

      bounded : (b : Block) → Formed α p ks b × Holds α p ks wide rising b → Bounded b
      bounded b f = go b f.0 f.1
        where
          go : (c : Block) → Formed α p ks c → Holds α p ks wide rising c → Bounded c
          go c at_root h = let (x, m) = some_key_of (root_block α p ks).held h.some h.keys_of in rw (root_is_root α p ks) (root_block_size x m)
          go c (below i v l k m s) h = rw (below_is_not_root α p ks i v k) (block_size i v (omega arith) m)

  -- ---- all keys are in the blocks
  pub keys_in_blocks : length ks ≤ length (flat_map (λ b. b.held) (blocks α p ks))
  keys_in_blocks =
      rising_covered ks (flat_map (λ b. b.held) (blocks α p ks)) rising
      (all_of_members (λ x. member x (flat_map (λ b. b.held) (blocks α p ks)) ≡ true) ks (every_key_held α p ks wide rising))

  -- one of which is the root's, so there are no more than there is room for
  pub keys_have_room : length ks ≤ room α (length (blocks α p ks))
  unfolding room
  keys_have_room =
      by_test (ltb 0 (length ks))
      (λ e.
      let b = length (blocks α p ks) in
      let one = ap length (one_root_block α p ks (ltb-true 0 (length ks) e)) in
      let most =
      length-flat_map_most (λ c. c.held) (is_root_block α p ks) (2 * α - 2) (blocks α p ks)
      (subst (λ (n : ℕ). All (λ c. length c.held ≤ cond (is_root_block α p ks c) n (2 * α - 2)) (blocks α p ks)) (omega arith) blocks_bounded)
      in
      let fewer = length-keep (is_root_block α p ks) (blocks α p ks) in
      omega (arith, keys_in_blocks, most, one, fewer, mul-suc (2 * α - 2) (b - 1), mul_comm (2 * α - 2) (b - 1), ap (λ (n : ℕ). (2 * α - 2) * n) (above b (omega arith))))
      (λ e. let none = ltb-false 0 (length ks) e in omega arith)
    where
      above : (n : ℕ) → 1 ≤ n → n ≡ suc (n - 1)
      above n h = omega arith
