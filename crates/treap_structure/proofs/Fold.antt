-- The rank and count of a subtree's root, folded from those of its children, and the root's own rule. What they say of
-- pruning: a subtree outlasts exactly as many prunings as its rank, and its count is what the last leaves.
-- Assumes an order of at least 2 where it says so.
use mathlib.Core.Bool.{cond}
use mathlib.Core.Logic.{◌⊎◌, ◌≢◌, inl, inr, ⊎_elim}
use mathlib.Core.Path.{◌≡◌, refl, sym, ap, ap₂, ◌∙◌, subst}
use Prim.Native.Nat.{ℕ, zero, suc, max, ◌+◌, ◌-◌, ◌<◌, ◌≤◌}
use native.Mathlib.Nat.{zero-add, suc-add, sub-add_cancel}
use native.Mathlib.Omega.{arith}
use lib.Dec.{eqb, ltb, leb}
use borrow.Author.Tests.{leb-true, leb-false, ltb-false, lt-ltb, eqb-true, eqb-false, eq-eqb}
use Rattle.lists.proofs.Tests.{by_test}
use Rattle.treap.specs.Treap.{Tree, subtree}
use Rattle.treap.specs.Treap.Tree.{leaf, node}
use Rattle.treap_structure.proofs.Shape.{size}
use Rattle.treap_structure.proofs.Subtrees.{subtree_cases}
use Rattle.treap_structure.proofs.Prune.{prune, pruned, lead, level_tree, prune_big, prune_small, size_prune}

-- A key's standing: its rank and its count; of no key, zeros.
pub record Standing : Type 0 where
  pub rank : ℕ
  pub count : ℕ

abbrev pub nobody : Standing
nobody = record { rank = 0; count = 0 }

-- The count of a child if it has the given rank, else nothing.
abbrev pub count_at : ℕ → Standing → ℕ
count_at m a = cond (eqb a.rank m) a.count 0

pub counted : (a : Standing) (m : ℕ) → m ≡ a.rank → count_at m a ≡ a.count
counted a m e = rw (eq-eqb a.rank m (sym e))

pub counted_at_most : (a : Standing) (m : ℕ) → count_at m a ≤ a.count
counted_at_most a m = by_test (eqb a.rank m) (λ e. rw e (omega arith)) (λ e. rw e (omega arith))

pub nobody_counted : (m : ℕ) → count_at m nobody ≡ 0
nobody_counted m = by_test (eqb 0 m) (λ e. rw e refl) (λ e. rw e refl)

-- the larger of two is one of them
pub larger : (x y : ℕ) → (max x y ≡ x) ⊎ (max x y ≡ y)
larger x y = by_test (leb x y) (λ e. let h = leb-true x y e in inr (omega arith)) (λ e. let h = leb-false x y e in inl (omega arith))

module _ (α : ℕ) where
  -- The fold: with m the larger of the children's ranks and c one more than the counts of the children of that rank,
  -- rank m + 1 and count 1 if c reaches α, else rank m and count c.
  abbrev pub raise : Standing → Standing → Standing
  raise a b =
      let m = max a.rank b.rank in
      let c = suc (count_at m a + count_at m b) in
      cond (leb α c) (record { rank = suc m; count = 1 }) (record { rank = m; count = c })

  -- The standing of the root of a tree that hangs below another key.
  abbrev pub standing : Tree → Standing
  standing leaf = nobody
  standing (node l k r) = raise (standing l) (standing r)

  -- The standing of the root of the whole tree: one rank above its children's, or 0 where it has none; its count is 1.
  abbrev pub root_standing : Tree → Standing
  root_standing leaf = nobody
  root_standing (node l k r) = record { rank = cond (ltb 0 (size l + size r)) (suc (max (standing l).rank (standing r).rank)) 0; count = 1 }

  pub none_stands : (t : Tree) → size t ≡ 0 → standing t ≡ nobody
  none_stands leaf e = refl
  none_stands (node l k r) e = absurd (omega arith)

  -- ---- pruning a node: its children pruned, until nothing is left
  unfoldable pub Over : ℕ → Tree → Tree → ℕ → Tree → Type 0
  Over i s l k r = (s ≡ node (pruned α i l) k (pruned α i r)) ⊎ ((s ≡ leaf) × (size (pruned α i l) ≡ 0) × (size (pruned α i r) ≡ 0))

  pub pruned_leaf : (i : ℕ) → pruned α i leaf ≡ leaf
  pruned_leaf zero = refl
  pruned_leaf (suc i) = ap (prune α) (pruned_leaf i)

  small : (t : Tree) → size t < α → size (prune α t) ≡ 0
  small t h = ap size (prune_small α t h)

  still_none : (t : Tree) → size t ≡ 0 → size (prune α t) ≡ 0
  still_none t e = omega (arith, size_prune α t)

  pub pruned_over : (i : ℕ) (l : Tree) (k : ℕ) (r : Tree) → Over i (pruned α i (node l k r)) l k r
  unfolding Over
  pruned_over zero l k r = inl refl
  pruned_over (suc i) l k r =
      let a = pruned α i l in
      let b = pruned α i r in
      ⊎_elim
      (λ e.
      by_test (leb α (size (node a k b)))
      (λ h. inl (ap (prune α) e ∙ prune_big α a k b (leb-true α (size (node a k b)) h)))
      (λ h.
      let q = leb-false α (size (node a k b)) h in
      inr (ap (prune α) e ∙ prune_small α (node a k b) q, small a (omega arith), small b (omega arith))))
      (λ e. inr (ap (prune α) e.0, still_none a e.1, still_none b e.2))
      (pruned_over i l k r)

  -- a level's tree is the root over its pruned children, until nothing is left
  pub level_tree_over : (i : ℕ) (l : Tree) (k : ℕ) (r : Tree) → Over i (level_tree α (node l k r) i) l k r
  unfolding Over
  level_tree_over zero l k r = inl refl
  level_tree_over (suc i) l k r =
      let a = pruned α i l in
      let b = pruned α i r in
      ⊎_elim
      (λ e.
      by_test (ltb 1 (size (node a k b)))
      (λ h. inl (ap (lead α) e ∙ rw h))
      (λ h.
      let q = ltb-false 1 (size (node a k b)) h in
      inr (ap (lead α) e ∙ rw h, still_none a (omega arith), still_none b (omega arith))))
      (λ e. inr (ap (lead α) e.0, still_none a e.1, still_none b e.2))
      (level_tree_over i l k r)

  -- what is pruned away had fewer than α keys
  pub pruned_away_small : (t : Tree) → 0 < α → size (prune α t) ≡ 0 → size t < α
  pruned_away_small leaf h e = h
  pruned_away_small (node l k r) h e =
      by_test (leb α (size (node l k r)))
      (λ q. let z = ap size (prune_big α l k r (leb-true α (size (node l k r)) q)) in absurd (omega arith))
      (λ q. leb-false α (size (node l k r)) q)

  -- pruning more leaves no more
  pub pruned_falls : (t : Tree) (i d : ℕ) → size (pruned α (d + i) t) ≤ size (pruned α i t)
  pruned_falls t i zero = rw (zero-add i) (omega arith)
  pruned_falls t i (suc d) = rw (suc-add d i) (omega (arith, size_prune α (pruned α (d + i) t), pruned_falls t i d))

  pub pruned_le : (t : Tree) (i j : ℕ) → i ≤ j → size (pruned α j t) ≤ size (pruned α i t)
  pruned_le t i j h = subst (λ (n : ℕ). size (pruned α n t) ≤ size (pruned α i t)) (sub-add_cancel h) (pruned_falls t i (j - i))

  -- ---- the fold says when a subtree is pruned away, and what is left before
  pub record Stands (t : Tree) (a : Standing) : Type 0 where
    pub lasts : size (pruned α a.rank t) ≡ a.count
    pub below : a.count < α
    pub counts : 0 < size t → 0 < a.count
    pub ranks : 0 < a.rank → 0 < a.count

  -- after as many prunings as the larger rank a child has its count at that rank
  at_rank : (t : Tree) (a : Standing) (m : ℕ) → Stands t a → a.rank ≤ m → size (pruned α m t) ≡ count_at m a
  at_rank t a m s h =
      by_test (eqb a.rank m)
      (λ e. rw e (ap (λ (i : ℕ). size (pruned α i t)) (sym (eqb-true a.rank m e)) ∙ s.lasts))
      (λ e.
      let d : a.rank ≢ m = eqb-false a.rank m e in
      let l = s.lasts in
      let b = s.below in
      rw e (omega (arith, pruned_le t (suc a.rank) m (omega arith), small (pruned α a.rank t) (omega arith))))

  node_or_leaf : (l : Tree) (k : ℕ) (r : Tree) → node l k r ≡ leaf → ⊥
  node_or_leaf l k r e = let q : size (node l k r) ≡ 0 = ap size e in omega arith

  -- so that many prunings leave the node over its pruned children
  full : (l : Tree) (k : ℕ) (r : Tree) (a b : Standing) → Stands l a → Stands r b → (m : ℕ) → m ≡ max a.rank b.rank
      → pruned α m (node l k r) ≡ node (pruned α m l) k (pruned α m r)
  unfolding Over
  full l k r a b s u zero e = refl
  full l k r a b s u (suc m) e =
      ⊎_elim (λ q. q)
      (λ q.
      let x = at_rank l a (suc m) s (omega arith) in
      let y = at_rank r b (suc m) u (omega arith) in
      absurd
      (⊎_elim
      (λ h. omega (arith, q.1, s.ranks (omega arith), counted a (suc m) (omega arith)))
      (λ h. omega (arith, q.2, u.ranks (omega arith), counted b (suc m) (omega arith)))
      (larger a.rank b.rank)))
      (pruned_over (suc m) l k r)

  module _ (wide : 2 ≤ α) where
    raise_stands : (l : Tree) (k : ℕ) (r : Tree) (a b : Standing) → Stands l a → Stands r b → Stands (node l k r) (raise a b)
    raise_stands l k r a b s u =
        let m = max a.rank b.rank in
        let x : size (pruned α m l) ≡ count_at m a = at_rank l a m s (omega arith) in
        let y : size (pruned α m r) ≡ count_at m b = at_rank r b m u (omega arith) in
        let whole : pruned α m (node l k r) ≡ node (pruned α m l) k (pruned α m r) = full l k r a b s u m refl in
        by_test (leb α (suc (count_at m a + count_at m b)))
        (λ e.
        let h = leb-true α (suc (count_at m a + count_at m b)) e in
        let few = capped a m s.below in
        let few' = capped b m u.below in
        rw e
        record {
          lasts =
              ap (λ t. size (prune α t)) whole ∙ ap size (prune_big α (pruned α m l) k (pruned α m r) (omega arith))
              ∙ ap₂ (λ (i j : ℕ). i + suc j) (small (pruned α m l) (omega arith)) (small (pruned α m r) (omega arith));
          below = omega arith;
          counts = λ _. omega arith;
          ranks = λ _. omega arith;
        })
        (λ e.
        let h = leb-false α (suc (count_at m a + count_at m b)) e in
        rw e
        record {
          lasts = ap size whole ∙ omega arith;
          below = h;
          counts = λ _. omega arith;
          ranks = λ _. omega arith;
        })
      where
        capped : (c : Standing) (m : ℕ) → c.count < α → count_at m c < α
        capped c m h = by_test (eqb c.rank m) (λ e. rw e h) (λ e. rw e (omega arith))

    pub standing_stands : (t : Tree) → Stands t (standing t)
    standing_stands leaf = record { lasts = refl; below = omega arith; counts = λ h. h; ranks = λ h. h }
    standing_stands (node l k r) = raise_stands l k r (standing l) (standing r) (standing_stands l) (standing_stands r)

    -- a tree outlasts i prunings exactly up to its rank
    pub outlasts : (t : Tree) (i : ℕ) → 0 < size t → i ≤ (standing t).rank → 0 < size (pruned α i t)
    outlasts t i h l =
        let s = standing_stands t in
        omega (arith, s.counts h, s.lasts, pruned_le t i (standing t).rank l)

    pub pruned_away : (t : Tree) (i : ℕ) → (standing t).rank < i → size (pruned α i t) ≡ 0
    pruned_away t i l =
        let s = standing_stands t in
        let a = s.lasts in
        let b = s.below in
        omega (arith, pruned_le t (suc (standing t).rank) i l, small (pruned α (standing t).rank t) (omega arith))

  -- ---- the fold's rank is the larger child's, or one more
  pub raise_rank_low : (a b : Standing) → max a.rank b.rank ≤ (raise a b).rank
  raise_rank_low a b =
      let m = max a.rank b.rank in
      by_test (leb α (suc (count_at m a + count_at m b))) (λ e. rw e (omega arith)) (λ e. rw e (omega arith))

  pub raise_rank_high : (a b : Standing) → (raise a b).rank ≤ suc (max a.rank b.rank)
  raise_rank_high a b =
      let m = max a.rank b.rank in
      by_test (leb α (suc (count_at m a + count_at m b))) (λ e. rw e (omega arith)) (λ e. rw e (omega arith))

  pub standing_rank_size : (t : Tree) → (standing t).rank ≤ size t
  standing_rank_size leaf = omega arith
  standing_rank_size (node l k r) =
      omega (arith, raise_rank_high (standing l) (standing r), standing_rank_size l, standing_rank_size r)

  pub root_rank_size : (t : Tree) → (root_standing t).rank ≤ size t
  root_rank_size leaf = omega arith
  root_rank_size (node l k r) =
      by_test (ltb 0 (size l + size r))
      (λ e. rw e (omega (arith, standing_rank_size l, standing_rank_size r)))
      (λ e. rw e (omega arith))

  -- the root's own rule gives at most one rank more than the fold
  pub root_rank_over : (t : Tree) → (root_standing t).rank ≤ suc (standing t).rank
  root_rank_over leaf = omega arith
  root_rank_over (node l k r) =
      by_test (ltb 0 (size l + size r))
      (λ e. rw e (omega (arith, raise_rank_low (standing l) (standing r))))
      (λ e. rw e (omega arith))

  -- ---- ranks fall from a tree to its subtrees, and strictly from the root
  pub subtree_rank : (v : ℕ) (t : Tree) → (standing (subtree v t)).rank ≤ (standing t).rank
  subtree_rank v leaf = omega arith
  subtree_rank v (node l k r) =
      let low = raise_rank_low (standing l) (standing r) in
      let a = subtree_rank v l in
      let b = subtree_rank v r in
      subtree_cases (λ s. (standing s).rank ≤ (standing (node l k r)).rank) v l k r (omega arith) (omega arith) (omega arith)

  pub root_rank_left : (l : Tree) (k : ℕ) (r : Tree) → 0 < size l → (standing l).rank < (root_standing (node l k r)).rank
  root_rank_left l k r h = rw (lt-ltb 0 (size l + size r) (omega arith)) (omega arith)

  pub root_rank_right : (l : Tree) (k : ℕ) (r : Tree) → 0 < size r → (standing r).rank < (root_standing (node l k r)).rank
  root_rank_right l k r h = rw (lt-ltb 0 (size l + size r) (omega arith)) (omega arith)
