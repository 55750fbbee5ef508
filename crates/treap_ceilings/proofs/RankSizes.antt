-- How many keys a rank takes: α − 1 for each rank, and the count besides. A tree without branches has no more, so that it reaches the
-- ceiling. Assumes an order of at least 2.
use mathlib.Core.Logic.{◌⊎◌, ⊎_elim}
use mathlib.Core.Path.{◌≡◌, sym, ap, ◌∙◌}
use Prim.Native.Nat.{ℕ, suc, max, ◌+◌, ◌*◌, ◌-◌, ◌<◌, ◌≤◌}
use native.Mathlib.Nat.{suc-mul, zero-mul}
use native.Mathlib.Omega.{arith}
use lib.Dec.{ltb, leb}
use borrow.Author.Tests.{leb-true, ltb-true, ltb-false}
use Rattle.lists.specs.Lists.{rounded_up}
use Rattle.lists.proofs.Tests.{by_test}
use Rattle.lists.proofs.Rounding.{rounded_above, rounded_is, rounded_none}
use Rattle.treap.specs.Treap.{Tree}
use Rattle.treap.specs.Treap.Tree.{leaf, node}
use Rattle.treap_structure.proofs.Shape.{size}
use Rattle.treap_structure.proofs.Fold.{Standing, nobody, count_at, raise, standing, root_standing, counted, counted_at_most, nobody_counted, larger, none_stands, standing_stands, standing_rank_size}

-- A tree in which no key has two children.
abbrev pub Narrow : Tree → Type 0
Narrow leaf = Unit {0}
Narrow (node l k r) = ((size l ≡ 0) ⊎ (size r ≡ 0)) × Narrow l × Narrow r

module _ (α : ℕ) (wide : 2 ≤ α) where
  -- How many keys a standing takes.
  unfoldable keys_for : Standing → ℕ
  keys_for a = a.rank * (α - 1) + a.count

  -- ---- at most as many as there are
  -- the larger rank is that of one of the two
  of_larger : (a b : Standing) → max a.rank b.rank * (α - 1) + (count_at (max a.rank b.rank) a + count_at (max a.rank b.rank) b) ≤ keys_for a + keys_for b
  unfolding keys_for
  of_larger a b =
      let m = max a.rank b.rank in
      let few = counted_at_most a m in
      let few' = counted_at_most b m in
      ⊎_elim
      (λ e. let q : m * (α - 1) ≡ a.rank * (α - 1) = ap (λ (i : ℕ). i * (α - 1)) e in omega arith)
      (λ e. let q : m * (α - 1) ≡ b.rank * (α - 1) = ap (λ (i : ℕ). i * (α - 1)) e in omega arith)
      (larger a.rank b.rank)

  raise_takes : (a b : Standing) → keys_for (raise α a b) ≤ suc (keys_for a + keys_for b)
  unfolding keys_for
  raise_takes a b =
      let m = max a.rank b.rank in
      let few = of_larger a b in
      by_test (leb α (suc (count_at m a + count_at m b)))
      (λ e. let h = leb-true α (suc (count_at m a + count_at m b)) e in rw e (omega (arith, suc-mul m (α - 1))))
      (λ e. rw e (omega arith))

  standing_takes : (t : Tree) → keys_for (standing α t) ≤ size t
  unfolding keys_for
  standing_takes leaf = omega (arith, zero-mul (α - 1))
  standing_takes (node l k r) = omega (arith, raise_takes (standing α l) (standing α r), standing_takes l, standing_takes r)

  -- ---- so the root's rank is at most the ceiling
  rank_few : (t : Tree) (n : ℕ) → 0 < n → size t ≤ n → (standing α t).rank * (α - 1) < n
  unfolding keys_for
  rank_few t n h most =
      by_test (ltb 0 (size t))
      (λ e. omega (arith, standing_takes t, (standing_stands α wide t).counts (ltb-true 0 (size t) e)))
      (λ e.
      let none = ltb-false 0 (size t) e in
      let low : (standing α t).rank ≡ 0 = omega (arith, standing_rank_size α t) in
      omega (arith, ap (λ (i : ℕ). i * (α - 1)) low, zero-mul (α - 1)))

  pub root_at_most : (l : Tree) (k : ℕ) (r : Tree) → (root_standing α (node l k r)).rank ≤ rounded_up (size l + size r) (α - 1)
  root_at_most l k r =
      let m = max (standing α l).rank (standing α r).rank in
      by_test (ltb 0 (size l + size r))
      (λ e.
      let some = ltb-true 0 (size l + size r) e in
      rw e
      (rounded_above (size l + size r) (α - 1) (omega arith) m
      (⊎_elim
      (λ q. omega (arith, ap (λ (i : ℕ). i * (α - 1)) q, rank_few l (size l + size r) some (omega arith)))
      (λ q. omega (arith, ap (λ (i : ℕ). i * (α - 1)) q, rank_few r (size l + size r) some (omega arith)))
      (larger (standing α l).rank (standing α r).rank))))
      (λ e. rw e (omega arith))

  -- ---- without branches a standing takes all keys
  raise_exact : (a b : Standing) → count_at (max a.rank b.rank) a + count_at (max a.rank b.rank) b < α
      → keys_for (raise α a b) ≡ suc (max a.rank b.rank * (α - 1) + (count_at (max a.rank b.rank) a + count_at (max a.rank b.rank) b))
  unfolding keys_for
  raise_exact a b few =
      let m = max a.rank b.rank in
      by_test (leb α (suc (count_at m a + count_at m b)))
      (λ e. let h = leb-true α (suc (count_at m a + count_at m b)) e in rw e (omega (arith, suc-mul m (α - 1))))
      (λ e. rw e (omega arith))

  only_left : (a : Standing) → a.count < α → keys_for (raise α a nobody) ≡ suc (keys_for a)
  unfolding keys_for
  only_left a few =
      let m = max a.rank 0 in
      let q : m ≡ a.rank = omega arith in
      let one = counted a m q in
      let none = nobody_counted m in
      raise_exact a nobody (omega arith) ∙ omega (arith, ap (λ (i : ℕ). i * (α - 1)) q)

  only_right : (a : Standing) → a.count < α → keys_for (raise α nobody a) ≡ suc (keys_for a)
  unfolding keys_for
  only_right a few =
      let m = max 0 a.rank in
      let q : m ≡ a.rank = omega arith in
      let one = counted a m q in
      let none = nobody_counted m in
      raise_exact nobody a (omega arith) ∙ omega (arith, ap (λ (i : ℕ). i * (α - 1)) q)

  narrow_takes : (t : Tree) → Narrow t → keys_for (standing α t) ≡ size t
  unfolding keys_for
  narrow_takes leaf h = omega (arith, zero-mul (α - 1))
  narrow_takes (node l k r) h =
      let left = narrow_takes l h.1 in
      let right = narrow_takes r h.2 in
      ⊎_elim
      (λ e. ap (λ (a : Standing). keys_for (raise α a (standing α r))) (none_stands α l e) ∙ only_right (standing α r) (standing_stands α wide r).below ∙ omega arith)
      (λ e. ap (λ (a : Standing). keys_for (raise α (standing α l) a)) (none_stands α r e) ∙ only_left (standing α l) (standing_stands α wide l).below ∙ omega arith)
      h.0

  -- ---- so the root's rank is the ceiling
  narrow_rank : (t : Tree) (m : ℕ) → Narrow t → 0 < size t → m ≡ (standing α t).rank → rounded_up (size t) (α - 1) ≡ suc m
  unfolding keys_for
  narrow_rank t m h some e =
      let all = narrow_takes t h in
      let stands = standing_stands α wide t in
      let low = stands.counts some in
      let high = stands.below in
      let q = ap (λ (i : ℕ). i * (α - 1)) e in
      rounded_is (size t) (α - 1) (omega arith) m (omega arith) (omega (arith, suc-mul m (α - 1)))

  pub narrow_root : (l : Tree) (k : ℕ) (r : Tree) → Narrow (node l k r) → (root_standing α (node l k r)).rank ≡ rounded_up (size l + size r) (α - 1)
  narrow_root l k r h =
      let m = max (standing α l).rank (standing α r).rank in
      let left = standing_rank_size α l in
      let right = standing_rank_size α r in
      by_test (ltb 0 (size l + size r))
      (λ e.
      let some = ltb-true 0 (size l + size r) e in
      rw e
      (⊎_elim
      (λ (z : size l ≡ 0). sym (narrow_rank r m h.2 (omega arith) (omega arith)) ∙ ap (λ (n : ℕ). rounded_up n (α - 1)) (omega arith))
      (λ (z : size r ≡ 0). sym (narrow_rank l m h.1 (omega arith) (omega arith)) ∙ ap (λ (n : ℕ). rounded_up n (α - 1)) (omega arith))
      h.0))
      (λ e.
      let none : size l + size r ≡ 0 = let f = ltb-false 0 (size l + size r) e in omega arith in
      rw (e, none) (sym (rounded_none (α - 1) (omega arith))))
