-- The treap of a chain has no branches, and the search for its deepest key meets every block: so it reaches the ceilings. Assumes an order of
-- at least 2 and rising keys.
use mathlib.Core.Bool.{true}
use mathlib.Core.List.{List, [], ◌∷◌, ◌++◌}
use mathlib.Core.Logic.{◌⊎◌, inl, inr, ⊎_elim}
use mathlib.Core.Path.{◌≡◌, refl, sym, ap, ◌∙◌, subst}
use Prim.Native.Nat.{ℕ, max, ◌<◌, ◌≤◌}
use native.Mathlib.Omega.{arith}
use lib.Dec.{eqb, ltb}
use lib.ListN.{length}
use borrow.Author.Tests.{ltb-true, ltb-false, eqb-true, eqb-false}
use Rattle.lists.specs.Lists.{member, All, Pairwise, Rising}
use Rattle.lists.proofs.Tests.{by_test, or_true_left, or_true_right}
use Rattle.lists.proofs.Keep.{all_map, all_append, keep_all}
use Rattle.lists.proofs.Membership.{eqb_same, a_member, all_member, some_when}
use Rattle.lists.proofs.Pairwise.{pairwise_append_left, pairwise_append_right, pairwise_before}
use Rattle.treap.specs.Treap.{Tree, keys, path, outranks, treap}
use Rattle.treap.specs.Treap.Tree.{leaf, node}
use Rattle.treap.specs.Blocks.{Block, root_rank, blocks, meets, blocks_met}
use Rattle.treap_structure.proofs.Outranking.{outranks_one_way}
use Rattle.treap_structure.proofs.Shape.{size, length_keys, keys_root, Lesser, Greater, Good, lesser_below, greater_above, treap_keys, treap_good, treap_size}
use Rattle.treap_structure.proofs.Subtrees.{path_root, path_left, path_right}
use Rattle.treap_structure.proofs.Within.{no_keys}
use Rattle.treap_structure.proofs.Paths.{left_member, right_member}
use Rattle.treap_structure.proofs.Leaders.{treap_member}
use Rattle.treap_structure.proofs.Blocks.{Holds, blocks_hold}
use Rattle.treap_ceilings.specs.Ceiling.{rank_ceiling, blocks_ceiling}
use Rattle.treap_ceilings.specs.Claims.{Reach, Chain}
use Rattle.treap_ceilings.proofs.RankSizes.{Narrow}
use Rattle.treap_ceilings.proofs.RootRank.{narrow_at_ceiling}
use Rattle.treap_ceilings.proofs.LevelsMet.{met_at_most}
use Rattle.treap_ceilings.proofs.LevelsUsed.{blocks_many}

module _ (p : ℕ → ℕ) where
  -- The first outranks the second; the second the first.
  abbrev pub Falls : ℕ → ℕ → Type 0
  Falls a b = outranks p a b ≡ true

  abbrev pub Climbs : ℕ → ℕ → Type 0
  Climbs a b = outranks p b a ≡ true

  -- ---- no branches
  -- no key both outranks k and is outranked by it
  neither : (k : ℕ) (xs : List ℕ) → All (λ x. Falls x k) xs → All (λ x. Falls k x) xs → length xs ≡ 0
  neither k [] a b = refl
  neither k (x ∷ xs) a b = absurd (outranks_one_way p x k a.0 b.0)

  falling_side : (l : Tree) (k : ℕ) (r : Tree) → Good p (node l k r) → Pairwise Falls (keys (node l k r)) → size l ≡ 0
  falling_side l k r g h =
      sym (length_keys l) ∙ neither k (keys l) (pairwise_before Falls (keys l) k (keys r) h) (all_map (Lesser p k) (Falls k) (λ x q. q.1) (keys l) g.0)

  climbing_side : (l : Tree) (k : ℕ) (r : Tree) → Good p (node l k r) → Pairwise Climbs (keys (node l k r)) → size r ≡ 0
  climbing_side l k r g h =
      sym (length_keys r) ∙ neither k (keys r) (pairwise_append_right Climbs (keys l) (k ∷ keys r) h).0 (all_map (Greater p k) (Falls k) (λ x q. q.1) (keys r) g.1)

  -- where each key has a side without keys no key has two children
  narrow_by : (R : ℕ → ℕ → Type 0) → ((l : Tree) (k : ℕ) (r : Tree) → Good p (node l k r) → Pairwise R (keys (node l k r)) → (size l ≡ 0) ⊎ (size r ≡ 0))
      → (t : Tree) → Good p t → Pairwise R (keys t) → Narrow t
  narrow_by R side leaf g h = tt
  narrow_by R side (node l k r) g h = (
    side l k r g h,
    narrow_by R side l g.2 (pairwise_append_left R (keys l) (k ∷ keys r) h),
    narrow_by R side r g.3 (pairwise_append_right R (keys l) (k ∷ keys r) h).1,
  )

  chain_narrow : (ks : List ℕ) → Rising ks → Chain p ks → Narrow (treap p ks)
  chain_narrow ks rising chain =
      let good = treap_good p ks rising in
      let order = sym (treap_keys p ks rising) in
      ⊎_elim
      (λ h. narrow_by Falls (λ l k r g q. inl (falling_side l k r g q)) (treap p ks) good (subst (Pairwise Falls) order h))
      (λ h. narrow_by Climbs (λ l k r g q. inr (climbing_side l k r g q)) (treap p ks) good (subst (Pairwise Climbs) order h))
      chain

  -- ---- the deepest key, on whose search path are all keys
  Deepest : Tree → Type 0
  Deepest t = (v : ℕ) × (member v (keys t) ≡ true) × All (λ x. member x (path v t) ≡ true) (keys t)

  deepest : (t : Tree) → Good p t → Narrow t → 0 < size t → Deepest t
  unfolding Deepest
  deepest leaf g h some = absurd (omega arith)
  deepest (node l k r) g h some =
      let left = deepest l g.2 h.1 in
      let right = deepest r g.3 h.2 in
      by_test (ltb 0 (size l))
      (λ e.
      let (v, m, a) = left (ltb-true 0 (size l) e) in
      let other : size r ≡ 0 = ⊎_elim (λ (z : size l ≡ 0). let q = ltb-true 0 (size l) e in absurd (omega arith)) (λ z. z) h.0 in
      let way = path_left l k r v (all_member (λ z. z < k) (keys l) v (lesser_below p k (keys l) g.0) m) in
      (v, left_member v l k r m, spans v (path v l) way a (none r other (path v l))))
      (λ e.
      let other : size l ≡ 0 = let q = ltb-false 0 (size l) e in omega arith in
      by_test (ltb 0 (size r))
      (λ f.
      let (v, m, a) = right (ltb-true 0 (size r) f) in
      let way = path_right l k r v (all_member (λ z. k < z) (keys r) v (greater_above p k (keys r) g.1) m) in
      (v, right_member v l k r m, spans v (path v r) way (none l other (path v r)) a))
      (λ f.
      let nor : size r ≡ 0 = let q = ltb-false 0 (size r) f in omega arith in
      (k, keys_root l k r, spans k [] (path_root l k r) (none l other []) (none r nor []))))
    where
      none : (t : Tree) → size t ≡ 0 → (xs : List ℕ) → All (λ x. member x xs ≡ true) (keys t)
      none t z xs = subst (All (λ x. member x xs ≡ true)) (sym (no_keys t z)) tt

      further : (xs ys : List ℕ) → All (λ x. member x xs ≡ true) ys → All (λ x. member x (k ∷ xs) ≡ true) ys
      further xs ys a = all_map (λ x. member x xs ≡ true) (λ x. member x (k ∷ xs) ≡ true) (λ x m. or_true_right (eqb x k) (member x xs) m) ys a

      -- a path from k on that has the keys of either side has all
      spans : (v : ℕ) (xs : List ℕ) → path v (node l k r) ≡ k ∷ xs → All (λ x. member x xs ≡ true) (keys l) → All (λ x. member x xs ≡ true) (keys r)
          → All (λ x. member x (path v (node l k r)) ≡ true) (keys (node l k r))
      spans v xs way a b =
          subst (λ (ys : List ℕ). All (λ x. member x ys ≡ true) (keys l ++ k ∷ keys r)) (sym way)
          (all_append (λ x. member x (k ∷ xs) ≡ true) (keys l) (k ∷ keys r) (further xs (keys l) a) (or_true_left (eqb k k) (member k xs) (eqb_same k), further xs (keys r) b))

  -- ---- the ceilings are reached
  module _ (α : ℕ) (wide : 2 ≤ α) (ks : List ℕ) (rising : Rising ks) (some : 1 ≤ length ks) where
    -- a search whose path has all keys meets every block
    all_met : (v : ℕ) → All (λ x. member x (path v (treap p ks)) ≡ true) ks → blocks_met α p ks v ≡ length (blocks α p ks)
    unfolding blocks_met meets
    all_met v a =
        ap length
        (keep_all (meets α p ks v) (blocks α p ks)
        (all_map (Holds α p ks wide rising) (λ b. meets α p ks v b ≡ true) met (blocks α p ks) (blocks_hold α p ks wide rising)))
      where
        met : (b : Block) → Holds α p ks wide rising b → meets α p ks v b ≡ true
        met b h =
            let (x, m) = a_member b.held h.some in
            let key = all_member (λ z. member z ks ≡ true) b.held x h.keys_of m in
            some_when (λ z. member z b.held) (path v (treap p ks)) x (all_member (λ z. member z (path v (treap p ks)) ≡ true) ks x a key) m

    pub chain_reaches : Chain p ks → Reach α p ks
    unfolding Deepest blocks_ceiling
    chain_reaches chain =
        let narrow = chain_narrow ks rising chain in
        let root : root_rank α p ks ≡ rank_ceiling α (length ks) = narrow_at_ceiling α p wide ks rising some narrow in
        let (v, m, a) = deepest (treap p ks) (treap_good p ks rising) narrow (omega (arith, treap_size p ks rising)) in
        let all : blocks_met α p ks v ≡ length (blocks α p ks) = all_met v (subst (All (λ x. member x (path v (treap p ks)) ≡ true)) (treap_keys p ks rising) a) in
        let both : blocks_met α p ks v ≡ max 1 (root_rank α p ks) = omega (arith, blocks_many α p wide ks rising some, met_at_most α p wide ks rising v) in
        record {
          root = root;
          sought = v;
          held = treap_member α p wide ks rising v m;
          met =
              by_test (eqb (root_rank α p ks) 0)
              (λ e. rw e (let z = eqb-true (root_rank α p ks) 0 e in omega arith))
              (λ e. rw e (let d = eqb-false (root_rank α p ks) 0 e in omega arith));
        }
