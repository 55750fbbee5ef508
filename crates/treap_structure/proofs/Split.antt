-- The key that outranks the rest is the only one that does, and the treap splits at it into those of the parts before and
-- after. Assumes nothing.
use mathlib.Core.Bool.{true, false, ◌||◌}
use mathlib.Core.List.{List, [], ◌∷◌, ◌++◌}
use mathlib.Core.Logic.{◌≢◌, ⊎_elim}
use mathlib.Core.Path.{◌≡◌, refl, sym, ap, ap₂, ◌∙◌, subst}
use Prim.Native.Nat.{ℕ, suc, ◌<◌}
use native.Mathlib.Omega.{arith}
use lib.Dec.{eqb}
use lib.ListN.{length}
use borrow.Author.Tests.{eqb-true}
use Rattle.lists.specs.Lists.{member, All, Rising}
use Rattle.lists.proofs.Tests.{true_or_false, or_true_cases}
use Rattle.lists.proofs.Keep.{all_map, all_both, all_append_left, all_append_right}
use Rattle.lists.proofs.Membership.{all_member}
use Rattle.lists.proofs.Pairwise.{pairwise_append_left, pairwise_append_right, pairwise_before}
use Rattle.treap.specs.Treap.{Tree, keys, root_key, outranks, top, treap}
use Rattle.treap.specs.Treap.Tree.{leaf, node}
use Rattle.treap_structure.proofs.Outranking.{outranks_one_way}
use Rattle.treap_structure.proofs.Shape.{Lesser, Greater, Good, top_member, top_outranks, top_of_good, treap_unique, treap_keys, treap_good}

module _ (p : ℕ → ℕ) where
  -- A key that outranks the rest of a list.
  abbrev pub Tops : ℕ → List ℕ → Type 0
  Tops m ks = All (λ x. (eqb x m || outranks p m x) ≡ true) ks

  pub top_unique : (ks : List ℕ) (m : ℕ) → member m ks ≡ true → Tops m ks → top p ks ≡ m
  top_unique [] m i a = absurd (true_or_false false i refl)
  top_unique (k ∷ ks) m i a =
      let t = top p (k ∷ ks) in
      let other = all_member (λ x. (eqb x t || outranks p t x) ≡ true) (k ∷ ks) m (top_outranks p k ks) i in
      let one = all_member (λ x. (eqb x m || outranks p m x) ≡ true) (k ∷ ks) t a (top_member p k ks) in
      ⊎_elim (λ e. eqb-true t m e)
      (λ e. ⊎_elim (λ f. sym (eqb-true m t f)) (λ f. absurd (outranks_one_way p m t e f)) (or_true_cases (eqb m t) (outranks p t m) other))
      (or_true_cases (eqb t m) (outranks p m t) one)

  -- ---- the treap at its root
  rest_outranked : (m : ℕ) (xs : List ℕ) → All (λ x. x ≢ m) xs → Tops m xs → All (λ x. outranks p m x ≡ true) xs
  rest_outranked m xs d a =
      all_map (λ x. (x ≢ m) × ((eqb x m || outranks p m x) ≡ true)) (λ x. outranks p m x ≡ true)
      (λ x q. ⊎_elim (λ e. absurd (q.0 (eqb-true x m e))) (λ o. o) (or_true_cases (eqb x m) (outranks p m x) q.1))
      xs (all_both (λ x. x ≢ m) (λ x. (eqb x m || outranks p m x) ≡ true) xs d a)

  pub treap_split : (xs : List ℕ) (m : ℕ) (ys : List ℕ) → Rising (xs ++ m ∷ ys) → Tops m (xs ++ m ∷ ys)
      → treap p (xs ++ m ∷ ys) ≡ node (treap p xs) m (treap p ys)
  treap_split xs m ys s a =
      let rest : Rising (m ∷ ys) = pairwise_append_right ◌<◌ xs (m ∷ ys) s in
      let left = pairwise_append_left ◌<◌ xs (m ∷ ys) s in
      let low = pairwise_before ◌<◌ xs m ys s in
      let lesser : All (Lesser p m) xs =
      all_both (λ x. x < m) (λ x. outranks p m x ≡ true) xs low
      (rest_outranked m xs (all_map (λ x. x < m) (λ x. x ≢ m) (λ x h e. omega arith) xs low) (all_append_left (λ x. (eqb x m || outranks p m x) ≡ true) xs (m ∷ ys) a))
      in
      let greater : All (Greater p m) ys =
      all_both (λ x. m < x) (λ x. outranks p m x ≡ true) ys rest.0
      (rest_outranked m ys (all_map (λ x. m < x) (λ x. x ≢ m) (λ x h e. omega arith) ys rest.0) (all_append_right (λ x. (eqb x m || outranks p m x) ≡ true) xs (m ∷ ys) a).1)
      in
      let kx = treap_keys p xs left in
      let ky = treap_keys p ys rest.1 in
      let good : Good p (node (treap p xs) m (treap p ys)) =
      (subst (All (Lesser p m)) (sym kx) lesser, subst (All (Greater p m)) (sym ky) greater, treap_good p xs left, treap_good p ys rest.1)
      in
      ap (treap p) (sym (ap₂ (λ (us vs : List ℕ). us ++ m ∷ vs) kx ky)) ∙ treap_unique p (node (treap p xs) m (treap p ys)) good

  -- the root of the treap is the key that outranks the rest; zero of no keys, both
  pub root_is_top : (ks : List ℕ) → Rising ks → root_key (treap p ks) ≡ top p ks
  unfolding treap top
  root_is_top [] s = refl
  root_is_top (k ∷ ks) s = go (treap p (k ∷ ks)) (treap_good p (k ∷ ks) s) (treap_keys p (k ∷ ks) s)
    where
      go : (t : Tree) → Good p t → keys t ≡ k ∷ ks → root_key t ≡ top p (k ∷ ks)
      go leaf g e = let z : 0 ≡ suc (length ks) = ap length e in absurd (omega arith)
      go (node l m r) g e = sym (ap (top p) (sym e) ∙ top_of_good p l m r g)

  pub top_tops : (ks : List ℕ) → Tops (top p ks) ks
  unfolding top
  top_tops [] = tt
  top_tops (k ∷ ks) = top_outranks p k ks
