-- A heap-ordered search tree is determined by its keys, and the treap of rising keys is the one for them. Assumes nothing.
use mathlib.Core.Bool.{Bool, true, false, ◌||◌}
use mathlib.Core.List.{List, [], ◌∷◌, ◌++◌}
use mathlib.Core.Logic.{◌≢◌, ⊎_elim}
use mathlib.Core.Path.{◌≡◌, refl, sym, ap, ap₂, ◌∙◌, subst}
use Prim.Native.Nat.{ℕ, zero, suc, ◌+◌, ◌<◌, ◌≤◌}
use native.Mathlib.Omega.{arith}
use lib.Dec.{eqb, ltb}
use lib.ListN.{length, length-append}
use borrow.Author.Tests.{ltb-true, eqb-true, ne_eqb}
use Rattle.lists.specs.Lists.{keep, every, member, All, Rising}
use Rattle.lists.proofs.Tests.{by_test, true_or_false, or_true_cases, or_true_left, or_true_right, or_both_false}
use Rattle.lists.proofs.Keep.{all_map, all_append, all_both, all_keep, kept_pass, every_when, every_says}
use Rattle.lists.proofs.Membership.{eqb_same, all_member, member-append, first_at, first_passes}
use Rattle.lists.proofs.Pairwise.{pairwise_keep}
use Rattle.lists.proofs.Rising.{rising_join, keep_below, keep_above, rising_split}
use Rattle.treap.specs.Treap.{Tree, keys, outranks, outranks_rest, top, treap_to, treap}
use Rattle.treap.specs.Treap.Tree.{leaf, node}
use Rattle.treap_structure.proofs.Outranking.{outranked_not, outranks_trans, outranks_total}

-- How many keys a tree has.
abbrev pub size : Tree → ℕ
size leaf = 0
size (node l k r) = size l + suc (size r)

pub length_keys : (t : Tree) → length (keys t) ≡ size t
length_keys leaf = refl
length_keys (node l k r) = length-append (keys l) (k ∷ keys r) ∙ ap₂ (λ (a b : ℕ). a + suc b) (length_keys l) (length_keys r)

pub keys_root : (l : Tree) (k : ℕ) (r : Tree) → member k (keys (node l k r)) ≡ true
keys_root l k r = member-append k (keys l) (k ∷ keys r) ∙ or_true_right (member k (keys l)) (member k (k ∷ keys r)) (or_true_left (eqb k k) (member k (keys r)) (eqb_same k))

module _ (p : ℕ → ℕ) where
  -- The keys below a root that it separates and outranks.
  abbrev pub Lesser : ℕ → ℕ → Type 0
  Lesser k x = (x < k) × (outranks p k x ≡ true)

  abbrev pub Greater : ℕ → ℕ → Type 0
  Greater k x = (k < x) × (outranks p k x ≡ true)

  -- A heap-ordered search tree.
  abbrev pub Good : Tree → Type 0
  Good leaf = Unit {0}
  Good (node l k r) = All (Lesser k) (keys l) × All (Greater k) (keys r) × Good l × Good r

  pub lesser_below : (k : ℕ) (xs : List ℕ) → All (Lesser k) xs → All (λ x. x < k) xs
  lesser_below k xs h = all_map (Lesser k) (λ x. x < k) (λ x q. q.0) xs h

  pub greater_above : (k : ℕ) (xs : List ℕ) → All (Greater k) xs → All (λ x. k < x) xs
  greater_above k xs h = all_map (Greater k) (λ x. k < x) (λ x q. q.0) xs h

  pub good_rising : (t : Tree) → Good t → Rising (keys t)
  good_rising leaf g = tt
  good_rising (node l k r) g =
      rising_join (keys l) k (keys r) (good_rising l g.2) (good_rising r g.3) (lesser_below k (keys l) g.0) (greater_above k (keys r) g.1)

  -- ---- the root of a good tree is the key that outranks the rest
  root_outranks : (l : Tree) (k : ℕ) (r : Tree) → Good (node l k r) → outranks_rest p (keys (node l k r)) k ≡ true
  unfolding outranks_rest
  root_outranks l k r g =
      every_when (λ x. eqb x k || outranks p k x) (keys l ++ k ∷ keys r)
      (all_append (λ x. (eqb x k || outranks p k x) ≡ true) (keys l) (k ∷ keys r)
      (all_map (Lesser k) (λ x. (eqb x k || outranks p k x) ≡ true) (λ x q. or_true_right (eqb x k) (outranks p k x) q.1) (keys l) g.0) (
        or_true_left (eqb k k) (outranks p k k) (eqb_same k),
        all_map (Greater k) (λ x. (eqb x k || outranks p k x) ≡ true) (λ x q. or_true_right (eqb x k) (outranks p k x) q.1) (keys r) g.1,
      ))

  outranked_does_not : (ks : List ℕ) (k x : ℕ) → member k ks ≡ true → Lesser k x → outranks_rest p ks x ≡ false
  unfolding outranks_rest
  outranked_does_not ks k x m q =
      by_test (every (λ y. eqb y x || outranks p x y) ks)
      (λ h.
      let passes = all_member (λ y. (eqb y x || outranks p x y) ≡ true) ks k (every_says (λ y. eqb y x || outranks p x y) ks h) m in
      let l = q.0 in
      absurd (true_or_false (eqb k x || outranks p x k) passes (or_both_false (eqb k x) (outranks p x k) (ne_eqb k x (λ e. omega arith)) (outranked_not p k x q.1))))
      (λ h. h)

  pub top_of_good : (l : Tree) (k : ℕ) (r : Tree) → Good (node l k r) → top p (keys (node l k r)) ≡ k
  unfolding top
  top_of_good l k r g =
      first_at 0 (outranks_rest p (keys (node l k r))) (keys l) k (keys r)
      (all_map (Lesser k) (λ x. outranks_rest p (keys (node l k r)) x ≡ false) (λ x q. outranked_does_not (keys (node l k r)) k x (keys_root l k r) q) (keys l) g.0)
      (root_outranks l k r g)

  -- ---- uniqueness
  pub treap_to_step : (d : ℕ) (ks : List ℕ) → 0 < length ks
      → treap_to p (suc d) ks ≡ node (treap_to p d (keep (λ x. ltb x (top p ks)) ks)) (top p ks) (treap_to p d (keep (λ x. ltb (top p ks) x) ks))
  treap_to_step d [] h = absurd (omega arith)
  treap_to_step d (k ∷ ks) h = refl

  treap_to_none : (d : ℕ) → treap_to p d [] ≡ leaf
  treap_to_none zero = refl
  treap_to_none (suc d) = refl

  treap_to_keys : (t : Tree) (d : ℕ) → size t ≤ d → Good t → treap_to p d (keys t) ≡ t
  treap_to_keys leaf d h g = treap_to_none d
  treap_to_keys (node l k r) zero h g = absurd (omega arith)
  treap_to_keys (node l k r) (suc d) h g =
      treap_to_step d (keys l ++ k ∷ keys r) (omega (arith, length-append (keys l) (k ∷ keys r)))
      ∙ ap (λ (m : ℕ). node (treap_to p d (keep (λ x. ltb x m) (keys l ++ k ∷ keys r))) m (treap_to p d (keep (λ x. ltb m x) (keys l ++ k ∷ keys r)))) (top_of_good l k r g)
      ∙ ap₂ (λ (xs ys : List ℕ). node (treap_to p d xs) k (treap_to p d ys))
      (keep_below (keys l) k (keys r) (lesser_below k (keys l) g.0) (greater_above k (keys r) g.1))
      (keep_above (keys l) k (keys r) (lesser_below k (keys l) g.0) (greater_above k (keys r) g.1))
      ∙ ap₂ (λ (a b : Tree). node a k b) (treap_to_keys l d (omega arith) g.2) (treap_to_keys r d (omega arith) g.3)

  -- the treap of a heap-ordered search tree's keys is the tree
  pub treap_unique : (t : Tree) → Good t → treap p (keys t) ≡ t
  unfolding treap
  treap_unique t g = treap_to_keys t (length (keys t)) (omega (arith, length_keys t)) g

  -- a heap-ordered search tree is determined by its keys
  pub good_unique : (t u : Tree) → Good t → Good u → keys t ≡ keys u → t ≡ u
  good_unique t u g h e = sym (treap_unique t g) ∙ ap (treap p) e ∙ treap_unique u h

  -- ---- existence: some key outranks the rest
  Tops : List ℕ → Type 0
  Tops ks = (m : ℕ) × (member m ks ≡ true) × All (λ x. (eqb x m || outranks p m x) ≡ true) ks

  climb : (k m : ℕ) (ks : List ℕ) → outranks p k m ≡ true → All (λ x. (eqb x m || outranks p m x) ≡ true) ks → All (λ x. (eqb x k || outranks p k x) ≡ true) ks
  climb k m ks h a =
      all_map (λ x. (eqb x m || outranks p m x) ≡ true) (λ x. (eqb x k || outranks p k x) ≡ true)
      (λ x q.
      or_true_right (eqb x k) (outranks p k x)
      (⊎_elim (λ e. subst (λ (z : ℕ). outranks p k z ≡ true) (sym (eqb-true x m e)) h) (λ o. outranks_trans p k m x h o) (or_true_cases (eqb x m) (outranks p m x) q)))
      ks a

  some_top : (k : ℕ) (ks : List ℕ) → Tops (k ∷ ks)
  unfolding Tops
  some_top k [] = (k, or_true_left (eqb k k) false (eqb_same k), (or_true_left (eqb k k) (outranks p k k) (eqb_same k), tt))
  some_top k (j ∷ js) =
      let (m, i, a) = some_top j js in
      by_test (outranks p k m)
      (λ h. (k, or_true_left (eqb k k) (member k (j ∷ js)) (eqb_same k), (or_true_left (eqb k k) (outranks p k k) (eqb_same k), climb k m (j ∷ js) h a)))
      (λ h. (
        m,
        or_true_right (eqb m k) (member m (j ∷ js)) i,
        (
          by_test (eqb k m) (λ e. or_true_left (eqb k m) (outranks p m k) e)
              (λ e. or_true_right (eqb k m) (outranks p m k) (outranks_total p k m (λ q. true_or_false (eqb k m) (subst (λ (z : ℕ). eqb k z ≡ true) q (eqb_same k)) e) h)),
          a,
        ),
      ))

  pub top_member : (k : ℕ) (ks : List ℕ) → member (top p (k ∷ ks)) (k ∷ ks) ≡ true
  unfolding top outranks_rest Tops
  top_member k ks =
      let (m, i, a) = some_top k ks in
      (first_passes 0 (outranks_rest p (k ∷ ks)) (k ∷ ks) m i (every_when (λ x. eqb x m || outranks p m x) (k ∷ ks) a)).1

  pub top_outranks : (k : ℕ) (ks : List ℕ) → All (λ x. (eqb x (top p (k ∷ ks)) || outranks p (top p (k ∷ ks)) x) ≡ true) (k ∷ ks)
  unfolding top outranks_rest Tops
  top_outranks k ks =
      let (m, i, a) = some_top k ks in
      every_says (λ x. eqb x (top p (k ∷ ks)) || outranks p (top p (k ∷ ks)) x) (k ∷ ks)
      (first_passes 0 (outranks_rest p (k ∷ ks)) (k ∷ ks) m i (every_when (λ x. eqb x m || outranks p m x) (k ∷ ks) a)).0

  -- a kept key that differs from the root is outranked by it
  kept_outranked : (f : ℕ → Bool) (m : ℕ) (ks : List ℕ) → ((x : ℕ) → f x ≡ true → x ≢ m)
      → All (λ x. (eqb x m || outranks p m x) ≡ true) ks → All (λ x. outranks p m x ≡ true) (keep f ks)
  kept_outranked f m ks d a =
      all_map (λ x. (f x ≡ true) × ((eqb x m || outranks p m x) ≡ true)) (λ x. outranks p m x ≡ true)
      (λ x q. ⊎_elim (λ e. absurd (d x q.0 (eqb-true x m e))) (λ o. o) (or_true_cases (eqb x m) (outranks p m x) q.1))
      (keep f ks)
      (all_both (λ x. f x ≡ true) (λ x. (eqb x m || outranks p m x) ≡ true) (keep f ks) (kept_pass f ks)
      (all_keep (λ x. (eqb x m || outranks p m x) ≡ true) f ks a))

  kept_lesser : (m : ℕ) (ks : List ℕ) → All (λ x. (eqb x m || outranks p m x) ≡ true) ks → All (Lesser m) (keep (λ x. ltb x m) ks)
  kept_lesser m ks a =
      all_both (λ x. x < m) (λ x. outranks p m x ≡ true) (keep (λ x. ltb x m) ks)
      (all_map (λ x. ltb x m ≡ true) (λ x. x < m) (λ x e. ltb-true x m e) (keep (λ x. ltb x m) ks) (kept_pass (λ x. ltb x m) ks))
      (kept_outranked (λ x. ltb x m) m ks (λ x e q. let l = ltb-true x m e in omega arith) a)

  kept_greater : (m : ℕ) (ks : List ℕ) → All (λ x. (eqb x m || outranks p m x) ≡ true) ks → All (Greater m) (keep (λ x. ltb m x) ks)
  kept_greater m ks a =
      all_both (λ x. m < x) (λ x. outranks p m x ≡ true) (keep (λ x. ltb m x) ks)
      (all_map (λ x. ltb m x ≡ true) (λ x. m < x) (λ x e. ltb-true m x e) (keep (λ x. ltb m x) ks) (kept_pass (λ x. ltb m x) ks))
      (kept_outranked (λ x. ltb m x) m ks (λ x e q. let l = ltb-true m x e in omega arith) a)

  -- the rule yields a heap-ordered search tree on its keys
  treap_to_good : (d : ℕ) (ks : List ℕ) → length ks ≤ d → Rising ks → (keys (treap_to p d ks) ≡ ks) × Good (treap_to p d ks)
  treap_to_good zero [] h s = (refl, tt)
  treap_to_good zero (k ∷ ks) h s = absurd (omega arith)
  treap_to_good (suc d) [] h s = (refl, tt)
  treap_to_good (suc d) (k ∷ ks) h s =
      let m = top p (k ∷ ks) in
      let below = keep (λ x. ltb x m) (k ∷ ks) in
      let above = keep (λ x. ltb m x) (k ∷ ks) in
      let split : below ++ m ∷ above ≡ k ∷ ks = rising_split (k ∷ ks) m s (top_member k ks) in
      let total : length below + suc (length above) ≡ suc (length ks) = sym (length-append below (m ∷ above)) ∙ ap length split in
      let left = treap_to_good d below (omega arith) (pairwise_keep ◌<◌ (λ x. ltb x m) (k ∷ ks) s) in
      let right = treap_to_good d above (omega arith) (pairwise_keep ◌<◌ (λ x. ltb m x) (k ∷ ks) s) in (
        ap₂ (λ (xs ys : List ℕ). xs ++ m ∷ ys) left.0 right.0 ∙ split,
        (
          subst (All (Lesser m)) (sym left.0) (kept_lesser m (k ∷ ks) (top_outranks k ks)),
          subst (All (Greater m)) (sym right.0) (kept_greater m (k ∷ ks) (top_outranks k ks)),
          left.1,
          right.1,
        ),
      )

  pub treap_keys : (ks : List ℕ) → Rising ks → keys (treap p ks) ≡ ks
  unfolding treap
  treap_keys ks s = (treap_to_good (length ks) ks (omega arith) s).0

  pub treap_good : (ks : List ℕ) → Rising ks → Good (treap p ks)
  unfolding treap
  treap_good ks s = (treap_to_good (length ks) ks (omega arith) s).1

  pub treap_size : (ks : List ℕ) → Rising ks → size (treap p ks) ≡ length ks
  treap_size ks s = sym (length_keys (treap p ks)) ∙ ap length (treap_keys ks s)
