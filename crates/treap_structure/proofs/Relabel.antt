-- Keys renamed in their order, priorities kept: the treap, ranks and counts stay, links and leaders are renamed.
-- Assumes an order of at least 2 where ranks are concerned, and rising keys.
use mathlib.Core.Bool.{Bool, true, false, cond, ◌||◌, ◌&&◌}
use mathlib.Core.List.{List, ◌∷◌, ◌++◌, map, map-append}
use mathlib.Core.Path.{◌≡◌, refl, sym, ap, ap₂, ◌∙◌, subst}
use Prim.Native.Nat.{ℕ, suc, max, ◌+◌, ◌<◌, ◌≤◌}
use native.Mathlib.Omega.{arith}
use lib.Dec.{eqb, ltb}
use borrow.Author.Tests.{lt-ltb, le-ltb}
use Rattle.lists.specs.Lists.{member, All, Rising}
use Rattle.lists.proofs.Tests.{Compared, compared}
use Rattle.lists.proofs.Tests.Compared.{less, same, more}
use Rattle.lists.proofs.Keep.{all_map, all_mapped, all_both, all_append_left, all_append_right}
use Rattle.lists.proofs.Membership.{all_of_members}
use Rattle.lists.proofs.Pairwise.{pairwise_map, pairwise_mapped}
use Rattle.treap.specs.Treap.{Tree, keys, root_key, left_of, right_of, outranks, top, treap, left_link, right_link}
use Rattle.treap.specs.Treap.Tree.{leaf, node}
use Rattle.treap.specs.Levels.{rank, count, leader}
use Rattle.treap_structure.proofs.Shape.{size, Lesser, Greater, Good, treap_keys, treap_good, treap_unique}
use Rattle.treap_structure.proofs.Split.{root_is_top}
use Rattle.treap_structure.proofs.Fold.{Standing, raise, standing, root_standing}
use Rattle.treap_structure.proofs.Columns.{flat, flat_root, leaders_from, handed_down, left_column_lem, right_column_lem, rank_column_lem, count_column_lem, leader_column_lem}

-- The tree with its keys renamed.
abbrev pub renamed : (ℕ → ℕ) → Tree → Tree
renamed f leaf = leaf
renamed f (node l k r) = node (renamed f l) (f k) (renamed f r)

-- ---- what a renaming keeps whatever it is
module _ (f : ℕ → ℕ) where
  pub renamed_keys : (t : Tree) → keys (renamed f t) ≡ map f (keys t)
  renamed_keys leaf = refl
  renamed_keys (node l k r) =
      ap₂ (λ (xs ys : List ℕ). xs ++ f k ∷ ys) (renamed_keys l) (renamed_keys r) ∙ sym (map-append f (keys l) (k ∷ keys r))

  renamed_size : (t : Tree) → size (renamed f t) ≡ size t
  renamed_size leaf = refl
  renamed_size (node l k r) = ap₂ (λ (a b : ℕ). a + suc b) (renamed_size l) (renamed_size r)

  renamed_flat : {A : Type 0} (g : Tree → A) (t : Tree) → flat g (renamed f t) ≡ flat (λ s. g (renamed f s)) t
  renamed_flat g leaf = refl
  renamed_flat {A} g (node l k r) = ap₂ (λ (xs ys : List A). xs ++ g (renamed f (node l k r)) ∷ ys) (renamed_flat g l) (renamed_flat g r)

  flat_map : (g : Tree → ℕ) (t : Tree) → map f (flat g t) ≡ flat (λ s. f (g s)) t
  flat_map g leaf = refl
  flat_map g (node l k r) =
      map-append f (flat g l) (g (node l k r) ∷ flat g r) ∙ ap₂ (λ (xs ys : List ℕ). xs ++ f (g (node l k r)) ∷ ys) (flat_map g l) (flat_map g r)

  flat_same : {A : Type 0} (g h : Tree → A) (t : Tree) → ((s : Tree) → g s ≡ h s) → flat g t ≡ flat h t
  flat_same g h leaf e = refl
  flat_same {A} g h (node l k r) e =
      ap₂ (λ (xs ys : List A). xs ++ g (node l k r) ∷ ys) (flat_same g h l e) (flat_same g h r e) ∙ ap (λ (x : A). flat h l ++ x ∷ flat h r) (e (node l k r))

  module _ (α : ℕ) where
    renamed_standing : (t : Tree) → standing α (renamed f t) ≡ standing α t
    renamed_standing leaf = refl
    renamed_standing (node l k r) = ap₂ (raise α) (renamed_standing l) (renamed_standing r)

    renamed_root : (t : Tree) → root_standing α (renamed f t) ≡ root_standing α t
    renamed_root leaf = refl
    renamed_root (node l k r) =
        ap₂ (λ (a b : Standing). record_of (size (renamed f l) + size (renamed f r)) a b) (renamed_standing l) (renamed_standing r)
        ∙ ap (λ (n : ℕ). record_of n (standing α l) (standing α r)) (ap₂ (λ (a b : ℕ). a + b) (renamed_size l) (renamed_size r))
      where
        record_of : ℕ → Standing → Standing → Standing
        record_of n a b = record { rank = cond (ltb 0 n) (suc (max a.rank b.rank)) 0; count = 1 }

    renamed_leaders : (c m : ℕ) (t : Tree) → leaders_from α (f c) m (renamed f t) ≡ map f (leaders_from α c m t)
    renamed_leaders c m leaf = refl
    renamed_leaders c m (node a x b) =
        ap₂ (λ (xs ys : List ℕ). xs ++ f c ∷ ys)
        (side a (renamed_leaders (handed_down α c m x a) (standing α a).rank a))
        (side b (renamed_leaders (handed_down α c m x b) (standing α b).rank b))
        ∙ sym (map-append f (leaders_from α (handed_down α c m x a) (standing α a).rank a) (c ∷ leaders_from α (handed_down α c m x b) (standing α b).rank b))
      where
        pick : (b : Bool) (y z : ℕ) → cond b (f y) (f z) ≡ f (cond b y z)
        pick true y z = refl
        pick false y z = refl

        down : (s : Tree) → handed_down α (f c) m (f x) (renamed f s) ≡ f (handed_down α c m x s)
        down s = ap (λ (k : Standing). cond (ltb k.rank m) (f x) (f c)) (renamed_standing s) ∙ pick (ltb (standing α s).rank m) x c

        side : (s : Tree) → leaders_from α (f (handed_down α c m x s)) (standing α s).rank (renamed f s) ≡ map f (leaders_from α (handed_down α c m x s) (standing α s).rank s)
            → leaders_from α (handed_down α (f c) m (f x) (renamed f s)) (standing α (renamed f s)).rank (renamed f s) ≡ map f (leaders_from α (handed_down α c m x s) (standing α s).rank s)
        side s ih = ap₂ (λ (k n : ℕ). leaders_from α k n (renamed f s)) (down s) (ap (λ (k : Standing). k.rank) (renamed_standing s)) ∙ ih

-- A renaming that keeps the order of the listed keys and their priorities.
pub record Renames (f p q : ℕ → ℕ) (is : List ℕ) : Type 0 where
  pub nothing : f 0 ≡ 0
  pub rises : (i j : ℕ) → member i is ≡ true → member j is ≡ true → i < j → f i < f j
  pub keeps : (i : ℕ) → member i is ≡ true → p (f i) ≡ q i

module _ (f p q : ℕ → ℕ) (is : List ℕ) (r : Renames f p q is) (rising : Rising is) where
  pub same_less : (i j : ℕ) → member i is ≡ true → member j is ≡ true → ltb (f i) (f j) ≡ ltb i j
  same_less i j m n = go (compared i j)
    where
      go : Compared i j → ltb (f i) (f j) ≡ ltb i j
      go (less a b c l) = lt-ltb (f i) (f j) (r.rises i j m n l) ∙ sym b
      go (same a b c e) = ap (λ (k : ℕ). ltb (f i) (f k)) (sym e) ∙ le-ltb (f i) (f i) (omega arith) ∙ sym b
      go (more a b c l) = le-ltb (f i) (f j) (let h = r.rises j i n m l in omega arith) ∙ sym b

  pub same_outranks : (i j : ℕ) → member i is ≡ true → member j is ≡ true → outranks p (f i) (f j) ≡ outranks q i j
  unfolding outranks
  same_outranks i j m n =
      ap₂ (λ (x y : ℕ). ltb y x || (eqb x y && ltb (f i) (f j))) (r.keeps i m) (r.keeps j n)
      ∙ ap (λ b. ltb (q j) (q i) || (eqb (q i) (q j) && b)) (same_less i j m n)

  -- ---- the treap
  renamed_good : (t : Tree) → All (λ i. member i is ≡ true) (keys t) → Good q t → Good p (renamed f t)
  renamed_good leaf a g = tt
  renamed_good (node l k s) a g =
      let left = all_append_left (λ i. member i is ≡ true) (keys l) (k ∷ keys s) a in
      let right = all_append_right (λ i. member i is ≡ true) (keys l) (k ∷ keys s) a in (
        subst (All (Lesser p (f k))) (sym (renamed_keys f l))
            (all_mapped (Lesser p (f k)) f (keys l)
            (all_map (λ x. (member x is ≡ true) × Lesser q k x) (λ x. Lesser p (f k) (f x))
            (λ x h. (r.rises x k h.0 right.0 h.1.0, same_outranks k x right.0 h.0 ∙ h.1.1)) (keys l) (all_both (λ x. member x is ≡ true) (Lesser q k) (keys l) left g.0))),
        subst (All (Greater p (f k))) (sym (renamed_keys f s))
            (all_mapped (Greater p (f k)) f (keys s)
            (all_map (λ x. (member x is ≡ true) × Greater q k x) (λ x. Greater p (f k) (f x))
            (λ x h. (r.rises k x right.0 h.0 h.1.0, same_outranks k x right.0 h.0 ∙ h.1.1)) (keys s) (all_both (λ x. member x is ≡ true) (Greater q k) (keys s) right.1 g.1))),
        renamed_good l left g.2,
        renamed_good s right.1 g.3,
      )

  pub renamed_rising : Rising (map f is)
  renamed_rising =
      pairwise_mapped ◌<◌ f is
      (pairwise_map (λ i. member i is ≡ true) ◌<◌ (λ i j. f i < f j) (λ i j m n h. r.rises i j m n h) is (all_of_members (λ i. member i is ≡ true) is (λ i m. m)) rising)

  pub renamed_treap : treap p (map f is) ≡ renamed f (treap q is)
  renamed_treap =
      let t = treap q is in
      let ks = treap_keys q is rising in
      ap (treap p) (sym (renamed_keys f t ∙ ap (map f) ks))
      ∙ treap_unique p (renamed f t) (renamed_good t (subst (All (λ i. member i is ≡ true)) (sym ks) (all_of_members (λ i. member i is ≡ true) is (λ i m. m))) (treap_good q is rising))

  -- ---- the columns
  root_of_renamed : (t : Tree) → root_key (renamed f t) ≡ f (root_key t)
  root_of_renamed leaf = sym r.nothing
  root_of_renamed (node l k s) = refl

  pub renamed_top : top p (map f is) ≡ f (top q is)
  renamed_top =
      sym (root_is_top p (map f is) renamed_rising) ∙ ap root_key renamed_treap ∙ root_of_renamed (treap q is) ∙ ap f (root_is_top q is rising)

  renamed_links : (side : Tree → Tree) → ((t : Tree) → side (renamed f t) ≡ renamed f (side t)) → flat (λ s. root_key (side s)) (treap p (map f is)) ≡ map f (flat (λ s. root_key (side s)) (treap q is))
  renamed_links side e =
      ap (flat (λ s. root_key (side s))) renamed_treap
      ∙ renamed_flat f (λ s. root_key (side s)) (treap q is)
      ∙ flat_same f (λ s. root_key (side (renamed f s))) (λ s. f (root_key (side s))) (treap q is) (λ s. ap root_key (e s) ∙ root_of_renamed (side s))
      ∙ sym (flat_map f (λ s. root_key (side s)) (treap q is))

  pub renamed_left : map (left_link p (map f is)) (map f is) ≡ map f (map (left_link q is) is)
  renamed_left = left_column_lem p (map f is) renamed_rising ∙ renamed_links left_of sides ∙ ap (map f) (sym (left_column_lem q is rising))
    where
      sides : (t : Tree) → left_of (renamed f t) ≡ renamed f (left_of t)
      sides leaf = refl
      sides (node l k s) = refl

  pub renamed_right : map (right_link p (map f is)) (map f is) ≡ map f (map (right_link q is) is)
  renamed_right = right_column_lem p (map f is) renamed_rising ∙ renamed_links right_of sides ∙ ap (map f) (sym (right_column_lem q is rising))
    where
      sides : (t : Tree) → right_of (renamed f t) ≡ renamed f (right_of t)
      sides leaf = refl
      sides (node l k s) = refl

  module _ (α : ℕ) (wide : 2 ≤ α) where
    renamed_numbers : (g : Standing → ℕ) (t : Tree) → flat_root (λ s. g (standing α s)) (λ s. g (root_standing α s)) (renamed f t) ≡ flat_root (λ s. g (standing α s)) (λ s. g (root_standing α s)) t
    renamed_numbers g leaf = refl
    renamed_numbers g (node l k s) =
        ap₂ (λ (xs ys : List ℕ). xs ++ g (root_standing α (renamed f (node l k s))) ∷ ys) (part l) (part s)
        ∙ ap (λ (a : Standing). flat (λ u. g (standing α u)) l ++ g a ∷ flat (λ u. g (standing α u)) s) (renamed_root f α (node l k s))
      where
        part : (t : Tree) → flat (λ u. g (standing α u)) (renamed f t) ≡ flat (λ u. g (standing α u)) t
        part t = renamed_flat f (λ u. g (standing α u)) t ∙ flat_same f (λ u. g (standing α (renamed f u))) (λ u. g (standing α u)) t (λ u. ap g (renamed_standing f α u))

    pub renamed_ranks : map (rank α p (map f is)) (map f is) ≡ map (rank α q is) is
    renamed_ranks =
        rank_column_lem p (map f is) renamed_rising α wide
        ∙ ap (flat_root (λ s. (standing α s).rank) (λ s. (root_standing α s).rank)) renamed_treap
        ∙ renamed_numbers (λ a. a.rank) (treap q is) ∙ sym (rank_column_lem q is rising α wide)

    pub renamed_counts : map (count α p (map f is)) (map f is) ≡ map (count α q is) is
    renamed_counts =
        count_column_lem p (map f is) renamed_rising α wide
        ∙ ap (flat_root (λ s. (standing α s).count) (λ s. (root_standing α s).count)) renamed_treap
        ∙ renamed_numbers (λ a. a.count) (treap q is) ∙ sym (count_column_lem q is rising α wide)

    pub renamed_leader : map (leader α p (map f is)) (map f is) ≡ map f (map (leader α q is) is)
    renamed_leader =
        leader_column_lem p (map f is) renamed_rising α wide
        ∙ ap (λ t. leaders_from α 0 (root_standing α t).rank t) renamed_treap
        ∙ ap₂ (λ (c m : ℕ). leaders_from α c m (renamed f (treap q is))) (sym r.nothing) (ap (λ (a : Standing). a.rank) (renamed_root f α (treap q is)))
        ∙ renamed_leaders f α 0 (root_standing α (treap q is)).rank (treap q is)
        ∙ ap (map f) (sym (leader_column_lem q is rising α wide))
