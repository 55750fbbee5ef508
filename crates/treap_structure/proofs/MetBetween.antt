-- Blocks that searches for rising keys meet: every search meets the root block, and of searches that meet another block, all between them do
-- but the one for its leader. Assumes an order of at least 2, and rising keys none of which is zero.
use mathlib.Core.Bool.{true, not, ◌&&◌, ◌||◌}
use mathlib.Core.List.{List}
use mathlib.Core.Logic.{◌≢◌}
use mathlib.Core.Path.{◌≡◌, sym, ap, ◌∙◌}
use Prim.Native.Nat.{ℕ, ◌<◌, ◌≤◌}
use native.Mathlib.Omega.{arith}
use lib.Dec.{eqb}
use borrow.Author.Tests.{eqb-true, eqb-false, eq-eqb, ne_eqb, lt-ltb, le-ltb}
use Rattle.lists.specs.Lists.{member, All, Rising}
use Rattle.lists.proofs.Tests.{Compared, compared, by_test, or_true_left, or_true_right, and_both, and_left, and_right}
use Rattle.lists.proofs.Tests.Compared.{less, same, more}
use Rattle.lists.proofs.Membership.{eqb_same, all_member, some_when, some_says}
use Rattle.treap.specs.Treap.{Tree, root_key, path, treap}
use Rattle.treap.specs.Blocks.{Block, root_rank, root_block, block, meets}
use Rattle.treap_structure.proofs.Shape.{treap_good}
use Rattle.treap_structure.proofs.Ancestors.{root_key_lem}
use Rattle.treap_structure.proofs.Blocks.{top_is_root, block_level, held_by_root, Formed, at_root, below, level_of_root}
use Rattle.treap_structure.proofs.Leaders.{treap_member}
use Rattle.treap_structure.proofs.Descent.{path_begins}
use Rattle.treap_structure.proofs.PathsThrough.{in_path, path_between}
use Rattle.treap_structure.proofs.Children.{child, same_child}
use Rattle.treap_structure.proofs.Entrances.{of_level, enters, met_led, goes_in, comes_in}

module _ (α : ℕ) (p : ℕ → ℕ) (wide : 2 ≤ α) (ks : List ℕ) (rising : Rising ks) (positive : All (λ k. 1 ≤ k) ks) where
  abbrev t : Tree
  t = treap p ks

  -- ---- the root block
  pub root_met : (q x : ℕ) → member x ks ≡ true → meets α p ks q (root_block α p ks) ≡ true
  unfolding meets
  root_met q x m =
      let k = root_key_lem α p wide ks rising x m in
      let some : root_key t ≢ 0 = λ e. let h = all_member (λ k. 1 ≤ k) ks (root_key t) positive k in omega arith in
      let (xs, e) = path_begins t q some in
      some_when (λ y. member y (root_block α p ks).held) (path q t) (root_key t)
      (ap (member (root_key t)) e ∙ or_true_left (eqb (root_key t) (root_key t)) (member (root_key t) xs) (eqb_same (root_key t)))
      (held_by_root α p ks (root_key t) k ∙ eq-eqb (block_level α p ks (root_key t)) (root_rank α p ks) (level_of_root α p ks wide rising (root_key t) (sym (top_is_root p ks rising x m))))

  -- a block that is met is one of some key's
  some_key : (q : ℕ) (b : Block) → meets α p ks q b ≡ true → (x : ℕ) × (member x ks ≡ true)
  unfolding meets
  some_key q b e = let (y, on, held) = some_says (λ x. member x b.held) (path q t) e in (y, treap_member α p wide ks rising y (in_path p q y t on))

  -- ---- other blocks
  module _ (v : ℕ) (m : member v ks ≡ true) where
    module _ (i : ℕ) (low : i < root_rank α p ks) where
      abbrev b : Block
      b = block α p ks i v

      pub met_beside : (lo q hi : ℕ) → lo < q → q < hi → q ≢ v → meets α p ks lo b ≡ true → meets α p ks hi b ≡ true → meets α p ks q b ≡ true
      unfolding enters
      met_beside lo q hi h j d n o =
          let first = comes_in α p wide ks rising positive v m i low lo n in
          let second = comes_in α p wide ks rising positive v m i low hi o in
          let by = path_between p t v lo q hi (treap_good p ks rising) (omega arith) (omega arith) (and_left (member v (path lo t)) _ first) (and_left (member v (path hi t)) _ second) in
          goes_in α p wide ks rising positive v m i low q (met_led α p wide ks rising positive v m i low lo n)
          (and_both (member v (path q t)) _ by (and_both (not (eqb q v)) _ (ap not (ne_eqb q v d)) (level (compared q v) (and_right (member v (path lo t)) _ first) (and_right (member v (path hi t)) _ second))))
        where
          Goes : ℕ → Type 0
          Goes z = of_level α p ks i (child p ks v z) ≡ true

          level : Compared q v → (not (eqb lo v) && of_level α p ks i (child p ks v lo)) ≡ true → (not (eqb hi v) && of_level α p ks i (child p ks v hi)) ≡ true → Goes q
          level (less _ f _ c) first second =
              ap (of_level α p ks i) (same_child α p wide ks rising positive v m q lo (f ∙ sym (lt-ltb lo v (omega arith)))) ∙ and_right (not (eqb lo v)) (of_level α p ks i (child p ks v lo)) first
          level (same _ _ _ c) first second = absurd (d c)
          level (more _ f _ c) first second =
              ap (of_level α p ks i) (same_child α p wide ks rising positive v m q hi (f ∙ sym (le-ltb hi v (omega arith)))) ∙ and_right (not (eqb hi v)) (of_level α p ks i (child p ks v hi)) second

  -- ---- any block: of four searches for rising keys, where the first and the last meet it, one of the two between does
  pub met_by_two : (b : Block) → Formed α p ks b → (lo one two hi : ℕ) → lo < one → one < two → two < hi → meets α p ks lo b ≡ true → meets α p ks hi b ≡ true
      → (meets α p ks two b || meets α p ks one b) ≡ true
  met_by_two _ at_root lo one two hi h j k n o =
      let (x, m) = some_key lo (root_block α p ks) n in
      or_true_left (meets α p ks two (root_block α p ks)) (meets α p ks one (root_block α p ks)) (root_met two x m)
  met_by_two _ (below i v _ low m _) lo one two hi h j k n o =
      by_test (eqb two v)
      (λ e.
      let d : one ≢ v = λ z. let y = eqb-true two v e in omega arith in
      or_true_right (meets α p ks two (block α p ks i v)) (meets α p ks one (block α p ks i v)) (met_beside v m i low lo one hi h (omega arith) d n o))
      (λ e. or_true_left (meets α p ks two (block α p ks i v)) (meets α p ks one (block α p ks i v)) (met_beside v m i low lo two hi (omega arith) k (eqb-false two v e) n o))
