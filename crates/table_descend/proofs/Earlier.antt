-- Which of the blocks on the way down to a key earlier lookups met: what the last two lookups' keys tell of the block that the way enters next.
-- Assumes valid contents.
use mathlib.Core.Bool.{Bool, true, false, cond, not, ◌&&◌, ◌||◌, or-false}
use mathlib.Core.List.{List, [], ◌∷◌}
use mathlib.Core.Logic.{◌≢◌, ⊎_elim}
use mathlib.Core.Path.{◌≡◌, refl, sym, ap, ◌∙◌, subst}
use Prim.Native.Nat.{ℕ, pred, ◌<◌, ◌≤◌}
use native.Mathlib.Omega.{arith}
use lib.Dec.{eqb, ltb}
use borrow.Author.Tests.{eqb-true, eqb-false, eq-eqb, ne_eqb, ltb-true, lt-ltb, le-ltb}
use Rattle.lists.specs.Lists.{nonzero, keep, some, member, All, Rising}
use Rattle.lists.proofs.Tests.{Compared, compared, by_test, true_or_false, same_test, or_true_cases, or_true_left, and_both, and_left, and_right, nonzero_when, zero_fails}
use Rattle.lists.proofs.Tests.Compared.{less, same, more}
use Rattle.lists.proofs.Keep.{all_always}
use Rattle.lists.proofs.Membership.{some_same}
use Rattle.treap.specs.Treap.{path, treap}
use Rattle.treap.specs.Levels.{rank}
use Rattle.treap.specs.Blocks.{root_rank, block, meets}
use Rattle.treap_structure.proofs.Blocks.{block_level, block_of}
use Rattle.treap_structure.proofs.Children.{child, same_child}
use Rattle.treap_structure.proofs.Entrances.{of_level, enters, Entered, entered, meets_enters}
use Rattle.table_descend.specs.Lookup.{earlier}
use Rattle.table_descend.specs.Entering.{other_than}

-- ---- the last two keys
module _ (f : ℕ → Bool) (last before : ℕ) where
  pub none_earlier : last ≡ 0 → before ≡ 0 → some f (earlier last before) ≡ false
  unfolding earlier
  none_earlier e g = rw (zero_fails last e, zero_fails before g) refl

  pub one_earlier : 1 ≤ last → before ≡ 0 → some f (earlier last before) ≡ (f last || false)
  unfolding earlier
  one_earlier h g = rw (nonzero_when last h, zero_fails before g) refl

  pub two_earlier : 1 ≤ last → 1 ≤ before → some f (earlier last before) ≡ (f last || (f before || false))
  unfolding earlier
  two_earlier h g = rw (nonzero_when last h, nonzero_when before g) refl

  pub last_earlier : 1 ≤ last → f last ≡ true → some f (earlier last before) ≡ true
  unfolding earlier
  last_earlier h e = rw (nonzero_when last h) (or_true_left (f last) (some f (keep nonzero (before ∷ []))) e)

module _ (α : ℕ) (p : ℕ → ℕ) (wide : 2 ≤ α) (ks : List ℕ) (rising : Rising ks) (positive : All (λ k. 1 ≤ k) ks) where
  -- ---- from `at` the way to a key goes on to a key of this level
  module _ (at : ℕ) (held : member at ks ≡ true) (i key last before low : ℕ) (onto : of_level α p ks i (child p ks at key) ≡ true)
      (first : before ≤ pred last) (second : last ≤ pred key)
      (along : (q : ℕ) → 1 ≤ q → q ≤ pred key → member at (path q (treap p ks)) ≡ ltb low q) where
    abbrev goes : ℕ → Bool
    goes q = of_level α p ks i (child p ks at q)

    -- an earlier search that is not for `at` itself enters the block where it comes by and goes on to that level
    enters_is : (q : ℕ) → 1 ≤ q → q ≤ pred key → q ≢ at → enters α p ks i at q ≡ (ltb low q && goes q)
    unfolding enters
    enters_is q h k d = rw (along q h k, ne_eqb q at d) refl

    enters_not : (q : ℕ) → q ≡ at → enters α p ks i at q ≡ false
    unfolding enters
    enters_not q e = ap (λ b. member at (path q (treap p ks)) && (not b && goes q)) (eq-eqb q at e) ∙ by_test (member at (path q (treap p ks))) (λ f. rw f refl) (λ f. rw f refl)

    -- where the one before the last enters it, the last one does too
    later_too : 1 ≤ before → last ≢ at → (ltb low before && goes before) ≡ true → (ltb low last && goes last) ≡ true
    later_too h d e =
        let l = ltb-true low before (and_left (ltb low before) (goes before) e) in
        and_both (ltb low last) (goes last) (lt-ltb low last (omega arith)) (side (compared last at))
      where
        side : Compared last at → goes last ≡ true
        side (less _ f _ c) =
            ap (of_level α p ks i) (same_child α p wide ks rising positive at held last before (f ∙ sym (lt-ltb before at (omega arith)))) ∙ and_right (ltb low before) (goes before) e
        side (same _ _ _ c) = absurd (d c)
        side (more _ f _ c) = ap (of_level α p ks i) (same_child α p wide ks rising positive at held last key (f ∙ sym (le-ltb key at (omega arith)))) ∙ onto

    -- so the last of the two that is not `at` tells whether an earlier search entered it
    pub earlier_tell : some (enters α p ks i at) (earlier last before) ≡ (ltb low (other_than at last before) && goes (other_than at last before))
    unfolding other_than
    earlier_tell =
        by_test (eqb last 0)
        (λ e.
        let none : last ≡ 0 = eqb-true last 0 e in
        none_earlier (enters α p ks i at) last before none (omega arith)
        ∙ sym (never (cond (eqb last at) before last) (by_test (eqb last at) (λ f. rw f (omega arith)) (λ f. rw f none))))
        (λ e.
        let d : last ≢ 0 = eqb-false last 0 e in
        let here : 1 ≤ last = omega arith in
        by_test (eqb last at)
        (λ f. rw f (when_at here (eqb-true last at f)))
        (λ f. rw f (when_other here (eqb-false last at f))))
      where
        never : (q : ℕ) → q ≡ 0 → (ltb low q && goes q) ≡ false
        never q e = ap (λ b. b && goes q) (le-ltb low q (omega arith))

        -- the last is for `at` itself, and enters nothing below it
        when_at : 1 ≤ last → last ≡ at → some (enters α p ks i at) (earlier last before) ≡ (ltb low before && goes before)
        when_at here e =
            by_test (eqb before 0)
            (λ z.
            let none = eqb-true before 0 z in
            one_earlier (enters α p ks i at) last before here none ∙ ap (λ b. b || false) (enters_not last e) ∙ sym (never before none))
            (λ z.
            let d : before ≢ 0 = eqb-false before 0 z in
            two_earlier (enters α p ks i at) last before here (omega arith)
            ∙ ap (λ b. b || (enters α p ks i at before || false)) (enters_not last e)
            ∙ or-false (enters α p ks i at before)
            ∙ enters_is before (omega arith) (omega arith) (λ q. omega arith))

        when_other : 1 ≤ last → last ≢ at → some (enters α p ks i at) (earlier last before) ≡ (ltb low last && goes last)
        when_other here d =
            by_test (eqb before 0)
            (λ z. one_earlier (enters α p ks i at) last before here (eqb-true before 0 z) ∙ or-false (enters α p ks i at last) ∙ enters_is last here second d)
            (λ z.
            let c : before ≢ 0 = eqb-false before 0 z in
            two_earlier (enters α p ks i at) last before here (omega arith)
            ∙ ap (λ b. b || (enters α p ks i at before || false)) (enters_is last here second d)
            ∙ same_test ((ltb low last && goes last) || (enters α p ks i at before || false)) (ltb low last && goes last)
            (λ e. ⊎_elim (λ y. y) (λ y. too (sym (or-false (enters α p ks i at before)) ∙ y) (omega arith)) (or_true_cases (ltb low last && goes last) (enters α p ks i at before || false) e))
            (λ e. or_true_left (ltb low last && goes last) (enters α p ks i at before || false) e))
          where
            too : enters α p ks i at before ≡ true → 1 ≤ before → (ltb low last && goes last) ≡ true
            too y h =
                by_test (eqb before at)
                (λ z. absurd (true_or_false (enters α p ks i at before) y (enters_not before (eqb-true before at z))))
                (λ z. later_too h d (sym (enters_is before h (omega arith) (eqb-false before at z)) ∙ y))

    -- ---- the block that the way enters there, where its level is another
    module _ (some_child : child p ks at key ≢ 0) (level_is : i ≡ block_level α p ks (child p ks at key)) (other : i ≢ block_level α p ks at) where
      into : Entered α p wide ks rising positive at held key some_child (λ e. other (level_is ∙ e))
      into = entered α p wide ks rising positive at held key some_child (λ e. other (level_is ∙ e))

      -- whether an earlier lookup met it
      pub met_before : some (λ k. meets α p ks k (block_of α p ks (child p ks at key))) (earlier last before) ≡ (ltb low (other_than at last before) && goes (other_than at last before))
      met_before =
          some_same (λ k. meets α p ks k (block_of α p ks (child p ks at key))) (enters α p ks i at) (earlier last before)
          (all_always (λ k. meets α p ks k (block_of α p ks (child p ks at key)) ≡ enters α p ks i at k) each (earlier last before))
          ∙ earlier_tell
        where
          each : (k : ℕ) → meets α p ks k (block_of α p ks (child p ks at key)) ≡ enters α p ks i at k
          each k =
              let here = into.block_is ∙ ap (λ (j : ℕ). block α p ks j at) (sym level_is) in
              let low = into.below_root in
              let most = into.led_by in
              ap (meets α p ks k) here
              ∙ meets_enters α p wide ks rising positive at held i (subst (λ (j : ℕ). j < root_rank α p ks) (sym level_is) low) k (subst (λ (j : ℕ). j ≤ rank α p ks at) (sym level_is) most)
