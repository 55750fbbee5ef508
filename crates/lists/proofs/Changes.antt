-- Changes of level along a list whose levels never rise, counted where the element passes a test: the different levels of those that pass, and
-- how many there can be. Assumes nothing.
use mathlib.Core.Bool.{Bool, true, false, cond, not, ◌&&◌}
use mathlib.Core.List.{List, [], ◌∷◌, map}
use mathlib.Core.Logic.{◌⊎◌, ◌≢◌, ⊎_elim}
use mathlib.Core.Path.{◌≡◌, refl, sym, ap, ◌∙◌, subst}
use Prim.Native.Nat.{ℕ, suc, ◌+◌, ◌<◌, ◌≤◌}
use native.Mathlib.Omega.{arith}
use lib.Dec.{eqb}
use lib.ListN.{length}
use borrow.Author.Tests.{eqb-true, eqb-false, eq-eqb}
use Rattle.lists.specs.Lists.{cons_if, keep, member, distinct, All, Pairwise}
use Rattle.lists.proofs.Tests.{by_test, true_or_false, and_left, and_right, and_false_right}
use Rattle.lists.proofs.Keep.{all_map, all_keep, all_mapped}
use Rattle.lists.proofs.Membership.{eqb_same, all_member, all_of_members, not-member, member-keep, mapped_from}

-- `more` is one above `met` where the test passes, else the same.
abbrev pub Counted : Bool → ℕ → ℕ → Type 0
Counted test met more = ((test ≡ true) × (more ≡ met + 1)) ⊎ ((test ≡ false) × (more ≡ met))

pub counted_most : (test : Bool) (met more : ℕ) → Counted test met more → more ≤ met + 1
counted_most test met more h = ⊎_elim (λ w. omega (arith, w.1)) (λ w. omega (arith, w.1)) h

-- a list that never rises, of numbers from `low` on and below `high`, has at most so many different ones
pub distinct_few : (low high : ℕ) (xs : List ℕ) → low ≤ high → All (λ x. (low ≤ x) × (x < high)) xs → Pairwise (λ x y. y ≤ x) xs → length (distinct xs) + low ≤ high
distinct_few low high [] h a s = omega arith
distinct_few low high (x ∷ xs) h a s =
    by_test (member x xs)
    (λ e. rw e (distinct_few low high xs h a.1 s.1))
    (λ e. let bounds = a.0 in rw e (omega (arith, distinct_few low x xs (omega arith) (lower e) s.1)))
  where
    lower : member x xs ≡ false → All (λ y. (low ≤ y) × (y < x)) xs
    lower e =
        all_of_members (λ y. (low ≤ y) × (y < x)) xs
        (λ y m.
        let bounds = all_member (λ z. (low ≤ z) × (z < high)) xs y a.1 m in
        let falls = all_member (λ z. z ≤ x) xs y s.0 m in
        let apart : y ≢ x = λ q. true_or_false (member x xs) (subst (λ (z : ℕ). member z xs ≡ true) q m) e in
        (omega arith, omega arith))

module _ (level : ℕ → ℕ) (f : ℕ → Bool) where
  -- An element of another level than the one before that passes the test.
  abbrev pub new : ℕ → ℕ → Bool
  new last x = not (eqb (level x) last) && f x

  -- How many there are, where the level before the first is `last`.
  abbrev pub changes : ℕ → List ℕ → ℕ
  changes last [] = 0
  changes last (x ∷ xs) = cond (new last x) (suc (changes (level x) xs)) (changes (level x) xs)

  -- what is counted at one element is no longer ahead
  pub counted_on : (last x met more : ℕ) (xs : List ℕ) → Counted (new last x) met more → more + changes (level x) xs ≡ met + changes last (x ∷ xs)
  counted_on last x met more xs h =
      ⊎_elim
      (λ w. let e = ap (λ b. cond b (suc (changes (level x) xs)) (changes (level x) xs)) w.0 in omega (arith, w.1))
      (λ w. let e = ap (λ b. cond b (suc (changes (level x) xs)) (changes (level x) xs)) w.0 in omega (arith, w.1)) h

  -- an element of the level before counts for nothing
  pub changes_same : (last x : ℕ) (xs : List ℕ) → level x ≡ last → changes last (x ∷ xs) ≡ changes (level x) xs
  changes_same last x xs e = rw (sym e, eqb_same (level x))

  -- Elements of one level pass together.
  abbrev pub Alike : ℕ → ℕ → Type 0
  Alike x y = level x ≡ level y → f x ≡ f y

  -- No level is higher than one before it.
  abbrev pub Falling : ℕ → ℕ → Type 0
  Falling x y = level y ≤ level x

  -- ---- the different levels of those that pass
  abbrev levels : List ℕ → List ℕ
  levels xs = map level (keep f xs)

  abbrev one : Bool → ℕ
  one b = cond b 1 0

  distinct_one : (x : ℕ) (xs : List ℕ) → length (distinct (x ∷ xs)) + one (member x xs) ≡ suc (length (distinct xs))
  distinct_one x xs = by_test (member x xs) (λ e. rw e (omega arith)) (λ e. rw e (omega arith))

  low_levels : (last : ℕ) (xs : List ℕ) → All (λ y. level y < last) xs → member last (levels xs) ≡ false
  low_levels last xs h =
      not-member last (levels xs)
      (all_mapped (λ n. last ≢ n) level (keep f xs) (all_map (λ y. level y < last) (λ y. last ≢ level y) (λ y (l : level y < last) q. omega arith) (keep f xs) (all_keep (λ y. level y < last) f xs h)))

  none_pass : (x : ℕ) (xs : List ℕ) → f x ≡ false → All (Alike x) xs → member (level x) (levels xs) ≡ false
  none_pass x xs e h =
      by_test (member (level x) (levels xs))
      (λ m.
      let (y, i, l) = mapped_from level (keep f xs) (level x) m in
      let both = sym (member-keep f y xs) ∙ i in
      absurd (true_or_false (f x) (all_member (Alike x) xs y h (and_right (f y) (member y xs) both) l ∙ and_left (f y) (member y xs) both) e))
      (λ m. m)

  counted_levels : (last : ℕ) (xs : List ℕ) → All (λ y. level y ≤ last) xs → Pairwise Falling xs → Pairwise Alike xs
      → length (distinct (levels xs)) ≡ changes last xs + one (member last (levels xs))
  counted_levels last [] h falls alike = refl
  counted_levels last (x ∷ xs) h falls alike =
      let later = counted_levels (level x) xs falls.0 falls.1 alike.1 in
      by_test (f x)
      (λ p.
      let all : length (distinct (levels (x ∷ xs))) ≡ suc (changes (level x) xs) =
      ap (λ b. length (distinct (map level (cons_if b x (keep f xs))))) p ∙ omega (arith, distinct_one (level x) (levels xs))
      in
      by_test (eqb (level x) last)
      (λ e.
      let here : one (member last (levels (x ∷ xs))) ≡ 1 = rw (p, eq-eqb last (level x) (sym (eqb-true (level x) last e))) refl in
      let ahead : changes last (x ∷ xs) ≡ changes (level x) xs = rw e refl in
      omega arith)
      (λ e.
      let here : one (member last (levels (x ∷ xs))) ≡ 0 = ap one (beyond e) in
      let ahead : changes last (x ∷ xs) ≡ suc (changes (level x) xs) = rw (e, p) refl in
      omega arith))
      (λ p.
      let all : length (distinct (levels (x ∷ xs))) ≡ length (distinct (levels xs)) = ap (λ b. length (distinct (map level (cons_if b x (keep f xs))))) p in
      let ahead : changes last (x ∷ xs) ≡ changes (level x) xs = rw p (ap (λ b. cond b (suc (changes (level x) xs)) (changes (level x) xs)) (and_false_right (not (eqb (level x) last)) false refl)) in
      by_test (eqb (level x) last)
      (λ e.
      let here : one (member last (levels (x ∷ xs))) ≡ one (member (level x) (levels xs)) =
      rw p (ap (λ (n : ℕ). one (member n (levels xs))) (sym (eqb-true (level x) last e)))
      in
      omega arith)
      (λ e.
      let here : one (member last (levels (x ∷ xs))) ≡ 0 = ap one (beyond e) in
      let none : one (member (level x) (levels xs)) ≡ 0 = ap one (none_pass x xs p alike.0) in
      omega arith))
    where
      -- where the level is another, none is as high as `last`
      beyond : eqb (level x) last ≡ false → member last (levels (x ∷ xs)) ≡ false
      beyond e =
          let d : level x ≢ last = eqb-false (level x) last e in
          let l : level x < last = omega (arith, h.0) in
          low_levels last (x ∷ xs) (l, all_map (λ y. level y ≤ level x) (λ y. level y < last) (λ y (k : level y ≤ level x). omega arith) xs falls.0)

  -- the elements that pass have as many different levels as there are changes among them, with the first element's
  pub changes_count : (x : ℕ) (xs : List ℕ) → Pairwise Falling (x ∷ xs) → Pairwise Alike (x ∷ xs)
      → length (distinct (map level (keep f (x ∷ xs)))) ≡ cond (f x) 1 0 + changes (level x) xs
  changes_count x xs falls alike =
      let all = counted_levels (level x) (x ∷ xs) (omega arith, falls.0) falls alike in
      let ahead = changes_same (level x) x xs refl in
      by_test (f x)
      (λ p.
      let here : one (member (level x) (levels (x ∷ xs))) ≡ 1 = rw (p, eqb_same (level x)) refl in
      let first : one (f x) ≡ 1 = ap one p in
      omega arith)
      (λ p.
      let here : one (member (level x) (levels (x ∷ xs))) ≡ 0 = rw p (ap one (none_pass x xs p alike.0)) in
      let first : one (f x) ≡ 0 = ap one p in
      omega arith)
