-- Laws of `member`, `first`, `last` and `largest`, on lists of numbers. Assumes nothing.
use mathlib.Core.Bool.{Bool, true, false, cond, ◌||◌, ◌&&◌, or_assoc}
use mathlib.Core.List.{List, [], ◌∷◌, ◌++◌, map}
use mathlib.Core.Logic.{◌⊎◌, ◌≢◌, inl, inr, ⊎_elim}
use mathlib.Core.Path.{◌≡◌, refl, sym, ap, ap₂, ◌∙◌, subst}
use Prim.Native.Nat.{ℕ, zero, suc, ◌≤◌, ◌<◌}
use native.Mathlib.Omega.{arith}
use lib.Dec.{eqb}
use lib.ListN.{length}
use borrow.Author.Tests.{eqb-true, eqb-false, eq-eqb, ne_eqb}
use Rattle.lists.specs.Lists.{cons_if, keep, some, All, member, first, last, largest, same}
use Rattle.lists.proofs.Tests.{by_test, true_or_false, or_true_cases, or_true_left, or_true_right, or_both_false, and_left, and_right, and_both, same_test}

pub eqb_same : (x : ℕ) → eqb x x ≡ true
eqb_same x = eq-eqb x x refl

-- ---- member and All
pub all_member : (P : ℕ → Type 0) (xs : List ℕ) (x : ℕ) → All P xs → member x xs ≡ true → P x
all_member P [] x h m = absurd (true_or_false false m refl)
all_member P (y ∷ ys) x h m =
    ⊎_elim (λ e. subst P (sym (eqb-true x y e)) h.0) (λ e. all_member P ys x h.1 e) (or_true_cases (eqb x y) (member x ys) m)

pub a_member : (xs : List ℕ) → 1 ≤ length xs → (x : ℕ) × (member x xs ≡ true)
a_member [] h = absurd (omega arith)
a_member (x ∷ xs) h = (x, or_true_left (eqb x x) (member x xs) (eqb_same x))

-- a list that has a member is not empty
pub some-member : (x : ℕ) (xs : List ℕ) → member x xs ≡ true → 0 < length xs
some-member x [] m = absurd (true_or_false false m refl)
some-member x (y ∷ ys) m = omega arith

pub all_of_members : (P : ℕ → Type 0) (xs : List ℕ) → ((x : ℕ) → member x xs ≡ true → P x) → All P xs
all_of_members P [] f = tt
all_of_members P (y ∷ ys) f =
    (f y (or_true_left (eqb y y) (member y ys) (eqb_same y)), all_of_members P ys (λ x m. f x (or_true_right (eqb x y) (member x ys) m)))

pub member-append : (x : ℕ) (xs ys : List ℕ) → member x (xs ++ ys) ≡ (member x xs || member x ys)
member-append x [] ys = refl
member-append x (y ∷ xs) ys = ap (λ b. eqb x y || b) (member-append x xs ys) ∙ sym (or_assoc (eqb x y) (member x xs) (member x ys))

-- no element is x where each differs from it
pub not-member : (x : ℕ) (xs : List ℕ) → All (λ y. x ≢ y) xs → member x xs ≡ false
not-member x [] h = refl
not-member x (y ∷ ys) h = or_both_false (eqb x y) (member x ys) (ne_eqb x y h.0) (not-member x ys h.1)

pub no_member : (x : ℕ) (xs : List ℕ) → length xs ≡ 0 → member x xs ≡ false
no_member x [] h = refl
no_member x (y ∷ ys) h = absurd (omega arith)

member-cons_if : (x y : ℕ) (b : Bool) (ys : List ℕ) → member x (cons_if b y ys) ≡ ((b && eqb x y) || member x ys)
member-cons_if x y true ys = refl
member-cons_if x y false ys = refl

or-and : (a b c : Bool) → ((a && b) || (a && c)) ≡ (a && (b || c))
or-and true b c = refl
or-and false b c = refl

-- the test of an element that is x is the test of x
test_same : (f : ℕ → Bool) (x y : ℕ) → (f y && eqb x y) ≡ (f x && eqb x y)
test_same f x y =
    same_test (f y && eqb x y) (f x && eqb x y)
    (λ h. let e = and_right (f y) (eqb x y) h in and_both (f x) (eqb x y) (ap f (eqb-true x y e) ∙ and_left (f y) (eqb x y) h) e)
    (λ h. let e = and_right (f x) (eqb x y) h in and_both (f y) (eqb x y) (ap f (sym (eqb-true x y e)) ∙ and_left (f x) (eqb x y) h) e)

pub member-keep : (f : ℕ → Bool) (x : ℕ) (xs : List ℕ) → member x (keep f xs) ≡ (f x && member x xs)
member-keep f x [] = sym (and_false (f x))
  where
    and_false : (b : Bool) → (b && false) ≡ false
    and_false true = refl
    and_false false = refl
member-keep f x (y ∷ ys) =
    member-cons_if x y (f y) (keep f ys)
    ∙ ap₂ (λ a b. a || b) (test_same f x y) (member-keep f x ys)
    ∙ or-and (f x) (eqb x y) (member x ys)

-- ---- some, and members of a map
pub some_same : (f g : ℕ → Bool) (xs : List ℕ) → All (λ x. f x ≡ g x) xs → some f xs ≡ some g xs
some_same f g [] h = refl
some_same f g (x ∷ xs) h = ap₂ (λ a b. a || b) h.0 (some_same f g xs h.1)

pub some_when : (f : ℕ → Bool) (xs : List ℕ) (y : ℕ) → member y xs ≡ true → f y ≡ true → some f xs ≡ true
some_when f [] y m e = absurd (true_or_false false m refl)
some_when f (x ∷ xs) y m e =
    ⊎_elim (λ q. or_true_left (f x) (some f xs) (ap f (sym (eqb-true y x q)) ∙ e)) (λ q. or_true_right (f x) (some f xs) (some_when f xs y q e)) (or_true_cases (eqb y x) (member y xs) m)

pub some_says : (f : ℕ → Bool) (xs : List ℕ) → some f xs ≡ true → (y : ℕ) × (member y xs ≡ true) × (f y ≡ true)
some_says f [] e = absurd (true_or_false false e refl)
some_says f (x ∷ xs) e =
    ⊎_elim (λ q. (x, or_true_left (eqb x x) (member x xs) (eqb_same x), q))
    (λ q. let (y, m, t) = some_says f xs q in (y, or_true_right (eqb y x) (member y xs) m, t))
    (or_true_cases (f x) (some f xs) e)

pub member-map : (g : ℕ → ℕ) (xs : List ℕ) (y : ℕ) → member y xs ≡ true → member (g y) (map g xs) ≡ true
member-map g [] y m = m
member-map g (x ∷ xs) y m =
    ⊎_elim (λ q. or_true_left (eqb (g y) (g x)) (member (g y) (map g xs)) (eq-eqb (g y) (g x) (ap g (eqb-true y x q))))
    (λ q. or_true_right (eqb (g y) (g x)) (member (g y) (map g xs)) (member-map g xs y q)) (or_true_cases (eqb y x) (member y xs) m)

pub mapped_from : (g : ℕ → ℕ) (xs : List ℕ) (n : ℕ) → member n (map g xs) ≡ true → (y : ℕ) × (member y xs ≡ true) × (n ≡ g y)
mapped_from g [] n m = absurd (true_or_false false m refl)
mapped_from g (x ∷ xs) n m =
    ⊎_elim (λ q. (x, or_true_left (eqb x x) (member x xs) (eqb_same x), eqb-true n (g x) q))
    (λ q. let (y, i, e) = mapped_from g xs n q in (y, or_true_right (eqb y x) (member y xs) i, e))
    (or_true_cases (eqb n (g x)) (member n (map g xs)) m)

-- ---- first: what it finds, where one element passes, and that it finds none where none does
pub first_at : (d : ℕ) (f : ℕ → Bool) (xs : List ℕ) (y : ℕ) (ys : List ℕ) → All (λ x. f x ≡ false) xs → f y ≡ true → first d f (xs ++ y ∷ ys) ≡ y
first_at d f [] y ys h e = rw e
first_at d f (x ∷ xs) y ys h e = rw h.0 (first_at d f xs y ys h.1 e)

pub first_none : (d : ℕ) (f : ℕ → Bool) (xs : List ℕ) → All (λ x. f x ≡ false) xs → first d f xs ≡ d
first_none d f [] h = refl
first_none d f (x ∷ xs) h = rw h.0 (first_none d f xs h.1)

first_here : (d : ℕ) (f : ℕ → Bool) (x : ℕ) (xs : List ℕ) → f x ≡ true → first d f (x ∷ xs) ≡ x
first_here d f x xs t = rw t refl

first_later : (d : ℕ) (f : ℕ → Bool) (x : ℕ) (xs : List ℕ) → f x ≡ false → first d f (x ∷ xs) ≡ first d f xs
first_later d f x xs t = rw t refl

pub first_passes : (d : ℕ) (f : ℕ → Bool) (xs : List ℕ) (y : ℕ) → member y xs ≡ true → f y ≡ true
    → (f (first d f xs) ≡ true) × (member (first d f xs) xs ≡ true)
first_passes d f [] y m e = absurd (true_or_false false m refl)
first_passes d f (x ∷ xs) y m e =
    by_test (f x)
    (λ t. subst (λ (z : ℕ). (f z ≡ true) × (member z (x ∷ xs) ≡ true)) (sym (first_here d f x xs t)) (t, or_true_left (eqb x x) (member x xs) (eqb_same x)))
    (λ t.
    let later : member y xs ≡ true =
    ⊎_elim (λ (q : eqb y x ≡ true). absurd (true_or_false (f y) e (ap f (eqb-true y x q) ∙ t))) (λ q. q) (or_true_cases (eqb y x) (member y xs) m)
    in
    let found = first_passes d f xs y later e in
    subst (λ (z : ℕ). (f z ≡ true) × (member z (x ∷ xs) ≡ true)) (sym (first_later d f x xs t)) (found.0, or_true_right (eqb (first d f xs) x) (member (first d f xs) xs) found.1))

-- what is found, where something is
pub first_found : (d : ℕ) (f : ℕ → Bool) (P : ℕ → Type 0) (xs : List ℕ) → All P xs → first d f xs ≢ d
    → (f (first d f xs) ≡ true) × P (first d f xs)
first_found d f P [] h found = absurd (found refl)
first_found d f P (x ∷ xs) h found =
    by_test (f x) (λ t. rw t (t, h.0))
    (λ t. rw t (first_found d f P xs h.1 (λ e. found (ap (λ b. cond b x (first d f xs)) t ∙ e))))

-- ---- last
pub last_snoc : (xs : List ℕ) (y : ℕ) → last (xs ++ (y ∷ [])) ≡ y
last_snoc [] y = refl
last_snoc (x ∷ []) y = refl
last_snoc (x ∷ z ∷ zs) y = last_snoc (z ∷ zs) y

pub last-member : (xs : List ℕ) (x : ℕ) → member (last (x ∷ xs)) (x ∷ xs) ≡ true
last-member [] x = or_true_left (eqb x x) false (eqb_same x)
last-member (y ∷ ys) x = or_true_right (eqb (last (y ∷ ys)) x) (member (last (y ∷ ys)) (y ∷ ys)) (last-member ys y)

-- ---- largest: a test that passes exactly up to r, with r within the bound, has r as its largest
pub largest_is : (f : ℕ → Bool) (bound r : ℕ) → ((i : ℕ) → i ≤ r → f i ≡ true) → ((i : ℕ) → r < i → f i ≡ false) → r ≤ bound → largest f bound ≡ r
largest_is f zero r up down h = omega arith
largest_is f (suc n) r up down h =
    by_test (f (suc n))
    (λ e. rw e (⊎_elim (λ (l : r < suc n). absurd (true_or_false (f (suc n)) e (down (suc n) l))) (λ (q : suc n ≡ r). q) (split r (suc n) h)))
    (λ e.
    let l : r ≤ n = ⊎_elim (λ (k : r < suc n). omega arith) (λ (q : suc n ≡ r). absurd (true_or_false (f (suc n)) (up (suc n) (omega arith)) e)) (split r (suc n) h) in
    rw e (largest_is f n r up down l))
  where
    split : (a b : ℕ) → a ≤ b → (a < b) ⊎ (b ≡ a)
    split a b k = by_test (eqb b a) (λ e. inr (eqb-true b a e)) (λ e. let d : b ≢ a = eqb-false b a e in inl (omega arith))

-- ---- same: the test of equality
pub same_says : (xs ys : List ℕ) → same xs ys ≡ true → xs ≡ ys
same_says [] [] h = refl
same_says [] (y ∷ ys) h = absurd (true_or_false false h refl)
same_says (x ∷ xs) [] h = absurd (true_or_false false h refl)
same_says (x ∷ xs) (y ∷ ys) h =
    ap₂ (λ (z : ℕ) (zs : List ℕ). z ∷ zs) (eqb-true x y (and_left (eqb x y) (same xs ys) h)) (same_says xs ys (and_right (eqb x y) (same xs ys) h))

same_self : (xs : List ℕ) → same xs xs ≡ true
same_self [] = refl
same_self (x ∷ xs) = and_both (eqb x x) (same xs xs) (eqb_same x) (same_self xs)

pub same_when : (xs ys : List ℕ) → xs ≡ ys → same xs ys ≡ true
same_when xs ys e = ap (same xs) (sym e) ∙ same_self xs

pub same_differs : (xs ys : List ℕ) → (xs ≡ ys → ⊥) → same xs ys ≡ false
same_differs xs ys d = by_test (same xs ys) (λ h. absurd (d (same_says xs ys h))) (λ h. h)
