-- Rising lists: the parts below and above an element, that a rising list is determined by its members, the test by
-- neighbours, and how long one can be: between two numbers, and with elements of another list alone. Assumes nothing.
use mathlib.Core.Bool.{true, false, not}
use mathlib.Core.List.{List, [], ◌∷◌, ◌++◌, append-nil}
use mathlib.Core.Logic.{⊎_elim}
use mathlib.Core.Path.{◌≡◌, refl, sym, ap, ap₂, ◌∙◌, subst}
use Prim.Native.Nat.{ℕ, ◌+◌, ◌<◌, ◌≤◌}
use native.Mathlib.Omega.{arith}
use lib.Dec.{eqb, ltb}
use lib.ListN.{length}
use borrow.Author.Tests.{eqb-true, ne_eqb, ltb-true, lt-ltb, le-ltb}
use Rattle.lists.specs.Lists.{keep, All, member, Rising, rises_b}
use Rattle.lists.proofs.Tests.{by_test, true_or_false, or_true_cases, and_left, and_right, and_both}
use Rattle.lists.proofs.Keep.{all_map, all_both, keep_append, keep_all, keep_none, length-keep-not}
use Rattle.lists.proofs.Membership.{all_member, some-member, member-keep}
use Rattle.lists.proofs.Pairwise.{pairwise_join, pairwise_unique}

pub rising_join : (xs : List ℕ) (y : ℕ) (ys : List ℕ) → Rising xs → Rising ys → All (λ x. x < y) xs → All (λ z. y < z) ys → Rising (xs ++ y ∷ ys)
rising_join = pairwise_join ◌<◌ (λ x y z p q. omega arith)

pub rising_unique : (xs ys : List ℕ) → Rising xs → Rising ys → All (λ x. member x ys ≡ true) xs → All (λ y. member y xs ≡ true) ys → xs ≡ ys
rising_unique = pairwise_unique ◌<◌ (λ x y p q. omega arith)

-- the elements below and above r of a rising list that has r between them
pub keep_below : (xs : List ℕ) (r : ℕ) (ys : List ℕ) → All (λ x. x < r) xs → All (λ y. r < y) ys → keep (λ x. ltb x r) (xs ++ r ∷ ys) ≡ xs
keep_below xs r ys h k =
    keep_append (λ x. ltb x r) xs (r ∷ ys)
    ∙ ap₂ (λ a b. a ++ b) (keep_all (λ x. ltb x r) xs (all_map (λ x. x < r) (λ x. ltb x r ≡ true) (λ x l. lt-ltb x r l) xs h))
    (keep_none (λ x. ltb x r) (r ∷ ys) (le-ltb r r (omega arith), all_map (λ y. r < y) (λ y. ltb y r ≡ false) (λ y (l : r < y). le-ltb y r (omega arith)) ys k))
    ∙ append-nil xs

pub keep_above : (xs : List ℕ) (r : ℕ) (ys : List ℕ) → All (λ x. x < r) xs → All (λ y. r < y) ys → keep (λ x. ltb r x) (xs ++ r ∷ ys) ≡ ys
keep_above xs r ys h k =
    keep_append (λ x. ltb r x) xs (r ∷ ys)
    ∙ ap₂ (λ a b. a ++ b) (keep_none (λ x. ltb r x) xs (all_map (λ x. x < r) (λ x. ltb r x ≡ false) (λ x (l : x < r). le-ltb r x (omega arith)) xs h))
    (rw (le-ltb r r (omega arith)) (keep_all (λ x. ltb r x) ys (all_map (λ y. r < y) (λ y. ltb r y ≡ true) (λ y l. lt-ltb r y l) ys k)))

-- a rising list at one of its members: what is below it, it, what is above it
pub rising_split : (ks : List ℕ) (r : ℕ) → Rising ks → member r ks ≡ true → keep (λ x. ltb x r) ks ++ r ∷ keep (λ x. ltb r x) ks ≡ ks
rising_split [] r h m = absurd (true_or_false false m refl)
rising_split (k ∷ ks) r h m =
    ⊎_elim
    (λ (e : eqb r k ≡ true).
    let q = eqb-true r k e in
    let above : All (λ x. r < x) ks = subst (λ (z : ℕ). All (λ x. z < x) ks) (sym q) h.0 in
    rw (
      le-ltb k r (omega arith),
      le-ltb r k (omega arith),
      keep_none (λ x. ltb x r) ks (all_map (λ x. r < x) (λ x. ltb x r ≡ false) (λ x (l : r < x). le-ltb x r (omega arith)) ks above),
      keep_all (λ x. ltb r x) ks (all_map (λ x. r < x) (λ x. ltb r x ≡ true) (λ x l. lt-ltb r x l) ks above),
    )
    (ap (λ (z : ℕ). z ∷ ks) q))
    (λ (e : member r ks ≡ true).
    let l : k < r = all_member (λ x. k < x) ks r h.0 e in
    rw (lt-ltb k r l, le-ltb r k (omega arith)) (ap (λ (zs : List ℕ). k ∷ zs) (rising_split ks r h.1 e)))
    (or_true_cases (eqb r k) (member r ks) m)

-- a rising list has a number at most once
pub rising_once : (vs : List ℕ) (z : ℕ) → Rising vs → length (keep (λ x. eqb x z) vs) ≤ 1
rising_once [] z h = omega arith
rising_once (v ∷ vs) z h =
    by_test (eqb v z)
    (λ e.
    let q = eqb-true v z e in
    rw (e, keep_none (λ x. eqb x z) vs (all_map (λ x. v < x) (λ x. eqb x z ≡ false) (λ x (l : v < x). ne_eqb x z (λ i. omega arith)) vs h.0)) (omega arith))
    (λ e. rw e (rising_once vs z h.1))

-- ---- rises_b: the test by neighbours
pub rises_says : (xs : List ℕ) → rises_b xs ≡ true → Rising xs
rises_says [] e = tt
rises_says (x ∷ []) e = (tt, tt)
rises_says (x ∷ y ∷ ys) e =
    let l = ltb-true x y (and_left (ltb x y) (rises_b (y ∷ ys)) e) in
    let later = rises_says (y ∷ ys) (and_right (ltb x y) (rises_b (y ∷ ys)) e) in
    ((l, all_map (λ z. y < z) (λ z. x < z) (λ z (k : y < z). omega arith) ys later.0), later)

pub rises_when : (xs : List ℕ) → Rising xs → rises_b xs ≡ true
rises_when [] h = refl
rises_when (x ∷ []) h = refl
rises_when (x ∷ y ∷ ys) h = and_both (ltb x y) (rises_b (y ∷ ys)) (lt-ltb x y h.0.0) (rises_when (y ∷ ys) h.1)

-- a rising list of numbers above one and up to another is no longer than they are apart
pub rising_few : (low high : ℕ) (ks : List ℕ) → low ≤ high → Rising ks → All (λ k. (low < k) × (k ≤ high)) ks → low + length ks ≤ high
rising_few low high [] h rising all = omega arith
rising_few low high (k ∷ ks) h rising all =
    let rest =
    rising_few k high ks all.0.1 rising.1
    (all_both (λ x. k < x) (λ x. x ≤ high) ks rising.0 (all_map (λ x. (low < x) × (x ≤ high)) (λ x. x ≤ high) (λ x q. q.1) ks all.1))
    in
    omega arith

-- a rising list is no longer than a list that has all its elements
pub rising_covered : (xs ys : List ℕ) → Rising xs → All (λ x. member x ys ≡ true) xs → length xs ≤ length ys
rising_covered [] ys rising all = omega arith
rising_covered (x ∷ xs) ys rising all =
    let above = keep (λ y. ltb x y) ys in
    let stay : All (λ z. member z above ≡ true) xs =
    all_map (λ z. (x < z) × (member z ys ≡ true)) (λ z. member z above ≡ true)
    (λ z h. member-keep (λ y. ltb x y) z ys ∙ and_both (ltb x z) (member z ys) (lt-ltb x z h.0) h.1)
    xs (all_both (λ z. x < z) (λ z. member z ys ≡ true) xs rising.0 all.1)
    in
    let gone : 0 < length (keep (λ y. not (ltb x y)) ys) =
    some-member x (keep (λ y. not (ltb x y)) ys)
    (member-keep (λ y. not (ltb x y)) x ys ∙ and_both (not (ltb x x)) (member x ys) (ap not (le-ltb x x (omega arith))) all.0)
    in
    omega (arith, rising_covered xs above rising.1 stay, gone, length-keep-not (λ y. ltb x y) ys)
