-- The positions between two indices: ends, splits and tops. Assumes nothing.
use mathlib.Core.Bool.{true}
use mathlib.Core.List.{List, [], ◌∷◌, ◌++◌}
use mathlib.Core.Path.{◌≡◌, ap, ◌∙◌}
use Prim.Native.Nat.{ℕ, suc, ◌+◌, ◌-◌, ◌<◌, ◌≤◌}
use native.Mathlib.Omega.{arith}
use lib.Dec.{ltb}
use lib.ListN.{length}
use borrow.Author.Tests.{ltb-true, ltb-false}
use Rattle.lists.specs.Lists.{member, up_from, All, Rising}
use Rattle.lists.proofs.Tests.{by_test}
use Rattle.lists.proofs.Keep.{all_map}
use Rattle.lists.proofs.Membership.{all_member}
use Rattle.lists.proofs.UpFrom.{up_from-length, up_from_within, up_from_rising, up_from-append}
use Rattle.treap.specs.Treap.{top}
use Rattle.treap_structure.proofs.Shape.{top_member}
use Rattle.treap_links.specs.Links.{between}

pub between_none : (lo hi : ℕ) → hi ≤ lo → between lo hi ≡ []
between_none lo hi h =
    let none : hi - lo ≡ 0 = omega arith in
    ap (up_from (suc lo)) none

pub top_none : (p : ℕ → ℕ) (lo hi : ℕ) → hi ≤ lo → top p (between lo hi) ≡ 0
unfolding top
top_none p lo hi h = ap (top p) (between_none lo hi h)

pub between_length : (lo hi : ℕ) → length (between lo hi) ≡ hi - lo
between_length lo hi = up_from-length (suc lo) (hi - lo)

pub between_rising : (lo hi : ℕ) → Rising (between lo hi)
between_rising lo hi = up_from_rising (suc lo) (hi - lo)

pub between_within : (lo hi : ℕ) → lo ≤ hi → All (λ x. (lo < x) × (x ≤ hi)) (between lo hi)
between_within lo hi h =
    all_map (λ x. (suc lo ≤ x) × (x < suc lo + (hi - lo))) (λ x. (lo < x) × (x ≤ hi)) (λ x q. omega arith) (between lo hi) (up_from_within (suc lo) (hi - lo))

pub between_split : (lo i hi : ℕ) → lo ≤ i → i < hi → between lo hi ≡ between lo i ++ suc i ∷ between (suc i) hi
between_split lo i hi h k =
    let parts : hi - lo ≡ (i - lo) + suc (hi - suc i) = omega arith in
    let middle : suc lo + (i - lo) ≡ suc i = omega arith in
    ap (up_from (suc lo)) parts ∙ up_from-append (suc lo) (i - lo) (suc (hi - suc i)) ∙ ap (λ (n : ℕ). between lo i ++ up_from n (suc (hi - suc i))) middle

-- the top of a part that is not empty is one of its positions
pub top_between : (p : ℕ → ℕ) (lo hi : ℕ) → lo < hi → (lo < top p (between lo hi)) × (top p (between lo hi) ≤ hi)
top_between p lo hi h =
    all_member (λ x. (lo < x) × (x ≤ hi)) (between lo hi) (top p (between lo hi)) (between_within lo hi (omega arith)) (go (between lo hi) (between_length lo hi))
  where
    go : (xs : List ℕ) → length xs ≡ hi - lo → member (top p xs) xs ≡ true
    go [] e = absurd (omega arith)
    go (x ∷ xs) e = top_member p x xs

-- the top of any part is no position after it
pub top_upto : (p : ℕ → ℕ) (lo hi r : ℕ) → r ≡ top p (between lo hi) → r ≤ hi
top_upto p lo hi r e =
    by_test (ltb lo hi)
    (λ t. omega (arith, top_between p lo hi (ltb-true lo hi t)))
    (λ t. omega (arith, top_none p lo hi (ltb-false lo hi t)))
