-- The entries of a part that stay as they are where an entry beside it is set and the part on the other side of that is
-- overwritten; the nearest found in the part then stay found. Assumes nothing.
use mathlib.Core.List.{List, ◌++◌, append_assoc}
use mathlib.Core.Path.{◌≡◌, refl, sym, ap, ◌∙◌, subst}
use Prim.Native.Nat.{ℕ, suc, ◌+◌, ◌-◌, ◌<◌, ◌≤◌}
use native.Mathlib.Omega.{arith}
use lib.ListN.{length, get_or, set, take, drop, length-append, length-set, get_or-append}
use lib.Seq.{get_or-set_other, get_or-take, get_or-drop, get_or-append-add, length-take-le}
use Rattle.lists.specs.Lists.{overwrite}
use Rattle.lists.proofs.Overwrite.{overwrite_start}
use Rattle.treap_links.specs.Nearest.{NearestBefore, NearestAfter, Nearest}

-- From index a up to b the two lists are the same.
abbrev pub SameIn : ℕ → ℕ → List ℕ → List ℕ → Type 0
SameIn a b new old = (x : ℕ) → a ≤ x → x < b → get_or new x 0 ≡ get_or old x 0

pub set_after : (l : List ℕ) (i y a b : ℕ) → b ≤ i → SameIn a b (set l i y) l
set_after l i y a b h x m n = get_or-set_other l i x y 0 (λ e. omega arith)

pub set_before : (l : List ℕ) (i y a b : ℕ) → i < a → SameIn a b (set l i y) l
set_before l i y a b h x m n = get_or-set_other l i x y 0 (λ e. omega arith)

overwrite_after : (l new : List ℕ) (at a b : ℕ) → b ≤ at → at ≤ length l → SameIn a b (overwrite l at new) l
unfolding overwrite
overwrite_after l new at a b h k x m n =
    get_or-append (take at l) (new ++ drop (at + length new) l) 0 x (omega (arith, length-take-le at l k)) ∙ get_or-take at l x 0 (omega arith)

overwrite_before : (l new : List ℕ) (at a b : ℕ) → at + length new ≤ a → at ≤ length l → SameIn a b (overwrite l at new) l
unfolding overwrite
overwrite_before l new at a b h k x m n =
    let long : length (take at l ++ new) ≡ at + length new = length-append (take at l) new ∙ ap (λ (j : ℕ). j + length new) (length-take-le at l k) in
    let place : x ≡ length (take at l ++ new) + (x - (at + length new)) = omega arith in
    let back : (at + length new) + (x - (at + length new)) ≡ x = omega arith in
    ap (λ (ys : List ℕ). get_or ys x 0) (sym (append_assoc (take at l) new (drop (at + length new) l)))
    ∙ ap (λ (j : ℕ). get_or ((take at l ++ new) ++ drop (at + length new) l) j 0) place
    ∙ get_or-append-add (take at l ++ new) (drop (at + length new) l) (x - (at + length new)) 0
    ∙ get_or-drop (at + length new) l (x - (at + length new)) 0 ∙ ap (λ (j : ℕ). get_or l j 0) back

-- ---- an entry set, and the part before it or after it overwritten: the part on the other side
pub rest_after : (l new : List ℕ) (i y a b : ℕ) → a + length new ≡ i → i < length l → SameIn (suc i) b (overwrite (set l i y) a new) l
rest_after l new i y a b e h x m n =
    overwrite_before (set l i y) new a (suc i) b (omega arith) (omega (arith, length-set l i y)) x m n ∙ set_before l i y (suc i) b (omega arith) x m n

pub rest_before : (l new : List ℕ) (i y a : ℕ) → i < length l → SameIn a i (overwrite (set l i y) (suc i) new) l
rest_before l new i y a h x m n =
    overwrite_after (set l i y) new (suc i) a i (omega arith) (omega (arith, length-set l i y)) x m n ∙ set_after l i y a i (omega arith) x m n

-- ---- a start that was written before it is overwritten
pub overwrite_again : (old entry new : List ℕ) (n : ℕ) → length new ≡ n → drop n old ≡ drop n entry → overwrite old 0 new ≡ overwrite entry 0 new
overwrite_again old entry new n e f =
    overwrite_start old new
    ∙ ap (λ (m : ℕ). new ++ drop m old) e
    ∙ ap (λ (xs : List ℕ). new ++ xs) f
    ∙ ap (λ (m : ℕ). new ++ drop m entry) (sym e) ∙ sym (overwrite_start entry new)

-- ---- what was found in a part
module _ (ws : List ℕ) (seen lo hi : ℕ) (left right : List ℕ) (near : Nearest ws seen lo hi left right) (a b : ℕ) (from : lo ≤ a) (upto : b ≤ hi) where
  pub nearest_kept : (left' right' : List ℕ) → SameIn a b left' left → SameIn a b right' right → Nearest ws seen a b left' right'
  unfolding Nearest
  nearest_kept left' right' e f x h k =
      let old = near x (omega arith) (omega arith) in
      (subst (NearestBefore ws x) (sym (e x h k)) old.0, subst (NearestAfter ws seen x) (sym (f x h k)) old.1)

  pub nearest_part : Nearest ws seen a b left right
  nearest_part = nearest_kept left right (λ x h k. refl) (λ x h k. refl)
