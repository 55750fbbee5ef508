-- A list with a part of it overwritten, and that a part may be overwritten piece by piece. Assumes nothing.
use mathlib.Core.List.{List, [], ◌∷◌, ◌++◌, append_assoc}
use mathlib.Core.Path.{◌≡◌, refl, sym, ap, ap₂, ◌∙◌, subst}
use Prim.Native.Nat.{ℕ, suc, ◌+◌, ◌<◌, ◌≤◌}
use native.Mathlib.Nat.{add-zero, zero-add}
use native.Mathlib.Omega.{arith}
use lib.ListN.{length, take, drop, set, take-append-drop, length-append, length-drop}
use lib.Seq.{take_at, drop_at, set_at, length-take-le}
use Rattle.lists.specs.Lists.{overwrite}

module _ {A : Type 0} where
  -- between what is before and what is after
  pub overwrite_middle : (front old back new : List A) (at : ℕ) → length front ≡ at → length old ≡ length new → overwrite (front ++ (old ++ back)) at new ≡ front ++ (new ++ back)
  unfolding overwrite
  overwrite_middle front old back new at e f =
      ap₂ (λ (xs ys : List A). xs ++ (new ++ ys)) (take_at front (old ++ back) at e)
      (ap (drop (at + length new)) (sym (append_assoc front old back)) ∙ drop_at (front ++ old) back (at + length new) (length-append front old ∙ omega arith))

  -- a list apart at two indices
  pub apart : (l : List A) (at many : ℕ) → at + many ≤ length l
      → (front : List A) × (old : List A) × (back : List A) × (l ≡ front ++ (old ++ back)) × (length front ≡ at) × (length old ≡ many)
  apart l at many h = (
    take at l,
    take many (drop at l),
    drop many (drop at l),
    sym (ap (λ (xs : List A). take at l ++ xs) (take-append-drop many (drop at l)) ∙ take-append-drop at l),
    length-take-le at l (omega arith),
    length-take-le many (drop at l) (omega (arith, length-drop at l)),
  )

  -- ---- an element and the parts on either side of it, one after the other
  module _ (front old_left : List A) (z : A) (old_right back left : List A) (y : A) (right : List A) (at i : ℕ)
      (before : length front ≡ at) (at_left : length old_left ≡ length left) (at_right : length old_right ≡ length right) (here : at + length left ≡ i) where
    whole : List A
    whole = front ++ (old_left ++ (z ∷ (old_right ++ back)))

    -- the list with new parts on the left and right, grouped as the right part is overwritten
    ends : (l : List A) (r : List A) → front ++ (l ++ (y ∷ (r ++ back))) ≡ (front ++ (l ++ (y ∷ []))) ++ (r ++ back)
    ends l r = simp append_assoc

    set_here : set whole i y ≡ front ++ (old_left ++ (y ∷ (old_right ++ back)))
    unfolding whole
    set_here =
        ap (λ (xs : List A). set xs i y) (sym (append_assoc front old_left (z ∷ (old_right ++ back))))
        ∙ set_at (front ++ old_left) z (old_right ++ back) y i (length-append front old_left ∙ omega arith)
        ∙ append_assoc front old_left (y ∷ (old_right ++ back))

    over_left : (r : List A) → overwrite (front ++ (old_left ++ (y ∷ (r ++ back)))) at left ≡ front ++ (left ++ (y ∷ (r ++ back)))
    over_left r = overwrite_middle front old_left (y ∷ (r ++ back)) left at before at_left

    over_right : (l : List A) → length l ≡ length left → overwrite (front ++ (l ++ (y ∷ (old_right ++ back)))) (suc i) right ≡ front ++ (l ++ (y ∷ (right ++ back)))
    over_right l e =
        ap (λ (xs : List A). overwrite xs (suc i) right) (ends l old_right)
        ∙ overwrite_middle (front ++ (l ++ (y ∷ []))) old_right back right (suc i) (length-append front (l ++ (y ∷ [])) ∙ omega (arith, length-append l (y ∷ []))) at_right
        ∙ sym (ends l right)

    both : overwrite whole at (left ++ y ∷ right) ≡ front ++ (left ++ (y ∷ (right ++ back)))
    unfolding whole
    both =
        ap (λ (xs : List A). overwrite (front ++ xs) at (left ++ y ∷ right)) (sym (append_assoc old_left (z ∷ old_right) back))
        ∙ overwrite_middle front (old_left ++ z ∷ old_right) back (left ++ y ∷ right) at before
        (length-append old_left (z ∷ old_right) ∙ omega (arith, length-append left (y ∷ right)))
        ∙ ap (λ (xs : List A). front ++ xs) (append_assoc left (y ∷ right) back)

    left_then_right : overwrite (overwrite (set whole i y) at left) (suc i) right ≡ overwrite whole at (left ++ y ∷ right)
    left_then_right =
        ap (λ (xs : List A). overwrite (overwrite xs at left) (suc i) right) set_here
        ∙ ap (λ (xs : List A). overwrite xs (suc i) right) (over_left old_right)
        ∙ over_right left refl ∙ sym both

    right_then_left : overwrite (overwrite (set whole i y) (suc i) right) at left ≡ overwrite whole at (left ++ y ∷ right)
    right_then_left =
        ap (λ (xs : List A). overwrite (overwrite xs (suc i) right) at left) set_here
        ∙ ap (λ (xs : List A). overwrite xs at left) (over_right old_left at_left)
        ∙ over_left right ∙ sym both

  -- any list that is long enough is of that form
  record Cut (l : List A) (at many more : ℕ) : Type 0 where
    front : List A
    old_left : List A
    z : A
    old_right : List A
    back : List A
    same : l ≡ front ++ (old_left ++ (z ∷ (old_right ++ back)))
    before : length front ≡ at
    at_left : length old_left ≡ many
    at_right : length old_right ≡ more

  cut : (l : List A) (at many more : ℕ) → at + many + more < length l → Cut l at many more
  cut l at many more h =
      let (front, old_left, rest, e, f, g) = apart l at many (omega arith) in
      let long : length l ≡ length front + (length old_left + length rest) = ap length e ∙ length-append front (old_left ++ rest) ∙ ap (λ (n : ℕ). length front + n) (length-append old_left rest) in
      go front old_left rest e f g (omega arith)
    where
      go : (front old_left rest : List A) → l ≡ front ++ (old_left ++ rest) → length front ≡ at → length old_left ≡ many → more < length rest → Cut l at many more
      go front old_left [] e f g k = absurd (omega arith)
      go front old_left (z ∷ rest) e f g k =
          record {
            front = front;
            old_left = old_left;
            z = z;
            old_right = take more rest;
            back = drop more rest;
            same = e ∙ ap (λ (xs : List A). front ++ (old_left ++ (z ∷ xs))) (sym (take-append-drop more rest));
            before = f;
            at_left = g;
            at_right = length-take-le more rest (omega arith);
          }

  pub overwrite_left_first : (l left : List A) (y : A) (right : List A) (at i : ℕ) → at + length left ≡ i → i + length right < length l
      → overwrite (overwrite (set l i y) at left) (suc i) right ≡ overwrite l at (left ++ y ∷ right)
  unfolding whole
  overwrite_left_first l left y right at i e h =
      let c = cut l at (length left) (length right) (omega arith) in
      subst (λ (k : List A). overwrite (overwrite (set k i y) at left) (suc i) right ≡ overwrite k at (left ++ y ∷ right)) (sym c.same)
      (left_then_right c.front c.old_left c.z c.old_right c.back left y right at i c.before c.at_left c.at_right e)

  pub overwrite_right_first : (l left : List A) (y : A) (right : List A) (at i : ℕ) → at + length left ≡ i → i + length right < length l
      → overwrite (overwrite (set l i y) (suc i) right) at left ≡ overwrite l at (left ++ y ∷ right)
  unfolding whole
  overwrite_right_first l left y right at i e h =
      let c = cut l at (length left) (length right) (omega arith) in
      subst (λ (k : List A). overwrite (overwrite (set k i y) (suc i) right) at left ≡ overwrite k at (left ++ y ∷ right)) (sym c.same)
      (right_then_left c.front c.old_left c.z c.old_right c.back left y right at i c.before c.at_left c.at_right e)

  -- ---- nothing overwritten, and the length
  pub overwrite_none : (l : List A) (at : ℕ) → overwrite l at [] ≡ l
  unfolding overwrite
  overwrite_none l at = ap (λ (n : ℕ). take at l ++ drop n l) (add-zero at) ∙ take-append-drop at l

  pub overwrite_start : (l new : List A) → overwrite l 0 new ≡ new ++ drop (length new) l
  unfolding overwrite
  overwrite_start l new = ap (λ (n : ℕ). new ++ drop n l) (zero-add (length new))

  pub overwrite-length : (l : List A) (at : ℕ) (new : List A) → at + length new ≤ length l → length (overwrite l at new) ≡ length l
  unfolding overwrite
  overwrite-length l at new h =
      length-append (take at l) (new ++ drop (at + length new) l)
      ∙ omega (arith, length-append new (drop (at + length new) l), length-take-le at l (omega arith), length-drop (at + length new) l)
