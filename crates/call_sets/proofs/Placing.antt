-- The index of a key among rising keys: what it is, and that an element put in or taken out there is one put in or taken out by key.
-- Assumes rising keys, where it says so.
use mathlib.Core.Bool.{true, false}
use mathlib.Core.List.{List, [], ◌∷◌, map}
use mathlib.Core.Logic.{⊎_elim}
use mathlib.Core.Path.{◌≡◌, refl, sym, ap, subst, ◌∙◌}
use Prim.Native.Nat.{ℕ, zero, suc, ◌<◌, ◌≤◌}
use native.Mathlib.Omega.{arith}
use lib.Dec.{eqb, ltb}
use lib.ListN.{length, get_or, take}
use lib.Seq.{length-take-le, get_or-take}
use borrow.Author.Tests.{eqb-true, eq-eqb, ne_eqb, lt-ltb, le-ltb, ltb-true, ltb-false}
use Rattle.std.specs.List.Sorted.{IsNonDecreasingBy, IsPartitionPoint}
use Rattle.lists.specs.Lists.{All, Rising, member}
use Rattle.lists.proofs.Tests.{Compared, compared, less, same, more, true_or_false, or_true_cases, or_false_left, or_false_right}
use Rattle.lists.proofs.Keep.{all_map, all_at, all_of_indices, keep_none, length-keep}
use Rattle.lists.proofs.Membership.{all_member}
use Rattle.table.specs.Contents.{Entry, entry_keys, key_below}
use Rattle.call_sets.specs.Sets.{joined, without}
use Rattle.call_sets.specs.Indices.{index_of, put_at, remove_at}

-- ---- where it is
pub index_most : (key : ℕ) (keys : List ℕ) → index_of key keys ≤ length keys
unfolding index_of
index_most key keys = length-keep (λ k. ltb k key) keys

-- before keys that are not below it, and behind one that is
index_first : (key : ℕ) (keys : List ℕ) → All (λ k. key ≤ k) keys → index_of key keys ≡ 0
unfolding index_of
index_first key keys h =
    ap length (keep_none (λ k. ltb k key) keys (all_map (λ k. key ≤ k) (λ k. ltb k key ≡ false) (λ k l. le-ltb k key l) keys h))

index_next : (key k : ℕ) (keys : List ℕ) → ltb k key ≡ true → index_of key (k ∷ keys) ≡ suc (index_of key keys)
unfolding index_of
index_next key k keys e = rw e refl

-- a key that is not above the first of rising keys is above none of them
none_below : (key k : ℕ) (keys : List ℕ) → key ≤ k → Rising (k ∷ keys) → All (λ j. key ≤ j) (k ∷ keys)
none_below key k keys h rise = (h, all_map (λ j. k < j) (λ j. key ≤ j) (λ j (l : k < j). omega arith) keys rise.0)

-- the index by what is before it and what stands there
index_is : (key : ℕ) (keys : List ℕ) (at : ℕ) → Rising keys → at ≤ length keys → All (λ k. k < key) (take at keys)
    → (at < length keys → key ≤ get_or keys at 0) → at ≡ index_of key keys
index_is key [] zero rise h low high = sym (index_first key [] tt)
index_is key [] (suc at) rise h low high = absurd (omega arith)
index_is key (k ∷ keys) zero rise h low high = sym (index_first key (k ∷ keys) (none_below key k keys (high (omega arith)) rise))
index_is key (k ∷ keys) (suc at) rise h low high =
    ap suc (index_is key keys at rise.1 (omega arith) low.1 (λ l. high (omega arith)))
    ∙ sym (index_next key k keys (lt-ltb k key low.0))

-- rising keys never fall
pub never_falls : (keys : List ℕ) → Rising keys → IsNonDecreasingBy (λ k. k) keys
never_falls [] rise i j d h l = absurd (omega arith)
never_falls (k ∷ keys) rise zero zero d h l = omega arith
never_falls (k ∷ keys) rise zero (suc j) d h l = let above : k < get_or keys j d = all_at (λ x. k < x) keys j d rise.0 (omega arith) in omega arith
never_falls (k ∷ keys) rise (suc i) zero d h l = absurd (omega arith)
never_falls (k ∷ keys) rise (suc i) (suc j) d h l = never_falls keys rise.1 i j d (omega arith) (omega arith)

-- the keys before the index are below the key, and those from there on are not
pub parted_there : (key : ℕ) (keys : List ℕ) (at : ℕ) → Rising keys → at ≤ length keys
    → IsPartitionPoint (λ k. ltb k key ≡ true) (λ k. ltb k key ≡ false) keys at → at ≡ index_of key keys
parted_there key keys at rise fit point =
    index_is key keys at rise fit
    (all_of_indices (λ k. k < key) (take at keys) 0
    (λ i l.
    let before : i < at = omega (arith, length-take-le at keys fit) in
    let below = ltb-true (get_or keys i 0) key (point.0 i 0 (omega arith) before) in
    omega (arith, get_or-take at keys i 0 before)))
    (λ l. ltb-false (get_or keys at 0) key (point.1 at 0 (omega arith) l))

pub index_below : (key : ℕ) (keys : List ℕ) → Rising keys → member key keys ≡ true → index_of key keys < length keys
index_below key [] rise m = absurd (true_or_false false m refl)
index_below key (k ∷ keys) rise m =
    ⊎_elim
    (λ (e : eqb key k ≡ true).
    let q = eqb-true key k e in
    omega (arith, index_first key (k ∷ keys) (none_below key k keys (omega arith) rise)))
    (λ (e : member key keys ≡ true).
    let l : k < key = all_member (λ j. k < j) keys key rise.0 e in
    omega (arith, index_next key k keys (lt-ltb k key l), index_below key keys rise.1 e))
    (or_true_cases (eqb key k) (member key keys) m)

-- ---- an entry more or less there
put_first : {A : Type 0} (x : A) (xs : List A) → put_at 0 x xs ≡ x ∷ xs
unfolding put_at
put_first x xs = refl

put_next : {A : Type 0} (at : ℕ) (x y : A) (xs : List A) → put_at (suc at) x (y ∷ xs) ≡ y ∷ put_at at x xs
unfolding put_at
put_next at x y xs = refl

removed_first : {A : Type 0} (y : A) (xs : List A) → remove_at 0 (y ∷ xs) ≡ xs
unfolding remove_at
removed_first y xs = refl

removed_next : {A : Type 0} (at : ℕ) (y : A) (xs : List A) → remove_at (suc at) (y ∷ xs) ≡ y ∷ remove_at at xs
unfolding remove_at
removed_next at y xs = refl

pub placed_joined : (e : Entry) (es : List Entry) → Rising (entry_keys es) → member e.key (entry_keys es) ≡ false
    → put_at (index_of e.key (entry_keys es)) e es ≡ joined e es
unfolding joined key_below
placed_joined e [] rise m = ap (λ (at : ℕ). put_at at e []) (index_first e.key [] tt) ∙ put_first e []
placed_joined e (f ∷ es) rise m = go (compared e.key f.key) (placed_joined e es rise.1 (or_false_right (eqb e.key f.key) (member e.key (entry_keys es)) m))
  where
    go : Compared e.key f.key → put_at (index_of e.key (entry_keys es)) e es ≡ joined e es
        → put_at (index_of e.key (entry_keys (f ∷ es))) e (f ∷ es) ≡ joined e (f ∷ es)
    go (less _ t _ l) later =
        rw t
        (ap (λ (at : ℕ). put_at at e (f ∷ es)) (index_first e.key (entry_keys (f ∷ es)) (none_below e.key f.key (entry_keys es) (omega arith) rise))
        ∙ put_first e (f ∷ es))
    go (same t _ _ _) later =
        absurd (true_or_false (eqb e.key f.key) t (or_false_left (eqb e.key f.key) (member e.key (entry_keys es)) m))
    go (more _ t u _) later =
        rw t
        (ap (λ (at : ℕ). put_at at e (f ∷ es)) (index_next e.key f.key (entry_keys es) u)
        ∙ put_next (index_of e.key (entry_keys es)) e f es
        ∙ ap (λ (fs : List Entry). f ∷ fs) later)

-- entries with greater keys all stay
all_stay : (key : ℕ) (es : List Entry) → All (λ k. key < k) (entry_keys es) → without key es ≡ es
unfolding without
all_stay key [] h = refl
all_stay key (f ∷ es) h = rw (ne_eqb f.key key (λ e. omega (arith, h.0))) (ap (λ (fs : List Entry). f ∷ fs) (all_stay key es h.1))

leaves_first : (key : ℕ) (f : Entry) (es : List Entry) → eqb f.key key ≡ true → without key (f ∷ es) ≡ without key es
unfolding without
leaves_first key f es t = rw t refl

leaves_later : (key : ℕ) (f : Entry) (es : List Entry) → eqb f.key key ≡ false → without key (f ∷ es) ≡ f ∷ without key es
unfolding without
leaves_later key f es t = rw t refl

pub placed_without : (key : ℕ) (es : List Entry) → Rising (entry_keys es) → member key (entry_keys es) ≡ true
    → remove_at (index_of key (entry_keys es)) es ≡ without key es
placed_without key [] rise m = absurd (true_or_false false m refl)
placed_without key (f ∷ es) rise m =
    ⊎_elim
    (λ (t : eqb key f.key ≡ true).
    let q = eqb-true key f.key t in
    ap (λ (at : ℕ). remove_at at (f ∷ es)) (index_first key (entry_keys (f ∷ es)) (none_below key f.key (entry_keys es) (omega arith) rise))
    ∙ removed_first f es
    ∙ sym (leaves_first key f es (eq-eqb f.key key (sym q)) ∙ all_stay key es (subst (λ (j : ℕ). All (λ k. j < k) (entry_keys es)) (sym q) rise.0)))
    (λ (t : member key (entry_keys es) ≡ true).
    let l : f.key < key = all_member (λ j. f.key < j) (entry_keys es) key rise.0 t in
    ap (λ (at : ℕ). remove_at at (f ∷ es)) (index_next key f.key (entry_keys es) (lt-ltb f.key key l))
    ∙ removed_next (index_of key (entry_keys es)) f es
    ∙ ap (λ (fs : List Entry). f ∷ fs) (placed_without key es rise.1 t)
    ∙ sym (leaves_later key f es (ne_eqb f.key key (λ e. omega arith))))
    (or_true_cases (eqb key f.key) (member key (entry_keys es)) m)

-- ---- element by element, and how many
module _ {A B : Type 0} (f : A → B) where
  pub put_mapped : (at : ℕ) (x : A) (xs : List A) → map f (put_at at x xs) ≡ put_at at (f x) (map f xs)
  unfolding put_at
  put_mapped zero x xs = refl
  put_mapped (suc at) x [] = refl
  put_mapped (suc at) x (y ∷ xs) = ap (λ (ys : List B). f y ∷ ys) (put_mapped at x xs)

  pub removed_mapped : (at : ℕ) (xs : List A) → map f (remove_at at xs) ≡ remove_at at (map f xs)
  unfolding remove_at
  removed_mapped zero [] = refl
  removed_mapped zero (y ∷ xs) = refl
  removed_mapped (suc at) [] = refl
  removed_mapped (suc at) (y ∷ xs) = ap (λ (ys : List B). f y ∷ ys) (removed_mapped at xs)

module _ {A : Type 0} where
  pub removed_length : (at : ℕ) (xs : List A) → at < length xs → suc (length (remove_at at xs)) ≡ length xs
  unfolding remove_at
  removed_length at [] h = absurd (omega arith)
  removed_length zero (y ∷ xs) h = refl
  removed_length (suc at) (y ∷ xs) h = ap suc (removed_length at xs (omega arith))
