-- Laws of `keep`, the filter by a Bool test, and of `All`. Assumes nothing.
use mathlib.Core.Bool.{Bool, true, false, ◌||◌, not}
use mathlib.Core.List.{List, [], ◌∷◌, ◌++◌, map}
use mathlib.Core.Path.{◌≡◌, refl, sym, ap, ap₂, ◌∙◌, subst}
use Prim.Native.Nat.{ℕ, zero, suc, ◌+◌, ◌≤◌, ◌<◌}
use native.Mathlib.Omega.{arith}
use lib.ListN.{length, get_or, set, replicate}
use Rattle.lists.specs.Lists.{cons_if, keep, every, All}
use Rattle.lists.proofs.Tests.{by_test, true_or_false, and_left, and_right, and_both}

module _ {A : Type 0} where
  -- ---- All
  pub all_map : (P Q : A → Type 0) → ((x : A) → P x → Q x) → (xs : List A) → All P xs → All Q xs
  all_map P Q f [] h = tt
  all_map P Q f (x ∷ xs) h = (f x h.0, all_map P Q f xs h.1)

  pub all_always : (P : A → Type 0) → ((x : A) → P x) → (xs : List A) → All P xs
  all_always P f [] = tt
  all_always P f (x ∷ xs) = (f x, all_always P f xs)

  pub all_both : (P Q : A → Type 0) (xs : List A) → All P xs → All Q xs → All (λ x. P x × Q x) xs
  all_both P Q [] h k = tt
  all_both P Q (x ∷ xs) h k = ((h.0, k.0), all_both P Q xs h.1 k.1)

  pub all_append : (P : A → Type 0) (xs ys : List A) → All P xs → All P ys → All P (xs ++ ys)
  all_append P [] ys h k = k
  all_append P (x ∷ xs) ys h k = (h.0, all_append P xs ys h.1 k)

  pub all_append_left : (P : A → Type 0) (xs ys : List A) → All P (xs ++ ys) → All P xs
  all_append_left P [] ys h = tt
  all_append_left P (x ∷ xs) ys h = (h.0, all_append_left P xs ys h.1)

  pub all_append_right : (P : A → Type 0) (xs ys : List A) → All P (xs ++ ys) → All P ys
  all_append_right P [] ys h = h
  all_append_right P (x ∷ xs) ys h = all_append_right P xs ys h.1

  all_cons_if : (P : A → Type 0) (b : Bool) (x : A) (xs : List A) → P x → All P xs → All P (cons_if b x xs)
  all_cons_if P true x xs h k = (h, k)
  all_cons_if P false x xs h k = k

  pub all_keep : (P : A → Type 0) (f : A → Bool) (xs : List A) → All P xs → All P (keep f xs)
  all_keep P f [] h = tt
  all_keep P f (x ∷ xs) h = all_cons_if P (f x) x (keep f xs) h.0 (all_keep P f xs h.1)

  -- every element kept passes the test
  pub kept_pass : (f : A → Bool) (xs : List A) → All (λ x. f x ≡ true) (keep f xs)
  kept_pass f [] = tt
  kept_pass f (x ∷ xs) =
      by_test (f x)
      (λ e. rw e (e, kept_pass f xs))
      (λ e. rw e (kept_pass f xs))

  -- ---- keep
  cons_if-append : (b : Bool) (x : A) (xs ys : List A) → cons_if b x (xs ++ ys) ≡ cons_if b x xs ++ ys
  cons_if-append true x xs ys = refl
  cons_if-append false x xs ys = refl

  pub keep_append : (f : A → Bool) (xs ys : List A) → keep f (xs ++ ys) ≡ keep f xs ++ keep f ys
  keep_append f [] ys = refl
  keep_append f (x ∷ xs) ys = ap (cons_if (f x) x) (keep_append f xs ys) ∙ cons_if-append (f x) x (keep f xs) (keep f ys)

  pub keep_all : (f : A → Bool) (xs : List A) → All (λ x. f x ≡ true) xs → keep f xs ≡ xs
  keep_all f [] h = refl
  keep_all f (x ∷ xs) h = rw h.0 (ap (λ (l : List A). x ∷ l) (keep_all f xs h.1))

  pub keep_none : (f : A → Bool) (xs : List A) → All (λ x. f x ≡ false) xs → keep f xs ≡ []
  keep_none f [] h = refl
  keep_none f (x ∷ xs) h = rw h.0 (keep_none f xs h.1)

  pub keep_same : (f g : A → Bool) (xs : List A) → All (λ x. f x ≡ g x) xs → keep f xs ≡ keep g xs
  keep_same f g [] h = refl
  keep_same f g (x ∷ xs) h = ap₂ (λ b l. cons_if b x l) h.0 (keep_same f g xs h.1)

  -- a test that passes only where another does may be made after it
  pub keep_after : (f g : A → Bool) (xs : List A) → All (λ x. f x ≡ true → g x ≡ true) xs → keep f (keep g xs) ≡ keep f xs
  keep_after f g [] h = refl
  keep_after f g (x ∷ xs) h =
      by_test (g x)
      (λ e. rw e (ap (cons_if (f x) x) (keep_after f g xs h.1)))
      (λ e.
      let none : f x ≡ false = by_test (f x) (λ t. absurd (true_or_false (g x) (h.0 t) e)) (λ t. t) in
      rw (e, none) (keep_after f g xs h.1))

  length-cons_if : (b : Bool) (x : A) (xs : List A) → length (cons_if b x xs) ≤ suc (length xs)
  length-cons_if true x xs = omega arith
  length-cons_if false x xs = omega arith

  pub length-keep : (f : A → Bool) (xs : List A) → length (keep f xs) ≤ length xs
  length-keep f [] = omega arith
  length-keep f (x ∷ xs) = omega (arith, length-cons_if (f x) x (keep f xs), length-keep f xs)

  -- a test that passes only where another does keeps no more
  pub length-keep_le : (f g : A → Bool) (xs : List A) → All (λ x. f x ≡ true → g x ≡ true) xs → length (keep f xs) ≤ length (keep g xs)
  length-keep_le f g xs h = subst (λ (ys : List A). length ys ≤ length (keep g xs)) (keep_after f g xs h) (length-keep f (keep g xs))

  -- either of two tests keeps no more than both of them apart
  pub length-keep-or : (f g : A → Bool) (xs : List A) → length (keep (λ x. f x || g x) xs) ≤ length (keep f xs) + length (keep g xs)
  length-keep-or f g [] = omega arith
  length-keep-or f g (x ∷ xs) =
      let ih = length-keep-or f g xs in
      by_test (f x)
      (λ e. by_test (g x) (λ i. rw (e, i) (omega arith)) (λ i. rw (e, i) (omega arith)))
      (λ e. by_test (g x) (λ i. rw (e, i) (omega arith)) (λ i. rw (e, i) (omega arith)))

  -- and as much where no element passes both
  pub length-keep_apart : (f g : A → Bool) (xs : List A) → All (λ x. f x ≡ true → g x ≡ false) xs
      → length (keep (λ x. f x || g x) xs) ≡ length (keep f xs) + length (keep g xs)
  length-keep_apart f g [] h = refl
  length-keep_apart f g (x ∷ xs) h =
      let ih = length-keep_apart f g xs h.1 in
      by_test (f x)
      (λ e. rw (e, h.0 e) (omega arith))
      (λ e. by_test (g x) (λ i. rw (e, i) (omega arith)) (λ i. rw (e, i) (omega arith)))

  -- what passes and what does not are the whole
  pub length-keep-not : (f : A → Bool) (xs : List A) → length (keep f xs) + length (keep (λ x. not (f x)) xs) ≡ length xs
  length-keep-not f [] = refl
  length-keep-not f (x ∷ xs) =
      let ih = length-keep-not f xs in
      by_test (f x) (λ e. rw e (omega arith)) (λ e. rw e (omega arith))

  -- what is kept first was in the list and passes
  pub some_kept : (f : A → Bool) (P : A → Type 0) (xs : List A) → All P xs → 0 < length (keep f xs) → (x : A) × P x × (f x ≡ true)
  some_kept f P [] a h = absurd (omega arith)
  some_kept f P (x ∷ xs) a h =
      by_test (f x)
      (λ e. (x, a.0, e))
      (λ e. some_kept f P xs a.1 (rw e at h))

  -- where one element alone is kept, every element that passes is that one
  pub keep_only : (f : A → Bool) (c : A) (xs : List A) → keep f xs ≡ c ∷ [] → All (λ x. f x ≡ true → x ≡ c) xs
  keep_only f c xs e = kept_all xs (subst (All (λ x. x ≡ c)) (sym e) (refl, tt))
    where
      kept_all : (ys : List A) → All (λ x. x ≡ c) (keep f ys) → All (λ x. f x ≡ true → x ≡ c) ys
      kept_all [] h = tt
      kept_all (y ∷ ys) h =
          by_test (f y)
          (λ t. let both : All (λ x. x ≡ c) (y ∷ keep f ys) = rw t at h in ((λ _. both.0), kept_all ys both.1))
          (λ t. ((λ i. absurd (true_or_false (f y) i t)), kept_all ys (rw t at h)))

  -- ---- every
  pub every_when : (f : A → Bool) (xs : List A) → All (λ x. f x ≡ true) xs → every f xs ≡ true
  every_when f [] h = refl
  every_when f (x ∷ xs) h = and_both (f x) (every f xs) h.0 (every_when f xs h.1)

  pub every_says : (f : A → Bool) (xs : List A) → every f xs ≡ true → All (λ x. f x ≡ true) xs
  every_says f [] h = tt
  every_says f (x ∷ xs) h = (and_left (f x) (every f xs) h, every_says f xs (and_right (f x) (every f xs) h))

-- functions that agree on the elements have the same map
-- what each of many things holds of all elements, every element has of each of them
pub all_for_each : {A B : Type 0} (P : A → Type 0) (Q : A → B → Type 0) (ys : List B) → ((x : A) → P x → All (Q x) ys) → All (λ y. (x : A) → P x → Q x y) ys
all_for_each P Q [] f = tt
all_for_each P Q (y ∷ ys) f = ((λ x h. (f x h).0), all_for_each P Q ys (λ x h. (f x h).1))

pub map_same : {A B : Type 0} (f g : A → B) (xs : List A) → All (λ x. f x ≡ g x) xs → map f xs ≡ map g xs
map_same f g [] h = refl
map_same {A} {B} f g (x ∷ xs) h = ap₂ (λ (y : B) (ys : List B). y ∷ ys) h.0 (map_same f g xs h.1)

-- what is made of those whose results pass a test
pub map-keep : {A B : Type 0} (g : A → B) (f : B → Bool) (xs : List A) → map g (keep (λ x. f (g x)) xs) ≡ keep f (map g xs)
map-keep g f [] = refl
map-keep {A} {B} g f (x ∷ xs) =
    by_test (f (g x))
    (λ t. rw t (ap (λ (ys : List B). g x ∷ ys) (map-keep g f xs)))
    (λ t. rw t (map-keep g f xs))

pub all_mapped : {A B : Type 0} (P : B → Type 0) (g : A → B) (xs : List A) → All (λ x. P (g x)) xs → All P (map g xs)
all_mapped P g [] h = tt
all_mapped P g (x ∷ xs) h = (h.0, all_mapped P g xs h.1)

-- what holds of all elements holds at each index
pub all_at : {A : Type 0} (P : A → Type 0) (xs : List A) (i : ℕ) (d : A) → All P xs → i < length xs → P (get_or xs i d)
all_at P [] i d h k = absurd (omega arith)
all_at P (x ∷ xs) zero d h k = h.0
all_at P (x ∷ xs) (suc i) d h k = all_at P xs i d h.1 (omega arith)

-- and what holds of the default too holds past them
pub all_anywhere : {A : Type 0} (P : A → Type 0) (xs : List A) (i : ℕ) (d : A) → P d → All P xs → P (get_or xs i d)
all_anywhere P [] i d h a = h
all_anywhere P (x ∷ xs) zero d h a = a.0
all_anywhere P (x ∷ xs) (suc i) d h a = all_anywhere P xs i d h a.1

pub all_set : {A : Type 0} (P : A → Type 0) (xs : List A) (i : ℕ) (x : A) → P x → All P xs → All P (set xs i x)
all_set P [] i x h a = tt
all_set P (y ∷ xs) zero x h a = (h, a.1)
all_set P (y ∷ xs) (suc i) x h a = (a.0, all_set P xs i x h a.1)

pub all_replicate : {A : Type 0} (P : A → Type 0) (many : ℕ) (x : A) → P x → All P (replicate many x)
all_replicate P zero x h = tt
all_replicate P (suc many) x h = (h, all_replicate P many x h)

-- what holds at each index holds of all elements
pub all_of_indices : {A : Type 0} (P : A → Type 0) (xs : List A) (d : A) → ((i : ℕ) → i < length xs → P (get_or xs i d)) → All P xs
all_of_indices P [] d h = tt
all_of_indices P (x ∷ xs) d h = (h 0 (omega arith), all_of_indices P xs d (λ i l. h (suc i) (omega arith)))
