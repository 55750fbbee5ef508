-- Laws of `flat_map` with `keep`, `All` and `Pairwise`, and of `falling_from`. Assumes nothing.
use mathlib.Core.Bool.{Bool, true, false, cond}
use mathlib.Core.List.{List, [], ◌∷◌, ◌++◌, map, flat_map, append-nil, append_assoc}
use mathlib.Core.Logic.{◌≢◌, ⊎_elim}
use mathlib.Core.Path.{◌≡◌, refl, sym, ap, ap₂, ◌∙◌}
use Prim.Native.Nat.{ℕ, zero, suc, ◌+◌, ◌*◌, ◌<◌, ◌≤◌}
use native.Mathlib.Nat.{mul-zero, mul-suc}
use native.Mathlib.Omega.{arith}
use lib.Dec.{eqb}
use lib.ListN.{length, length-append}
use borrow.Author.Tests.{eqb-true, eqb-false, ne_eqb}
use Rattle.lists.specs.Lists.{keep, All, Pairwise, member, falling_from, Rising}
use Rattle.lists.proofs.Tests.{by_test, true_or_false, or_true_cases, or_true_left, or_true_right}
use Rattle.lists.proofs.Keep.{all_map, all_mapped, all_append, keep_append, keep_none}
use Rattle.lists.proofs.Membership.{member-append}

module _ {A B : Type 0} where
  pub all_flat_map : (P : B → Type 0) (g : A → List B) (xs : List A) → All (λ x. All P (g x)) xs → All P (flat_map g xs)
  unfolding flat_map
  all_flat_map P g [] h = tt
  all_flat_map P g (x ∷ xs) h = all_append P (g x) (flat_map g xs) h.0 (all_flat_map P g xs h.1)

  pub flat_map-append : (g : A → List B) (xs ys : List A) → flat_map g (xs ++ ys) ≡ flat_map g xs ++ flat_map g ys
  unfolding flat_map
  flat_map-append g [] ys = refl
  flat_map-append g (x ∷ xs) ys = ap (λ zs. g x ++ zs) (flat_map-append g xs ys) ∙ sym (append_assoc (g x) (flat_map g xs) (flat_map g ys))

  pub keep-flat_map : (f : B → Bool) (g : A → List B) (xs : List A) → keep f (flat_map g xs) ≡ flat_map (λ x. keep f (g x)) xs
  unfolding flat_map
  keep-flat_map f g [] = refl
  keep-flat_map f g (x ∷ xs) = keep_append f (g x) (flat_map g xs) ∙ ap (λ ys. keep f (g x) ++ ys) (keep-flat_map f g xs)

  pub flat_map-same : (g h : A → List B) (xs : List A) → All (λ x. g x ≡ h x) xs → flat_map g xs ≡ flat_map h xs
  unfolding flat_map
  flat_map-same g h [] e = refl
  flat_map-same g h (x ∷ xs) e = ap₂ (λ ys zs. ys ++ zs) e.0 (flat_map-same g h xs e.1)

-- all elements of the one list stand in the relation to all of the other
abbrev pub AllRelated : {B : Type 0} → (B → B → Type 0) → List B → List B → Type 0
AllRelated R xs ys = All (λ x. All (R x) ys) xs

module _ {A B : Type 0} (R : B → B → Type 0) (g : A → List B) where
  related_append : (xs ys : List B) → Pairwise R xs → Pairwise R ys → AllRelated R xs ys → Pairwise R (xs ++ ys)
  related_append [] ys h k l = k
  related_append (x ∷ xs) ys h k l = (all_append (R x) xs ys h.0 l.0, related_append xs ys h.1 k l.1)

  related_all : (xs : List B) (bs : List A) → All (λ b. AllRelated R xs (g b)) bs → AllRelated R xs (flat_map g bs)
  related_all [] bs h = tt
  related_all (x ∷ xs) bs h = (
    all_flat_map (R x) g bs (all_map (λ b. AllRelated R (x ∷ xs) (g b)) (λ b. All (R x) (g b)) (λ b q. q.0) bs h),
    related_all xs bs (all_map (λ b. AllRelated R (x ∷ xs) (g b)) (λ b. AllRelated R xs (g b)) (λ b q. q.1) bs h),
  )

  -- each part is in order, and each part comes before all later ones
  pub pairwise_flat_map : (vs : List A) → All (λ a. Pairwise R (g a)) vs → Pairwise (λ a b. AllRelated R (g a) (g b)) vs → Pairwise R (flat_map g vs)
  unfolding flat_map
  pairwise_flat_map [] h k = tt
  pairwise_flat_map (a ∷ vs) h k = related_append (g a) (flat_map g vs) h.0 (pairwise_flat_map vs h.1 k.1) (related_all (g a) vs k.0)

-- what some part has, the whole has
pub member-flat_map : {A : Type 0} (x : ℕ) (g : A → List ℕ) (vs : List A) → 0 < length (keep (λ a. member x (g a)) vs) → member x (flat_map g vs) ≡ true
unfolding flat_map
member-flat_map x g [] h = absurd (omega arith)
member-flat_map x g (a ∷ vs) h =
    member-append x (g a) (flat_map g vs)
    ∙ by_test (member x (g a))
    (λ e. or_true_left (member x (g a)) _ e)
    (λ e. or_true_right (member x (g a)) _ (member-flat_map x g vs (rw e at h)))

-- where no part is empty, there are no more parts than elements in all
pub length-flat_map-some : {A B : Type 0} (g : A → List B) (vs : List A) → All (λ a. 0 < length (g a)) vs → length vs ≤ length (flat_map g vs)
unfolding flat_map
length-flat_map-some g [] h = omega arith
length-flat_map-some g (a ∷ vs) h = omega (arith, length-flat_map-some g vs h.1, h.0, length-append (g a) (flat_map g vs))

-- where each part has at most so many, or one more if it passes a test, the whole has at most so many for each part, and one for each that passes
pub length-flat_map_most : {A B : Type 0} (g : A → List B) (f : A → Bool) (m : ℕ) (vs : List A) → All (λ a. length (g a) ≤ cond (f a) (suc m) m) vs
    → length (flat_map g vs) ≤ m * length vs + length (keep f vs)
unfolding flat_map
length-flat_map_most g f m [] h = omega arith
length-flat_map_most g f m (a ∷ vs) h =
    let all = length-append (g a) (flat_map g vs) in
    let rest = length-flat_map_most g f m vs h.1 in
    let times = mul-suc m (length vs) in
    by_test (f a) (λ e. let here = rw e at h.0 in rw e (omega arith)) (λ e. let here = rw e at h.0 in rw e (omega arith))

-- where all parts are equally long
pub length-flat_map_each : {A B : Type 0} (g : A → List B) (n : ℕ) → ((a : A) → length (g a) ≡ n) → (vs : List A) → length (flat_map g vs) ≡ n * length vs
unfolding flat_map
length-flat_map_each g n each [] = sym (mul-zero n)
length-flat_map_each g n each (a ∷ vs) =
    length-append (g a) (flat_map g vs) ∙ omega (arith, each a, length-flat_map_each g n each vs, mul-suc n (length vs))

-- where each part has a head of so many, and the parts of what it holds
pub length-flat_map_headed : {A B C : Type 0} (g : A → List C) (head : ℕ) (part : B → List C) (held : B → List A)
    → ((b : B) → length (part b) ≡ head + length (flat_map g (held b))) → (bs : List B) → length (flat_map part bs) ≡ head * length bs + length (flat_map g (flat_map held bs))
unfolding flat_map
length-flat_map_headed g head part held sized [] = omega (arith, mul-zero head)
length-flat_map_headed g head part held sized (b ∷ bs) =
    omega (
      arith,
      ap length (flat_map-append g (held b) (flat_map held bs)),
      length-append (flat_map g (held b)) (flat_map g (flat_map held bs)),
      length-append (part b) (flat_map part bs),
      sized b,
      length-flat_map_headed g head part held sized bs,
      mul-suc head (length bs),
    )

-- a part is no longer than all of them
pub length-flat_map_part : {A B : Type 0} (g : A → List B) (vs : List A) → All (λ a. length (g a) ≤ length (flat_map g vs)) vs
unfolding flat_map
length-flat_map_part g [] = tt
length-flat_map_part g (a ∷ vs) =
    let both = length-append (g a) (flat_map g vs) in (
      omega arith,
      all_map (λ b. length (g b) ≤ length (flat_map g vs)) (λ b. length (g b) ≤ length (g a ++ flat_map g vs)) (λ b h. omega arith) vs (length-flat_map_part g vs),
    )

pub flat_map_mapped : {A B C : Type 0} (g : B → List C) (f : A → B) (xs : List A) → flat_map g (map f xs) ≡ flat_map (λ x. g (f x)) xs
unfolding flat_map
flat_map_mapped g f [] = refl
flat_map_mapped {C = C} g f (x ∷ xs) = ap (λ (ys : List C). g (f x) ++ ys) (flat_map_mapped g f xs)

pub length_falling : (n : ℕ) → length (falling_from n) ≡ n
length_falling zero = refl
length_falling (suc n) = ap suc (length_falling n)

pub falling_within : (n : ℕ) → All (λ i. (1 ≤ i) × (i ≤ n)) (falling_from n)
falling_within zero = tt
falling_within (suc n) = (omega arith, all_map (λ i. (1 ≤ i) × (i ≤ n)) (λ i. (1 ≤ i) × (i ≤ suc n)) (λ i h. omega arith) (falling_from n) (falling_within n))

pub falling_falls : (n : ℕ) → Pairwise (λ i j. j < i) (falling_from n)
falling_falls zero = tt
falling_falls (suc n) = (all_map (λ i. (1 ≤ i) × (i ≤ n)) (λ i. i < suc n) (λ i h. omega arith) (falling_from n) (falling_within n), falling_falls n)

module _ {B : Type 0} (g : ℕ → List B) where
  -- of the falling numbers below j none is j
  pub flat_map_none : (j n : ℕ) → n < j → flat_map (λ i. cond (eqb j i) (g i) []) (falling_from n) ≡ []
  unfolding flat_map
  flat_map_none j zero h = refl
  flat_map_none j (suc n) h = rw (ne_eqb j (suc n) (λ e. omega arith)) (flat_map_none j n (omega arith))

  -- of the falling numbers from j or above one is j
  pub flat_map_one : (j n : ℕ) → 1 ≤ j → j ≤ n → flat_map (λ i. cond (eqb j i) (g i) []) (falling_from n) ≡ g j
  unfolding flat_map
  flat_map_one j zero l h = absurd (omega arith)
  flat_map_one j (suc n) l h =
      by_test (eqb j (suc n))
      (λ e. rw e (ap (λ ys. g (suc n) ++ ys) (flat_map_none j n (let q = eqb-true j (suc n) e in omega arith)) ∙ append-nil (g (suc n)) ∙ ap g (sym (eqb-true j (suc n) e))))
      (λ e. let d : j ≢ suc n = eqb-false j (suc n) e in rw e (flat_map_one j n l (omega arith)))

-- of what a rising list is mapped to, the test that passes at one number keeps that one
pub keep_one : {B : Type 0} (f : B → Bool) (g : ℕ → B) (z : ℕ) (vs : List ℕ) → Rising vs → member z vs ≡ true → ((v : ℕ) → f (g v) ≡ eqb z v) → keep f (map g vs) ≡ g z ∷ []
keep_one f g z [] s m t = absurd (true_or_false false m refl)
keep_one {B} f g z (v ∷ vs) s m t =
    by_test (eqb z v)
    (λ e.
    let q = eqb-true z v e in
    rw (t v ∙ e)
    (ap₂ (λ (b : B) (bs : List B). b ∷ bs) (ap g (sym q))
    (keep_none f (map g vs) (all_mapped (λ b. f b ≡ false) g vs (all_map (λ w. v < w) (λ w. f (g w) ≡ false) (λ w (h : v < w). t w ∙ ne_eqb z w (λ i. omega arith)) vs s.0)))))
    (λ e.
    rw (t v ∙ e)
    (keep_one f g z vs s.1 (⊎_elim (λ i. absurd (true_or_false (eqb z v) i e)) (λ i. i) (or_true_cases (eqb z v) (member z vs) m)) t))
