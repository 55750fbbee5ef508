-- Runs of renamed elements, and orders by renamed numbers. Assumes that the tests agree on the elements.
use mathlib.Core.Bool.{Bool, true, false, cond, ◌||◌, ◌&&◌}
use mathlib.Core.List.{List, [], ◌∷◌, map}
use mathlib.Core.Path.{◌≡◌, refl, sym, ap, ap₂, ◌∙◌}
use Prim.Native.Nat.{ℕ, ◌<◌, ◌≤◌}
use native.Mathlib.Omega.{arith}
use lib.Dec.{eqb, ltb}
use lib.ListN.{length}
use borrow.Author.Tests.{lt-ltb, le-ltb, eq-eqb, ne_eqb}
use Rattle.lists.specs.Lists.{All, join_run, runs}
use Rattle.lists.proofs.Tests.{Compared, compared}
use Rattle.lists.proofs.Tests.Compared.{less, same, more}
use Rattle.lists.proofs.Precedence.{precedes, agree}

-- ---- the elements of runs are those of the list, and no run is empty
module _ (alike : ℕ → ℕ → Bool) (P : ℕ → Type 0) where
  -- A run of such elements, not empty.
  abbrev pub Run : List ℕ → Type 0
  Run r = (0 < length r) × All P r

  joined_all : (x : ℕ) (rs : List (List ℕ)) → P x → All Run rs → All Run (join_run alike x rs)
  joined_all x [] h a = ((omega arith, (h, tt)), tt)
  joined_all x ([] ∷ rs) h a = ((omega arith, (h, tt)), a.1)
  joined_all x ((y ∷ r) ∷ rs) h a = by (alike x y)
    where
      by : (b : Bool) → All Run (cond b ((x ∷ y ∷ r) ∷ rs) ((x ∷ []) ∷ (y ∷ r) ∷ rs))
      by true = ((omega arith, (h, a.0.1)), a.1)
      by false = ((omega arith, (h, tt)), a)

  pub runs_all : (xs : List ℕ) → All P xs → All Run (runs alike xs)
  runs_all [] h = tt
  runs_all (x ∷ xs) h = joined_all x (runs alike xs) h.0 (runs_all xs h.1)

-- ---- runs of what the elements are renamed to
module _ (f : ℕ → ℕ) (b c : ℕ → ℕ → Bool) (P : ℕ → Type 0) (agrees : (x y : ℕ) → P x → P y → b (f x) (f y) ≡ c x y) where
  joined_renamed : (x : ℕ) (rs : List (List ℕ)) → P x → All (Run c P) rs → join_run b (f x) (map (map f) rs) ≡ map (map f) (join_run c x rs)
  joined_renamed x [] h a = refl
  joined_renamed x ([] ∷ rs) h a = refl
  joined_renamed x ((y ∷ r) ∷ rs) h a =
      ap (λ (t : Bool). cond t ((f x ∷ f y ∷ map f r) ∷ map (map f) rs) ((f x ∷ []) ∷ (f y ∷ map f r) ∷ map (map f) rs)) (agrees x y h a.0.1.0) ∙ pick (c x y)
    where
      pick : (t : Bool) → cond t ((f x ∷ f y ∷ map f r) ∷ map (map f) rs) ((f x ∷ []) ∷ (f y ∷ map f r) ∷ map (map f) rs)
          ≡ map (map f) (cond t ((x ∷ y ∷ r) ∷ rs) ((x ∷ []) ∷ (y ∷ r) ∷ rs))
      pick true = refl
      pick false = refl

  pub runs_renamed : (xs : List ℕ) → All P xs → runs b (map f xs) ≡ map (map f) (runs c xs)
  runs_renamed [] h = refl
  runs_renamed (x ∷ xs) h = ap (join_run b (f x)) (runs_renamed xs h.1) ∙ joined_renamed x (runs c xs) h.0 (runs_all c P xs h.1)

-- ---- a renaming that rises up to a number keeps the tests
module _ (f : ℕ → ℕ) (n : ℕ) (rises : (i j : ℕ) → i < j → j ≤ n → f i < f j) (i j : ℕ) (h : i ≤ n) (k : j ≤ n) where
  pub renamed_less : ltb (f i) (f j) ≡ ltb i j
  renamed_less = go (compared i j)
    where
      go : Compared i j → ltb (f i) (f j) ≡ ltb i j
      go (less a b c l) = lt-ltb (f i) (f j) (rises i j l k) ∙ sym b
      go (same a b c e) = ap (λ (m : ℕ). ltb (f i) (f m)) (sym e) ∙ le-ltb (f i) (f i) (omega arith) ∙ sym b
      go (more a b c l) = le-ltb (f i) (f j) (let r = rises j i l h in omega arith) ∙ sym b

  pub renamed_same : eqb (f i) (f j) ≡ eqb i j
  renamed_same = go (compared i j)
    where
      go : Compared i j → eqb (f i) (f j) ≡ eqb i j
      go (less a b c l) = ne_eqb (f i) (f j) (λ e. let r = rises i j l k in omega arith) ∙ sym a
      go (same a b c e) = eq-eqb (f i) (f j) (ap f e) ∙ sym a
      go (more a b c l) = ne_eqb (f i) (f j) (λ e. let r = rises j i l h in omega arith) ∙ sym a

-- ---- orders by two numbers
module _ (f g u v : ℕ → ℕ) (x y i j : ℕ) (ex : f x ≡ u i) (ey : f y ≡ u j) (es : eqb (g x) (g y) ≡ eqb (v i) (v j)) where
  pub precedes_renamed : ltb (g x) (g y) ≡ ltb (v i) (v j) → ltb x y ≡ ltb i j → precedes f g x y ≡ precedes u v i j
  unfolding precedes
  precedes_renamed el e =
      ap₂ (λ (a b : ℕ). ltb b a || (eqb a b && (ltb (g x) (g y) || (eqb (g x) (g y) && ltb x y)))) ex ey
      ∙ ap₂ (λ (s t : Bool). ltb (u j) (u i) || (eqb (u i) (u j) && (s || (t && ltb x y)))) el es
      ∙ ap (λ (t : Bool). ltb (u j) (u i) || (eqb (u i) (u j) && (ltb (v i) (v j) || (eqb (v i) (v j) && t)))) e

  pub agree_renamed : agree f g x y ≡ agree u v i j
  unfolding agree
  agree_renamed = ap₂ (λ (a b : ℕ). eqb a b && eqb (g x) (g y)) ex ey ∙ ap (λ (t : Bool). eqb (u i) (u j) && t) es
