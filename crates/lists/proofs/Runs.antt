-- Laws of `runs`, the maximal runs of neighbours that are alike, and of lists flattened. Assumes nothing.
use mathlib.Core.Bool.{Bool, true, false, cond}
use mathlib.Core.List.{List, [], ◌∷◌, ◌++◌, flat_map, append-nil}
use mathlib.Core.Path.{◌≡◌, refl, sym, ap, ◌∙◌}
use Prim.Native.Nat.{◌<◌}
use native.Mathlib.Omega.{arith}
use lib.ListN.{length}
use Rattle.lists.specs.Lists.{All, Pairwise, join_run, runs}
use Rattle.lists.proofs.Keep.{all_append}

module _ {A : Type 0} (alike : A → A → Bool) where
  -- The two are alike; they are not.
  abbrev pub Alike : A → A → Type 0
  Alike x y = alike x y ≡ true

  abbrev pub Apart : A → A → Type 0
  Apart x y = alike x y ≡ false

  -- every element of the one list is apart from every one of the other
  abbrev pub AllApart : List A → List A → Type 0
  AllApart xs ys = All (λ x. All (Apart x) ys) xs

  -- the runs of a list that begins with y begin with a run that begins with y
  runs_begin : (y : A) (ys : List A) → (r : List A) × (rs : List (List A)) × (runs alike (y ∷ ys) ≡ (y ∷ r) ∷ rs)
  runs_begin y ys = go (runs alike ys)
    where
      go : (rs : List (List A)) → (r : List A) × (more : List (List A)) × (join_run alike y rs ≡ (y ∷ r) ∷ more)
      go [] = ([], [], refl)
      go ([] ∷ rs) = ([], rs, refl)
      go ((z ∷ r) ∷ rs) = by (alike y z)
        where
          by : (b : Bool) → (s : List A) × (more : List (List A)) × (cond b ((y ∷ z ∷ r) ∷ rs) ((y ∷ []) ∷ (z ∷ r) ∷ rs) ≡ (y ∷ s) ∷ more)
          by true = (z ∷ r, rs, refl)
          by false = ([], (z ∷ r) ∷ rs, refl)

  -- one element in front: it joins the first run where it is like that run's first, else it is a run by itself
  pub runs_joined : (x y : A) (r : List A) (rs : List (List A)) → Alike x y → join_run alike x ((y ∷ r) ∷ rs) ≡ (x ∷ y ∷ r) ∷ rs
  runs_joined x y r rs e = rw e

  pub runs_parted : (x : A) (ys : List A) → All (Apart x) ys → runs alike (x ∷ ys) ≡ (x ∷ []) ∷ runs alike ys
  runs_parted x [] h = refl
  runs_parted x (y ∷ ys) h =
      let (r, rs, e) = runs_begin y ys in
      ap (join_run alike x) e ∙ rw h.0 (ap (λ (zs : List (List A)). (x ∷ []) ∷ zs) (sym e))

  -- a run, then what is apart from it
  pub runs-first : (x : A) (xs ys : List A) → Pairwise Alike (x ∷ xs) → AllApart (x ∷ xs) ys → runs alike ((x ∷ xs) ++ ys) ≡ (x ∷ xs) ∷ runs alike ys
  runs-first x [] ys h d = runs_parted x ys d.0
  runs-first x (z ∷ xs) ys h d =
      ap (join_run alike x) (runs-first z xs ys h.1 d.1) ∙ runs_joined x z xs (runs alike ys) h.0.0

  pub runs_alone : (x : A) (xs : List A) → Pairwise Alike (x ∷ xs) → runs alike (x ∷ xs) ≡ (x ∷ xs) ∷ []
  runs_alone x xs h = ap (runs alike) (sym (append-nil (x ∷ xs))) ∙ runs-first x xs [] h (nothing (x ∷ xs))
    where
      nothing : (zs : List A) → AllApart zs []
      nothing [] = tt
      nothing (z ∷ zs) = (tt, nothing zs)

  apart_append : (r : List A) (rs : List (List A)) → All (AllApart r) rs → AllApart r (flat_map (λ s. s) rs)
  unfolding flat_map
  apart_append [] rs h = tt
  apart_append (x ∷ r) rs h = (each rs h, apart_append r rs (firsts rs h))
    where
      each : (ss : List (List A)) → All (AllApart (x ∷ r)) ss → All (Apart x) (flat_map (λ s. s) ss)
      each [] k = tt
      each (s ∷ ss) k = all_append (Apart x) s (flat_map (λ t. t) ss) k.0.0 (each ss k.1)

      firsts : (ss : List (List A)) → All (AllApart (x ∷ r)) ss → All (AllApart r) ss
      firsts [] k = tt
      firsts (s ∷ ss) k = (k.0.1, firsts ss k.1)

  -- lists, none of them empty, each of elements alike, and any two apart, are the runs of all their elements
  pub runs_of_parts : (rs : List (List A)) → All (λ r. 0 < length r) rs → All (Pairwise Alike) rs → Pairwise AllApart rs → runs alike (flat_map (λ r. r) rs) ≡ rs
  unfolding flat_map
  runs_of_parts [] some same apart = refl
  runs_of_parts ([] ∷ rs) some same apart = absurd (omega arith)
  runs_of_parts ((x ∷ xs) ∷ rs) some same apart =
      runs-first x xs (flat_map (λ r. r) rs) same.0 (apart_append (x ∷ xs) rs apart.0)
      ∙ ap (λ (zs : List (List A)). (x ∷ xs) ∷ zs) (runs_of_parts rs some.1 same.1 apart.1)

  -- ---- for a loop that takes run after run
  -- The list does not go on with an element like this one.
  abbrev pub NotFirst : A → List A → Type 0
  NotFirst x [] = Unit {0}
  NotFirst x (y ∷ ys) = Apart x y

  joined_before : (x : A) (rs more : List (List A)) → 0 < length rs → join_run alike x (rs ++ more) ≡ join_run alike x rs ++ more
  joined_before x [] more h = absurd (omega arith)
  joined_before x ([] ∷ rs) more h = refl
  joined_before x ((y ∷ r) ∷ rs) more h = by (alike x y)
    where
      by : (b : Bool) → cond b ((x ∷ y ∷ r) ∷ (rs ++ more)) ((x ∷ []) ∷ (y ∷ r) ∷ (rs ++ more)) ≡ cond b ((x ∷ y ∷ r) ∷ rs) ((x ∷ []) ∷ (y ∷ r) ∷ rs) ++ more
      by true = refl
      by false = refl

  some_runs : (x : A) (ys : List A) → 0 < length (runs alike (x ∷ ys))
  some_runs x ys = let (r, rs, e) = runs_begin x ys in rw e (omega arith)

  -- a new run begins where the last element so far and the next one are not alike
  pub runs_append : (xs : List A) (x : A) (ys : List A) → NotFirst x ys → runs alike ((xs ++ (x ∷ [])) ++ ys) ≡ runs alike (xs ++ (x ∷ [])) ++ runs alike ys
  runs_append [] x [] d = refl
  runs_append [] x (y ∷ ys) d =
      let (r, rs, e) = runs_begin y ys in
      ap (join_run alike x) e ∙ rw d (ap (λ (zs : List (List A)). (x ∷ []) ∷ zs) (sym e))
  runs_append (z ∷ xs) x ys d =
      ap (join_run alike z) (runs_append xs x ys d)
      ∙ joined_before z (runs alike (xs ++ (x ∷ []))) (runs alike ys) (some_end xs)
    where
      some_end : (zs : List A) → 0 < length (runs alike (zs ++ (x ∷ [])))
      some_end [] = omega arith
      some_end (w ∷ ws) = some_runs w (ws ++ (x ∷ []))

  module _ (similar : (x y z : A) → Alike x y → alike x z ≡ alike y z) where
    -- where what is alike is alike to the same: as long as elements are like the run's first, they belong to the run
    pub runs_next : (x : A) (xs ys : List A) → All (Alike x) xs → NotFirst x ys → runs alike ((x ∷ xs) ++ ys) ≡ (x ∷ xs) ∷ runs alike ys
    runs_next x [] ys h d = runs_append [] x ys d
    runs_next x (z ∷ zs) ys h d =
        ap (join_run alike x) (runs_next z zs ys (all_like zs h.1) (not_first ys d)) ∙ runs_joined x z zs (runs alike ys) h.0
      where
        all_like : (ws : List A) → All (Alike x) ws → All (Alike z) ws
        all_like [] k = tt
        all_like (w ∷ ws) k = (sym (similar x z w h.0) ∙ k.0, all_like ws k.1)

        not_first : (ws : List A) → NotFirst x ws → NotFirst z ws
        not_first [] k = tt
        not_first (w ∷ ws) k = sym (similar x z w h.0) ∙ k
