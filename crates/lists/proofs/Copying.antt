-- Loops that count the elements of a list that pass a test, or copy them to the start of an output, one element at a time.
-- Assumes nothing.
use mathlib.Core.Bool.{Bool, true, false}
use mathlib.Core.List.{List, [], ◌∷◌, ◌++◌, append-nil}
use mathlib.Core.Path.{◌≡◌, refl, sym, ap, ◌∙◌}
use Prim.Native.Nat.{ℕ, suc, ◌≤◌, ◌<◌}
use native.Mathlib.Omega.{arith}
use lib.ListN.{length, get_or, set, take, drop, length-append, length-take, take-append-drop}
use lib.Seq.{take-suc, take-take}
use Rattle.lists.specs.Lists.{keep, overwrite}
use Rattle.lists.proofs.Keep.{keep_append, length-keep}
use Rattle.lists.proofs.Overwrite.{overwrite_none, overwrite-length}
use Rattle.lists.proofs.Start.{overwrite_start_next}

-- Those of the first `i` elements that pass the test, in their order.
abbrev pub kept : (ℕ → Bool) → List ℕ → ℕ → List ℕ
kept f xs i = keep f (take i xs)

module _ (f : ℕ → Bool) (xs : List ℕ) where
  pub kept_none : kept f xs 0 ≡ []
  kept_none = refl

  kept_next : (i : ℕ) → i < length xs → kept f xs (suc i) ≡ kept f xs i ++ keep f (get_or xs i 0 ∷ [])
  kept_next i h = ap (keep f) (take-suc xs i 0 h) ∙ keep_append f (take i xs) (get_or xs i 0 ∷ [])

  pub kept_more : (i : ℕ) → i < length xs → f (get_or xs i 0) ≡ true → kept f xs (suc i) ≡ kept f xs i ++ (get_or xs i 0 ∷ [])
  kept_more i h e = kept_next i h ∙ ap (λ (ys : List ℕ). kept f xs i ++ ys) (rw e refl)

  pub kept_same : (i : ℕ) → i < length xs → f (get_or xs i 0) ≡ false → kept f xs (suc i) ≡ kept f xs i
  kept_same i h e = kept_next i h ∙ ap (λ (ys : List ℕ). kept f xs i ++ ys) (rw e refl) ∙ append-nil (kept f xs i)

  pub kept_longer : (i : ℕ) → i < length xs → f (get_or xs i 0) ≡ true → length (kept f xs (suc i)) ≡ suc (length (kept f xs i))
  kept_longer i h e = ap length (kept_more i h e) ∙ length-append (kept f xs i) (get_or xs i 0 ∷ []) ∙ omega arith

  pub kept_few : (i : ℕ) → length (kept f xs i) ≤ i
  kept_few i = omega (arith, length-keep f (take i xs), length-take i xs)

  -- of fewer elements no more pass
  pub kept_less : (i n : ℕ) → i ≤ n → length (kept f xs i) ≤ length (kept f xs n)
  kept_less i n h =
      let rest = keep f (drop i (take n xs)) in
      let parts : kept f xs n ≡ kept f xs i ++ rest =
      ap (keep f) (sym (take-append-drop i (take n xs)))
      ∙ keep_append f (take i (take n xs)) (drop i (take n xs))
      ∙ ap (λ (ys : List ℕ). keep f ys ++ rest) (take-take i n xs h)
      in
      omega (arith, ap length parts ∙ length-append (kept f xs i) rest)

-- ---- counting
-- Of the first `i` elements, of `n`, so many pass.
pub record Counted (f : ℕ → Bool) (xs : List ℕ) (n many i : ℕ) : Type 0 where
  pub upto : i ≤ n
  pub count : many ≡ length (kept f xs i)

pub counted_none : (f : ℕ → Bool) (xs : List ℕ) (n : ℕ) → Counted f xs n 0 0
counted_none f xs n = record { upto = omega arith; count = refl }

module _ {f : ℕ → Bool} {xs : List ℕ} {n many i : ℕ} (state : Counted f xs n many i) where
  pub counted_few : many ≤ i
  counted_few = let e = state.count in omega (arith, kept_few f xs i)

  pub counted_all : n ≤ i → many ≡ length (kept f xs n)
  counted_all h = let u = state.upto in let whole : i ≡ n = omega arith in state.count ∙ ap (λ (k : ℕ). length (kept f xs k)) whole

  -- a turn, with the element that it reads
  module _ (fit : n ≤ length xs) (x : ℕ) (here : x ≡ get_or xs i 0) (turn : i < n) where
    pub counted_more : f x ≡ true → Counted f xs n (suc many) (suc i)
    counted_more e = record { upto = turn; count = let c = state.count in omega (arith, kept_longer f xs i (omega arith) (ap f (sym here) ∙ e)) }

    pub counted_same : f x ≡ false → Counted f xs n many (suc i)
    counted_same e = record { upto = turn; count = state.count ∙ ap length (sym (kept_same f xs i (omega arith) (ap f (sym here) ∙ e))) }

-- ---- copying
-- Those stand at the start of `output`, `at` of them, and the rest is as it was before.
pub record Copied (f : ℕ → Bool) (xs before : List ℕ) (n : ℕ) (output : List ℕ) (at i : ℕ) : Type 0 where
  pub counted : Counted f xs n at i
  pub holds : output ≡ overwrite before 0 (kept f xs i)

pub copied_none : (f : ℕ → Bool) (xs before : List ℕ) (n : ℕ) → Copied f xs before n before 0 0
copied_none f xs before n = record { counted = counted_none f xs n; holds = sym (overwrite_none before 0) }

module _ {f : ℕ → Bool} {xs before output : List ℕ} {n at i : ℕ} (state : Copied f xs before n output at i) where
  pub copied_all : n ≤ i → output ≡ overwrite before 0 (kept f xs n)
  copied_all h =
      let u = state.counted.upto in
      let whole : i ≡ n = omega arith in
      state.holds ∙ ap (λ (k : ℕ). overwrite before 0 (kept f xs k)) whole

  -- with room for all of them
  module _ (room : length (kept f xs n) ≤ length before) where
    pub copied_size : length output ≡ length before
    copied_size =
        let u = state.counted.upto in
        ap length state.holds ∙ overwrite-length before 0 (kept f xs i) (omega (arith, kept_less f xs i n u))

    -- a turn, with the element that it reads
    module _ (fit : n ≤ length xs) (x : ℕ) (here : x ≡ get_or xs i 0) (turn : i < n) where
      -- there is room for one element more
      pub copied_room : f x ≡ true → at < length before
      copied_room e =
          let c = state.counted.count in
          omega (arith, kept_longer f xs i (omega arith) (ap f (sym here) ∙ e), kept_less f xs (suc i) n turn)

      pub copied_more : f x ≡ true → Copied f xs before n (set output at x) (suc at) (suc i)
      copied_more e =
          let ys = kept f xs i in
          let count = state.counted.count in
          record {
            counted = counted_more state.counted fit x here turn e;
            holds =
                ap (λ (l : List ℕ). set l at x) state.holds
                ∙ ap (λ (k : ℕ). set (overwrite before 0 ys) k x) count
                ∙ overwrite_start_next before ys x (omega (arith, copied_room e))
                ∙ ap (λ (y : ℕ). overwrite before 0 (ys ++ (y ∷ []))) here
                ∙ ap (overwrite before 0) (sym (kept_more f xs i (omega arith) (ap f (sym here) ∙ e)));
          }

      pub copied_same : f x ≡ false → Copied f xs before n output at (suc i)
      copied_same e =
          record {
            counted = counted_same state.counted fit x here turn e;
            holds = state.holds ∙ ap (overwrite before 0) (sym (kept_same f xs i (omega arith) (ap f (sym here) ∙ e)));
          }
