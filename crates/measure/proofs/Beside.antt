-- The measures of lengths and corrections, one of each for a measure: tested and tagged one after the other. Assumes nothing.
use mathlib.Core.Bool.{true, ◌&&◌}
use mathlib.Core.List.{List, [], ◌∷◌, ◌++◌, map}
use mathlib.Core.Path.{◌≡◌, refl, sym, ap, ◌∙◌}
use Prim.Native.Nat.{ℕ, zero, suc, ◌≤◌, ◌<◌}
use native.Mathlib.Omega.{arith}
use lib.Dec.{eqb}
use lib.IntN.{ℤ, pos}
use lib.ListN.{length, get_or, set, take, drop, length-map, get_or-map, drop_of_length-le}
use lib.Seq.{length-take-le, take-length, take-suc, drop-cons}
use borrow.Author.Tests.{eqb-true}
use Rattle.lists.specs.Lists.{every, overwrite}
use Rattle.lists.proofs.Tests.{and_left, and_right}
use Rattle.lists.proofs.Keep.{every_says, all_at}
use Rattle.lists.proofs.Start.{overwrite_start_next}
use Rattle.measure.specs.Measure.{Measure, unmeasured, is_measure, measures_beside, are_measured}
use Rattle.measure.specs.Tag.{tag_of}
use Rattle.measure.proofs.Tags.{unmeasured_tag}

-- The measure at an index.
abbrev pub entry : List ℕ → List ℤ → ℕ → Measure
entry ls zs i = record { length = get_or ls i 0; correction = get_or zs i (pos 0) }

-- The tags of the measures.
abbrev pub tags_beside : List ℕ → List ℤ → List ℕ
tags_beside ls zs = map tag_of (measures_beside ls zs)

pub length_beside : (ls : List ℕ) (zs : List ℤ) → length zs ≡ length ls → length (measures_beside ls zs) ≡ length ls
length_beside [] zs e = refl
length_beside (l ∷ ls) [] e = e
length_beside (l ∷ ls) (z ∷ zs) e = ap suc (length_beside ls zs (omega arith))

pub beside_at : (ls : List ℕ) (zs : List ℤ) → length zs ≡ length ls → (i : ℕ) → get_or (measures_beside ls zs) i unmeasured ≡ entry ls zs i
beside_at [] [] e i = refl
beside_at [] (z ∷ zs) e i = absurd (omega arith)
beside_at (l ∷ ls) [] e i = absurd (omega arith)
beside_at (l ∷ ls) (z ∷ zs) e zero = refl
beside_at (l ∷ ls) (z ∷ zs) e (suc i) = beside_at ls zs (omega arith) i

module _ (ls : List ℕ) (zs : List ℤ) (same : length zs ≡ length ls) where
  -- ---- tested
  pub beside_next : (i : ℕ) → i < length ls → every is_measure (drop i (measures_beside ls zs)) ≡ (is_measure (entry ls zs i) && every is_measure (drop (suc i) (measures_beside ls zs)))
  beside_next i h =
      ap (every is_measure) (drop-cons (measures_beside ls zs) i unmeasured (omega (arith, length_beside ls zs same)))
      ∙ ap (λ (m : Measure). is_measure m && every is_measure (drop (suc i) (measures_beside ls zs))) (beside_at ls zs same i)

  pub beside_end : (i : ℕ) → length ls ≤ i → every is_measure (drop i (measures_beside ls zs)) ≡ true
  beside_end i h = ap (every is_measure) (drop_of_length-le (measures_beside ls zs) {i = i} (omega (arith, length_beside ls zs same)))

  pub entry_right : every is_measure (measures_beside ls zs) ≡ true → (i : ℕ) → i < length ls → is_measure (entry ls zs i) ≡ true
  entry_right all i h =
      ap is_measure (sym (beside_at ls zs same i))
      ∙ all_at (λ m. is_measure m ≡ true) (measures_beside ls zs) i unmeasured (every_says is_measure (measures_beside ls zs) all) (omega (arith, length_beside ls zs same))

  -- ---- tagged
  pub length_tags : length (tags_beside ls zs) ≡ length ls
  length_tags = length-map (measures_beside ls zs) tag_of ∙ length_beside ls zs same

  pub tag_at : (i : ℕ) → get_or (tags_beside ls zs) i 0 ≡ tag_of (entry ls zs i)
  tag_at i =
      ap (get_or (tags_beside ls zs) i) (sym unmeasured_tag)
      ∙ get_or-map tag_of (measures_beside ls zs) i unmeasured
      ∙ ap tag_of (beside_at ls zs same i)

  module _ (before : List ℕ) (room : length ls ≤ length before) where
    -- `before` with the tags of the first `i` at its start.
    abbrev pub tagged : ℕ → List ℕ
    tagged i = overwrite before 0 (take i (tags_beside ls zs))

    few : (i : ℕ) → i ≤ length ls → length (take i (tags_beside ls zs)) ≡ i
    few i h = length-take-le i (tags_beside ls zs) (omega (arith, length_tags))

    pub tagged_next : (i : ℕ) → i < length ls → set (tagged i) i (tag_of (entry ls zs i)) ≡ tagged (suc i)
    tagged_next i h =
        let long = few i (omega arith) in
        let new = take i (tags_beside ls zs) in
        let x = tag_of (entry ls zs i) in
        ap (λ (k : ℕ). set (tagged i) k x) (sym long)
        ∙ overwrite_start_next before new x (omega arith)
        ∙ ap (λ (y : ℕ). overwrite before 0 (new ++ (y ∷ []))) (sym (tag_at i))
        ∙ ap (overwrite before 0) (sym (take-suc (tags_beside ls zs) i 0 (omega (arith, length_tags))))

    pub tagged_all : (i : ℕ) → i ≡ length ls → tagged i ≡ overwrite before 0 (tags_beside ls zs)
    tagged_all i e =
        ap tagged (e ∙ sym length_tags) ∙ ap (overwrite before 0) (take-length (tags_beside ls zs))

-- ---- for so many keys
pub measured_says : (n : ℕ) (lengths : List ℕ) (corrections : List ℤ) → are_measured n lengths corrections ≡ true
    → (length lengths ≡ n) × (length corrections ≡ length lengths) × (every is_measure (measures_beside lengths corrections) ≡ true)
measured_says n lengths corrections h =
    let right = every is_measure (measures_beside lengths corrections) in
    let rest = and_right (eqb (length lengths) n) (eqb (length corrections) n && right) h in
    let long = eqb-true (length lengths) n (and_left (eqb (length lengths) n) (eqb (length corrections) n && right) h) in
    let also = eqb-true (length corrections) n (and_left (eqb (length corrections) n) right rest) in
    (long, omega arith, and_right (eqb (length corrections) n) right rest)
