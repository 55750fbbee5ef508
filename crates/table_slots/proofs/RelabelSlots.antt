-- Keys renamed in their order, priorities and homes kept: the slots are renamed. Assumes that no key is zero, before or after.
use mathlib.Core.Bool.{Bool, true}
use mathlib.Core.List.Permᴰ
use mathlib.Core.List.{List, [], ◌∷◌, map}
use mathlib.Core.Logic.{◌≢◌}
use mathlib.Core.Path.{◌≡◌, refl, sym, ap, ap₂, ◌∙◌, fun_ext}
use Prim.Native.Nat.{ℕ, zero, suc}
use lib.Dec.{eqb}
use lib.ListN.{length, get_or, set, replicate, length-map, get_or-map}
use borrow.Author.Tests.{ne_eqb}
use Rattle.lists.specs.Lists.{member, first, sort_by, All, Rising}
use Rattle.lists.proofs.Keep.{all_map, all_anywhere, all_set}
use Rattle.lists.proofs.Membership.{all_of_members}
use Rattle.lists.proofs.Sorting.{all_permuted, sort_by_permutes}
use Rattle.lists.proofs.Renamed.{map-set, sort_renamed}
use Rattle.treap.specs.Treap.{outranks}
use Rattle.treap.specs.Slots.{probes, first_empty, place_all, slots_of}
use Rattle.treap_structure.proofs.Relabel.{Renames, same_outranks}

-- ---- placing
module _ (f home : ℕ → ℕ) (nothing : f 0 ≡ 0) where
  -- A number that the renaming keeps zero or keeps from being zero.
  Faithful : ℕ → Type 0
  Faithful x = eqb (f x) 0 ≡ eqb x 0

  renamed_empty : (s : List ℕ) (h : ℕ) → All Faithful s → first_empty (map f s) h ≡ first_empty s h
  unfolding first_empty Faithful
  renamed_empty s h a =
      ap (λ (n : ℕ). first n (λ i. eqb (get_or (map f s) i 0) 0) (probes n h)) (length-map s f)
      ∙ ap (λ (t : ℕ → Bool). first (length s) t (probes (length s) h))
      (fun_ext (λ i. ap (λ (z : ℕ). eqb (get_or (map f s) i z) 0) (sym nothing) ∙ ap (λ (z : ℕ). eqb z 0) (get_or-map f s i 0) ∙ all_anywhere Faithful s i 0 (ap (λ (z : ℕ). eqb z 0) nothing) a))

  renamed_place : (s xs : List ℕ) → All Faithful s → All Faithful xs → place_all home (map f s) (map f xs) ≡ map f (place_all (λ i. home (f i)) s xs)
  renamed_place s [] a b = refl
  renamed_place s (x ∷ xs) a b =
      let at = first_empty s (home (f x)) in
      ap (λ (n : ℕ). place_all home (set (map f s) n (f x)) (map f xs)) (renamed_empty s (home (f x)) a)
      ∙ ap (λ (t : List ℕ). place_all home t (map f xs)) (sym (map-set f s at x))
      ∙ renamed_place (set s at x) xs (all_set Faithful s at x b.0 a) b.1

  blank : (many : ℕ) → (map f (replicate many 0) ≡ replicate many 0) × All Faithful (replicate many 0)
  unfolding Faithful
  blank zero = (refl, tt)
  blank (suc many) =
      let rest = blank many in
      (ap₂ (λ (x : ℕ) (xs : List ℕ). x ∷ xs) nothing rest.0, (ap (λ (z : ℕ). eqb z 0) nothing, rest.1))

  pub renamed_slots : (p q : ℕ → ℕ) (is : List ℕ) → Renames f p q is → Rising is → All (λ i. (i ≢ 0) × (f i ≢ 0)) is → (many : ℕ)
      → slots_of p home many (map f is) ≡ map f (slots_of q (λ i. home (f i)) many is)
  unfolding slots_of Faithful
  renamed_slots p q is r rising apart many =
      let clear = blank many in
      let ordered = sort_by (outranks q) is in
      ap₂ (λ (s xs : List ℕ). place_all home s xs) (sym clear.0)
      (sort_renamed f (outranks p) (outranks q) (λ i. member i is ≡ true) (λ x y m n. same_outranks f p q is r rising x y m n) is (all_of_members (λ i. member i is ≡ true) is (λ i m. m)))
      ∙ renamed_place (replicate many 0) ordered clear.1
      (all_map (λ i. (i ≢ 0) × (f i ≢ 0)) Faithful (λ i d. ne_eqb (f i) 0 d.1 ∙ sym (ne_eqb i 0 d.0)) ordered (all_permuted (λ i. (i ≢ 0) × (f i ≢ 0)) (Permᴰ.symm (sort_by_permutes (outranks q) is)) apart))
