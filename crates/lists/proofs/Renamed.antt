-- Lists whose elements are renamed by a map: stores and sorting. Assumes nothing.
use mathlib.Core.Bool.{Bool, true, false, cond}
use mathlib.Core.List.Permᴰ
use mathlib.Core.List.{List, [], ◌∷◌, map}
use mathlib.Core.Path.{◌≡◌, refl, ap, ap₂, ◌∙◌}
use Prim.Native.Nat.{ℕ, zero, suc}
use lib.ListN.{set}
use Rattle.lists.specs.Lists.{insert_by, sort_by, All}
use Rattle.lists.proofs.Keep.{all_map}
use Rattle.lists.proofs.Sorting.{all_permuted, sort_by_permutes}

-- a map after a store
pub map-set : (f : ℕ → ℕ) (xs : List ℕ) (i x : ℕ) → map f (set xs i x) ≡ set (map f xs) i (f x)
map-set f [] i x = refl
map-set f (y ∷ ys) zero x = refl
map-set f (y ∷ ys) (suc i) x = ap (λ (zs : List ℕ). f y ∷ zs) (map-set f ys i x)

-- ---- sorting
insert_renamed : (f : ℕ → ℕ) (b c : ℕ → ℕ → Bool) (x : ℕ) (ys : List ℕ) → All (λ y. b (f x) (f y) ≡ c x y) ys → insert_by b (f x) (map f ys) ≡ map f (insert_by c x ys)
insert_renamed f b c x [] h = refl
insert_renamed f b c x (y ∷ ys) h =
    ap₂ (λ (t : Bool) (zs : List ℕ). cond t (f x ∷ f y ∷ map f ys) (f y ∷ zs)) h.0 (insert_renamed f b c x ys h.1) ∙ pick (c x y)
  where
    pick : (t : Bool) → cond t (f x ∷ f y ∷ map f ys) (f y ∷ map f (insert_by c x ys)) ≡ map f (cond t (x ∷ y ∷ ys) (y ∷ insert_by c x ys))
    pick true = refl
    pick false = refl

pub sort_renamed : (f : ℕ → ℕ) (b c : ℕ → ℕ → Bool) (P : ℕ → Type 0) → ((x y : ℕ) → P x → P y → b (f x) (f y) ≡ c x y) → (xs : List ℕ) → All P xs → sort_by b (map f xs) ≡ map f (sort_by c xs)
sort_renamed f b c P e [] h = refl
sort_renamed f b c P e (x ∷ xs) h =
    ap (insert_by b (f x)) (sort_renamed f b c P e xs h.1)
    ∙ insert_renamed f b c x (sort_by c xs) (all_map P (λ y. b (f x) (f y) ≡ c x y) (λ y q. e x y h.0 q) (sort_by c xs) (all_permuted P (Permᴰ.symm (sort_by_permutes c xs)) h.1))
