-- Positions stand for keys: `key_at` renames the positions of a rising list to its keys. Assumes rising keys, none of them zero.
use mathlib.Core.Bool.{true}
use mathlib.Core.List.{List, [], ◌∷◌, map, head-eq_of_cons-eq, tail-eq_of_cons-eq}
use mathlib.Core.Logic.{◌≢◌}
use mathlib.Core.Path.{◌≡◌, refl, sym, ap, ◌∙◌}
use Prim.Native.Nat.{ℕ, zero, suc, ◌+◌, ◌<◌, ◌≤◌}
use native.Mathlib.Omega.{arith}
use lib.ListN.{length, get_or, set}
use borrow.Author.Tests.{ne_eqb}
use Rattle.lists.specs.Lists.{member, All, Rising}
use Rattle.lists.proofs.Keep.{all_map, all_at, all_set}
use Rattle.lists.proofs.Membership.{all_member}
use Rattle.lists.proofs.Ordered.{pairwise_at}
use Rattle.lists.proofs.UpFrom.{up_from_within, mapped_at, mapped_up_from_all}
use Rattle.measure.specs.Tag.{measure_at}
use Rattle.treap.specs.Slots.{first_empty, place_all}
use Rattle.treap_structure.proofs.Relabel.{Renames}
use Rattle.treap_columns.specs.Positions.{positions, weight_at}
use Rattle.table.specs.Contents.{measure_in}
use Rattle.table.specs.Tags.{entries_tagged}
use Rattle.table.proofs.Tagged.{found_tagged}
use Rattle.table_encode.specs.Encode.{key_at}

-- ---- lists
-- functions with one map agree on the elements
pub maps_agree : (g h : ℕ → ℕ) (xs : List ℕ) → map g xs ≡ map h xs → All (λ x. g x ≡ h x) xs
maps_agree g h [] e = tt
maps_agree g h (x ∷ xs) e = (head-eq_of_cons-eq e, maps_agree g h xs (tail-eq_of_cons-eq e))

-- ---- keys by position
pub key_at_suc : (keys : List ℕ) (i : ℕ) → key_at keys (suc i) ≡ get_or keys i 0
unfolding key_at
key_at_suc keys i = rw (ne_eqb (suc i) 0 (λ e. omega arith))

-- the measure of the key is that of the tag beside it
pub measure_at_suc : (keys tags : List ℕ) → Rising keys → (i : ℕ) → i < length keys → measure_in (entries_tagged keys tags) (key_at keys (suc i)) ≡ measure_at (get_or tags i 0)
measure_at_suc keys tags rising i h = ap (measure_in (entries_tagged keys tags)) (key_at_suc keys i) ∙ found_tagged keys tags i rising h

pub key_at_zero : (keys : List ℕ) → key_at keys 0 ≡ 0
unfolding key_at
key_at_zero keys = refl

position_is : (n i : ℕ) → member i (positions n) ≡ true → (1 ≤ i) × (i < 1 + n)
position_is n i m = all_member (λ x. (1 ≤ x) × (x < 1 + n)) (positions n) i (up_from_within 1 n) m

-- the keys are the keys of the positions
pub keys_of_positions : (keys : List ℕ) → map (key_at keys) (positions (length keys)) ≡ keys
keys_of_positions keys = mapped_up_from_all (key_at keys) keys 0 1 (λ i h. ap (key_at keys) (omega arith) ∙ key_at_suc keys i)

module _ (p : ℕ → ℕ) (keys : List ℕ) (rising : Rising keys) where
  pub keys_rename : Renames (key_at keys) p (weight_at (map p keys)) (positions (length keys))
  keys_rename =
      record {
        nothing = key_at_zero keys;
        rises = λ i j m n h. rise i j (position_is (length keys) i m) (position_is (length keys) j n) h;
        keeps = λ i m. keep_priority i (position_is (length keys) i m);
      }
    where
      rise : (i j : ℕ) → (1 ≤ i) × (i < 1 + length keys) → (1 ≤ j) × (j < 1 + length keys) → i < j → key_at keys i < key_at keys j
      rise zero j a b h = absurd (omega arith)
      rise (suc i) zero a b h = absurd (omega arith)
      rise (suc i) (suc j) a b h = rw (key_at_suc keys i, key_at_suc keys j) (pairwise_at ◌<◌ keys i j rising (omega arith) (omega arith))

      keep_priority : (i : ℕ) → (1 ≤ i) × (i < 1 + length keys) → p (key_at keys i) ≡ weight_at (map p keys) i
      keep_priority zero a = absurd (omega arith)
      keep_priority (suc i) a = ap p (key_at_suc keys i) ∙ sym (mapped_at p keys i (omega arith))

-- no position and no key is zero
pub keys_apart : (keys : List ℕ) → All (λ k. 1 ≤ k) keys → All (λ i. (i ≢ 0) × (key_at keys i ≢ 0)) (positions (length keys))
keys_apart keys some =
    all_map (λ i. (1 ≤ i) × (i < 1 + length keys)) (λ i. (i ≢ 0) × (key_at keys i ≢ 0)) (λ i h. ((λ e. omega arith), apart i h)) (positions (length keys)) (up_from_within 1 (length keys))
  where
    apart : (i : ℕ) → (1 ≤ i) × (i < 1 + length keys) → key_at keys i ≢ 0
    apart zero h e = omega arith
    apart (suc i) h e =
        let k : 1 ≤ get_or keys i 0 = all_at (λ x. 1 ≤ x) keys i 0 some (omega arith) in
        let q = key_at_suc keys i in
        omega arith

-- ---- slots
pub place_home : (g h : ℕ → ℕ) (slots xs : List ℕ) → All (λ x. g x ≡ h x) xs → place_all g slots xs ≡ place_all h slots xs
place_home g h slots [] e = refl
place_home g h slots (x ∷ xs) e =
    ap (λ (n : ℕ). place_all g (set slots (first_empty slots n) x) xs) e.0 ∙ place_home g h (set slots (first_empty slots (h x)) x) xs e.1

pub all_placed : (P : ℕ → Type 0) (home : ℕ → ℕ) (slots xs : List ℕ) → All P slots → All P xs → All P (place_all home slots xs)
all_placed P home slots [] a b = a
all_placed P home slots (x ∷ xs) a b = all_placed P home (set slots (first_empty slots (home x)) x) xs (all_set P slots (first_empty slots (home x)) x b.0 a) b.1
