-- Entries, keys with measures: sorted by key, found by their keys, told by their members, taken apart into keys and measures. Assumes
-- entries by rising key, where it says so.
use mathlib.Core.Bool.{true, false}
use mathlib.Core.List.Permᴰ
use mathlib.Core.List.{List, [], ◌∷◌, map, Permᴰ}
use mathlib.Core.Logic.{◌≢◌}
use mathlib.Core.Path.{◌≡◌, refl, sym, ap, ap₂, ◌∙◌, subst}
use Prim.Native.Nat.{ℕ, zero, suc, ◌<◌}
use native.Mathlib.Omega.{arith}
use lib.Dec.{eqb, ltb}
use lib.ListN.{length, get_or}
use borrow.Author.Tests.{eq-eqb, ne_eqb, eqb-false}
use Rattle.lists.specs.Lists.{All, Rising, member, insert_by, sort_by}
use Rattle.lists.proofs.Tests.{by_test, or_false_left, or_false_right}
use Rattle.lists.proofs.Keep.{all_at}
use Rattle.lists.proofs.Sorting.{all_permuted, sort_by_permutes}
use Rattle.lists.proofs.Sorted.{sorted_unique, rising_ordered, sorted_rising_fixed}
use Rattle.measure.specs.Measure.{Measure, unmeasured, is_measure}
use Rattle.measure.proofs.Stored.{unmeasured_right}
use Rattle.table.specs.Contents.{Entry, entry_keys, measure_in, key_below, entries_with, right_measure}

-- ---- sorted by key
pub inserted_keys : (e : Entry) (es : List Entry) → entry_keys (insert_by key_below e es) ≡ insert_by ltb e.key (entry_keys es)
unfolding key_below
inserted_keys e [] = refl
inserted_keys e (f ∷ es) =
    by_test (ltb e.key f.key) (λ t. rw t) (λ t. rw t (ap (λ (ks : List ℕ). f.key ∷ ks) (inserted_keys e es)))

pub sorted_keys : (es : List Entry) → entry_keys (sort_by key_below es) ≡ sort_by ltb (entry_keys es)
sorted_keys [] = refl
sorted_keys (e ∷ es) = inserted_keys e (sort_by key_below es) ∙ ap (insert_by ltb e.key) (sorted_keys es)

-- ---- found by their keys
passed_by : (e : Entry) (es fs : List Entry) → All (λ k. e.key < k) (entry_keys fs) → All (λ f. measure_in es f.key ≡ f.measure) fs
    → All (λ f. measure_in (e ∷ es) f.key ≡ f.measure) fs
passed_by e es [] h g = tt
passed_by e es (f ∷ fs) h g =
    let apart : e.key ≢ f.key = λ same. omega (arith, h.0) in
    (rw (ne_eqb e.key f.key apart) g.0, passed_by e es fs h.1 g.1)

pub found_self : (es : List Entry) → Rising (entry_keys es) → All (λ e. measure_in es e.key ≡ e.measure) es
found_self [] h = tt
found_self (e ∷ es) h =
    let later = found_self es h.1 in
    (rw (eq-eqb e.key e.key refl), passed_by e es es h.0 later)

-- none is found for a key that is not among them
pub not_found : (es : List Entry) (key : ℕ) → member key (entry_keys es) ≡ false → measure_in es key ≡ unmeasured
not_found [] key h = refl
not_found (e ∷ es) key h =
    let apart : e.key ≢ key = λ same. eqb-false key e.key (or_false_left (eqb key e.key) (member key (entry_keys es)) h) (sym same) in
    rw (ne_eqb e.key key apart) (not_found es key (or_false_right (eqb key e.key) (member key (entry_keys es)) h))

-- what is found is within the rules, where all measures are
pub found_right : (es : List Entry) (key : ℕ) → All (λ e. right_measure e ≡ true) es → is_measure (measure_in es key) ≡ true
found_right [] key h = unmeasured_right
found_right (e ∷ es) key h = by_test (eqb e.key key) (λ t. rw t h.0) (λ t. rw t (found_right es key h.1))

-- ---- told by their members
-- A key with the measure that is found for it.
abbrev pub entry_at : List Entry → ℕ → Entry
entry_at es key = record { key = key; measure = measure_in es key }

rebuilt : (es fs : List Entry) → All (λ f. measure_in es f.key ≡ f.measure) fs → map (entry_at es) (entry_keys fs) ≡ fs
rebuilt es [] h = refl
rebuilt es (f ∷ fs) h =
    let first : entry_at es f.key ≡ f = λ i. record { key = f.key; measure = h.0 i } in
    ap₂ (λ (g : Entry) (gs : List Entry). g ∷ gs) first (rebuilt es fs h.1)

pub entries_by_keys : (es : List Entry) → Rising (entry_keys es) → map (entry_at es) (entry_keys es) ≡ es
entries_by_keys es h = rebuilt es es (found_self es h)

-- keys that rise are the sorted ones of entries with the same members
keys_sorted : (es fs : List Entry) → Permᴰ es fs → Rising (entry_keys es) → entry_keys es ≡ sort_by ltb (entry_keys fs)
keys_sorted es fs same rise =
    sorted_unique (entry_keys fs) (entry_keys es) (Permᴰ.map (λ e. e.key) same) (rising_ordered (entry_keys es) rise)

pub entries_unique : (es fs : List Entry) → Permᴰ es fs → Rising (entry_keys es) → Rising (entry_keys fs) → es ≡ fs
entries_unique es fs same rise rises =
    let keys : entry_keys es ≡ entry_keys fs = keys_sorted es fs same rise ∙ sorted_rising_fixed (entry_keys fs) rises in
    sym (rebuilt fs es (all_permuted (λ e. measure_in fs e.key ≡ e.measure) (Permᴰ.symm same) (found_self fs rises)))
    ∙ ap (map (entry_at fs)) keys
    ∙ entries_by_keys fs rises

-- entries that a permutation leaves with rising keys are the sorted ones
pub sorted_entries : (es fs : List Entry) → Permᴰ es fs → Rising (entry_keys es) → sort_by key_below fs ≡ es
sorted_entries es fs same rise =
    let keys : entry_keys (sort_by key_below fs) ≡ entry_keys es = sorted_keys fs ∙ sym (keys_sorted es fs same rise) in
    entries_unique (sort_by key_below fs) es (Permᴰ.trans (sort_by_permutes key_below fs) (Permᴰ.symm same)) (subst Rising (sym keys) rise) rise

-- ---- keys and measures apart
pub with_keys : (keys : List ℕ) (measures : List Measure) → entry_keys (entries_with keys measures) ≡ keys
with_keys [] measures = refl
with_keys (k ∷ keys) [] = ap (λ (ks : List ℕ). k ∷ ks) (with_keys keys [])
with_keys (k ∷ keys) (m ∷ measures) = ap (λ (ks : List ℕ). k ∷ ks) (with_keys keys measures)

pub with_right : (keys : List ℕ) (measures : List Measure) → All (λ m. is_measure m ≡ true) measures
    → All (λ e. right_measure e ≡ true) (entries_with keys measures)
with_right [] measures h = tt
with_right (k ∷ keys) [] h = (unmeasured_right, with_right keys [] h)
with_right (k ∷ keys) (m ∷ measures) h = (h.0, with_right keys measures h.1)

-- the measure beside a key is found for it
pub found_beside : (keys : List ℕ) (measures : List Measure) (i : ℕ) → Rising keys → i < length keys
    → measure_in (entries_with keys measures) (get_or keys i 0) ≡ get_or measures i unmeasured
found_beside [] measures i h l = absurd (omega arith)
found_beside (k ∷ keys) [] zero h l = rw (eq-eqb k k refl)
found_beside (k ∷ keys) (m ∷ measures) zero h l = rw (eq-eqb k k refl)
found_beside (k ∷ keys) [] (suc i) h l =
    let apart : k ≢ get_or keys i 0 = λ same. omega (arith, all_at (λ x. k < x) keys i 0 h.0 (omega arith)) in
    rw (ne_eqb k (get_or keys i 0) apart) (found_beside keys [] i h.1 (omega arith))
found_beside (k ∷ keys) (m ∷ measures) (suc i) h l =
    let apart : k ≢ get_or keys i 0 = λ same. omega (arith, all_at (λ x. k < x) keys i 0 h.0 (omega arith)) in
    rw (ne_eqb k (get_or keys i 0) apart) (found_beside keys measures i h.1 (omega arith))
