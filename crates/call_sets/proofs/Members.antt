-- A set with a key more or a key less: its keys, their measures, and what holds of all its entries. Assumes nothing.
use mathlib.Core.Bool.{Bool, true, false, cond, not, ◌&&◌, ◌||◌}
use mathlib.Core.List.Permᴰ
use mathlib.Core.List.{List, [], ◌∷◌}
use mathlib.Core.Logic.{◌≢◌}
use mathlib.Core.Path.{◌≡◌, refl, sym, ap, ◌∙◌}
use Prim.Native.Nat.{ℕ}
use lib.Dec.{eqb, ltb}
use borrow.Author.Tests.{eqb-true, eqb-false, ne_eqb}
use Rattle.lists.specs.Lists.{keep, insert_by, member, All}
use Rattle.lists.proofs.Tests.{by_test, or_false_left, or_false_right}
use Rattle.lists.proofs.Keep.{all_keep}
use Rattle.lists.proofs.Membership.{member-keep}
use Rattle.lists.proofs.Sorting.{all_permuted, insert_by_permutes}
use Rattle.measure.specs.Measure.{Measure}
use Rattle.table.specs.Contents.{Entry, entry_keys, measure_in, key_below}
use Rattle.table.proofs.Entries.{inserted_keys}
use Rattle.call_sets.specs.Sets.{joined, without}

-- ---- its keys
pub joined_keys : (e : Entry) (es : List Entry) → entry_keys (joined e es) ≡ insert_by ltb e.key (entry_keys es)
unfolding joined
joined_keys e es = inserted_keys e es

pub without_keys : (key : ℕ) (es : List Entry) → entry_keys (without key es) ≡ keep (λ k. not (eqb k key)) (entry_keys es)
unfolding without
without_keys key [] = refl
without_keys key (f ∷ es) =
    by_test (eqb f.key key) (λ t. rw t (without_keys key es)) (λ t. rw t (ap (λ (ks : List ℕ). f.key ∷ ks) (without_keys key es)))

either_first : (a b c : Bool) → (a || (b || c)) ≡ (b || (a || c))
either_first true true c = refl
either_first true false c = refl
either_first false true c = refl
either_first false false c = refl

inserted_members : (key other : ℕ) (keys : List ℕ) → member other (insert_by ltb key keys) ≡ (eqb other key || member other keys)
inserted_members key other [] = refl
inserted_members key other (k ∷ ks) =
    by_test (ltb key k) (λ e. rw e)
    (λ e. rw e (ap (λ b. eqb other k || b) (inserted_members key other ks) ∙ either_first (eqb other k) (eqb other key) (member other ks)))

pub joined_members : (e : Entry) (other : ℕ) (es : List Entry) → member other (entry_keys (joined e es)) ≡ (eqb other e.key || member other (entry_keys es))
joined_members e other es = ap (member other) (joined_keys e es) ∙ inserted_members e.key other (entry_keys es)

pub left_members : (key other : ℕ) (es : List Entry) → member other (entry_keys (without key es)) ≡ (not (eqb other key) && member other (entry_keys es))
left_members key other es = ap (member other) (without_keys key es) ∙ member-keep (λ k. not (eqb k key)) other (entry_keys es)

-- ---- their measures
-- of two tests that do not both pass either may be made first
other_first : (a b : Bool) (x y z : Measure) → (a ≡ true → b ≡ false) → cond a x (cond b y z) ≡ cond b y (cond a x z)
other_first true b x y z h = rw (h refl) refl
other_first false b x y z h = refl

pub joined_measure : (e : Entry) (other : ℕ) (es : List Entry) → member e.key (entry_keys es) ≡ false
    → measure_in (joined e es) other ≡ cond (eqb e.key other) e.measure (measure_in es other)
unfolding joined key_below
joined_measure e other [] m = refl
joined_measure e other (f ∷ es) m =
    let apart : e.key ≢ f.key = eqb-false e.key f.key (or_false_left (eqb e.key f.key) (member e.key (entry_keys es)) m) in
    by_test (ltb e.key f.key) (λ t. rw t)
    (λ t.
    rw t
    (ap (λ (n : Measure). cond (eqb f.key other) f.measure n)
    (joined_measure e other es (or_false_right (eqb e.key f.key) (member e.key (entry_keys es)) m))
    ∙ other_first (eqb f.key other) (eqb e.key other) f.measure e.measure (measure_in es other)
    (λ p. ne_eqb e.key other (λ q. apart (q ∙ sym (eqb-true f.key other p))))))

pub left_measure : (key other : ℕ) (es : List Entry) → eqb other key ≡ false → measure_in (without key es) other ≡ measure_in es other
unfolding without
left_measure key other [] h = refl
left_measure key other (f ∷ es) h =
    let apart : other ≢ key = eqb-false other key h in
    by_test (eqb f.key key)
    (λ t. rw (t, ne_eqb f.key other (λ q. apart (sym q ∙ eqb-true f.key key t))) (left_measure key other es h))
    (λ t. rw t (ap (λ (n : Measure). cond (eqb f.key other) f.measure n) (left_measure key other es h)))

-- ---- what holds of all its entries
module _ (P : Entry → Type 0) where
  pub joined_right : (e : Entry) (es : List Entry) → P e → All P es → All P (joined e es)
  unfolding joined
  joined_right e es h all = all_permuted P (Permᴰ.symm (insert_by_permutes key_below e es)) (h, all)

  pub left_right : (key : ℕ) (es : List Entry) → All P es → All P (without key es)
  unfolding without
  left_right key es all = all_keep P (λ e. not (eqb e.key key)) es all
