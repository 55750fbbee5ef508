-- The keys of a fresh table: the search finds the slot of each key held, and any other key stands in no slot.
-- Assumes valid contents and at least one slot.
use mathlib.Core.Bool.{Bool, true, false}
use mathlib.Core.List.Permᴰ
use mathlib.Core.List.{List, Permᴰ}
use mathlib.Core.Logic.{◌≢◌}
use mathlib.Core.Path.{◌≡◌, sym, ap, ◌∙◌, subst}
use Prim.Native.Nat.{ℕ, zero, suc, ◌<◌, ◌≤◌}
use native.Mathlib.Omega.{arith}
use lib.Dec.{eqb, ltb}
use lib.ListN.{length, get_or, replicate, length-replicate, get_or-eq_default}
use borrow.Author.Tests.{eqb-true, eqb-false, ltb-true, ltb-false}
use Rattle.lists.specs.Lists.{first, member, sort_by, All, Pairwise}
use Rattle.lists.proofs.Tests.{by_test, true_or_false}
use Rattle.lists.proofs.Keep.{all_map, all_always}
use Rattle.lists.proofs.Membership.{all_member, all_of_members}
use Rattle.lists.proofs.Pairwise.{pairwise_map}
use Rattle.lists.proofs.Sorting.{all_permuted, length_permuted, sort_by_permutes}
use Rattle.priority.specs.Priority.{home_of}
use Rattle.priority.proofs.Bounds.{home_of_below}
use Rattle.treap.specs.Treap.{outranks}
use Rattle.treap.specs.Slots.{probes, slots_of}
use Rattle.table_slots.proofs.Placing.{empties_replicate}
use Rattle.table.specs.Layout.{key_in}
use Rattle.table.specs.Contents.{Contents, IsKey, Valid, keys_in, priority_in}
use Rattle.table.specs.Table.{home_in, fresh}
use Rattle.table.proofs.Words.{placed_keys, placed_length, fresh_length, fresh_key}
use Rattle.table_find.specs.Find.{stops_at, slot_found, OnlyAt}
use Rattle.table_find.proofs.Searching.{stops_on}
use Rattle.table_find.proofs.Landing.{Absent, end_of, Lands, Room, absent_after, placed_lands}

-- ---- lists
-- different numbers in another order are different
apart_permuted : {xs ys : List ℕ} → Permᴰ xs ys → Pairwise ◌≢◌ xs → Pairwise ◌≢◌ ys
apart_permuted Permᴰ.nil h = h
apart_permuted (Permᴰ.cons {a} {b} {l₁} {l₂} e d) h =
    (all_permuted (λ y. b ≢ y) d (subst (λ (z : ℕ). All (λ y. z ≢ y) l₁) e h.0), apart_permuted d h.1)
apart_permuted (Permᴰ.swap {a} {b} {a'} {b'} {l} e g) h = (
  ((λ q. h.0.0 (e ∙ sym q ∙ sym g)), subst (λ (z : ℕ). All (λ y. z ≢ y) l) g h.1.0),
  (subst (λ (z : ℕ). All (λ y. z ≢ y) l) e h.0.1, h.1.1),
)
apart_permuted (Permᴰ.trans d e) h = apart_permuted e (apart_permuted d h)

empty_at_first : (many k : ℕ) → 1 ≤ k → Absent k (replicate many 0)
empty_at_first zero k positive i e = omega arith
empty_at_first (suc many) k positive zero e = omega arith
empty_at_first (suc many) k positive (suc i) e = empty_at_first many k positive i e

-- a slot that holds a key is one of the slots
slot_within : (slots : List ℕ) (k s : ℕ) → 1 ≤ k → get_or slots s 0 ≡ k → s < length slots
slot_within slots k s positive e =
    by_test (ltb s (length slots))
    (λ t. ltb-true s (length slots) t)
    (λ t. absurd (omega (arith, get_or-eq_default slots 0 (ltb-false s (length slots) t))))

-- ---- the words of a fresh table show the keys placed, and zero past the last slot
module _ (many : ℕ) (c : Contents) where
  key_in_fresh : (s : ℕ) → key_in (fresh many c) s ≡ get_or (placed_keys many c) s 0
  key_in_fresh s =
      by_test (ltb s many)
      (λ t. fresh_key many c s (ltb-true s many t))
      (λ t.
      let past = ltb-false s many t in
      get_or-eq_default (fresh many c) 0 (omega (arith, fresh_length many c))
      ∙ sym (get_or-eq_default (placed_keys many c) 0 (omega (arith, placed_length many c))))

  found_is_end : (k priority : ℕ)
      → slot_found many (fresh many c) k priority ≡ end_of many (home_of priority many) k (placed_keys many c)
  unfolding slot_found stops_at
  found_is_end k priority =
      ap (λ (f : ℕ → Bool). first many f (probes many (home_of priority many))) (λ i s. stops_on k (key_in_fresh s i))

-- ---- placing the keys of a table
-- The keys in the order in which they are placed.
abbrev in_order : Contents → List ℕ
in_order c = sort_by (outranks (priority_in c)) (keys_in c)

order_permutes : (c : Contents) → Permᴰ (keys_in c) (in_order c)
order_permutes c = Permᴰ.symm (sort_by_permutes (outranks (priority_in c)) (keys_in c))

module _ (many : ℕ) (c : Contents) (some : 1 ≤ many) (valid : Valid many c) where
  home_inside : (k : ℕ) → home_in many c.salt k < many
  unfolding home_in
  home_inside k = home_of_below (priority_in c k) some

  room : Room (home_in many c.salt) many home_inside (replicate many 0) (in_order c)
  room =
      record {
        size = length-replicate many 0;
        enough = omega (arith, length_permuted (order_permutes c), empties_replicate many, valid.keys_fit);
        apart =
            all_permuted (λ x. x ≢ 0) (order_permutes c)
            (all_map IsKey (λ x. x ≢ 0) (λ x h e. omega arith) (keys_in c) valid.keys_right);
      }

  different : Pairwise ◌≢◌ (in_order c)
  different =
      apart_permuted (order_permutes c)
      (pairwise_map (λ _. Unit {0}) ◌<◌ ◌≢◌ (λ x y _ _ (h : x < y) e. omega arith) (keys_in c)
      (all_always (λ _. Unit {0}) (λ _. tt) (keys_in c)) valid.keys_rise)

  held_key_lands : (k : ℕ) → 1 ≤ k → member k (keys_in c) ≡ true → Lands many (home_in many c.salt k) k (placed_keys many c)
  unfolding slots_of
  held_key_lands k positive m =
      let kept : All (λ x. member x (in_order c) ≡ true) (keys_in c) =
      all_permuted (λ x. member x (in_order c) ≡ true) (Permᴰ.symm (order_permutes c))
      (all_of_members (λ x. member x (in_order c) ≡ true) (in_order c) (λ x h. h))
      in
      placed_lands (home_in many c.salt) many home_inside k (λ e. omega arith) (replicate many 0) (in_order c) room different
      (all_member (λ x. member x (in_order c) ≡ true) (keys_in c) k kept m) (empty_at_first many k positive)

  other_key_absent : (k : ℕ) → 1 ≤ k → member k (keys_in c) ≡ false → Absent k (placed_keys many c)
  unfolding slots_of
  other_key_absent k positive m =
      absent_after (home_in many c.salt) many home_inside k (replicate many 0) (in_order c) room
      (all_permuted (λ x. x ≢ k) (order_permutes c)
      (all_of_members (λ x. x ≢ k) (keys_in c)
      (λ x h e. true_or_false (member x (keys_in c)) h (ap (λ (z : ℕ). member z (keys_in c)) e ∙ m))))
      (empty_at_first many k positive)

  -- ---- the laws of the search
  -- "In a sound table, handed a held key's own priority, it finds that key's slot."
  pub held_key_found : (k : ℕ) → member k (keys_in c) ≡ true
      → OnlyAt many (fresh many c) k (slot_found many (fresh many c) k (priority_in c k))
  unfolding home_in
  held_key_found k m =
      let positive = (all_member IsKey (keys_in c) k valid.keys_right m).0 in
      let lands = held_key_lands k positive m in
      let s = end_of many (home_in many c.salt k) k (placed_keys many c) in
      rw found_is_end
      (record {
        below = omega (arith, placed_length many c, slot_within (placed_keys many c) k s positive lands.holds);
        holds = key_in_fresh many c s ∙ lands.holds;
        only = λ other _ e. lands.only other (sym (key_in_fresh many c other) ∙ e);
      })

  -- a key that is not held stands in no slot, but for 0, which stands in the empty ones
  pub absent_key_nowhere : (k s : ℕ) → member k (keys_in c) ≡ false → key_in (fresh many c) s ≡ k → k ≡ 0
  absent_key_nowhere k s m e =
      by_test (eqb k 0)
      (λ t. eqb-true k 0 t)
      (λ t.
      let d : k ≢ 0 = eqb-false k 0 t in
      absurd (other_key_absent k (omega arith) m s (sym (key_in_fresh many c s) ∙ e)))
