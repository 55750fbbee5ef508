-- Linear probing over plain slots: the search for a key that was placed ends at the one slot that holds it, whatever keys are
-- placed after it. Assumes different keys, none of them zero, and a slot for each.
use mathlib.Core.Bool.{Bool, true, false}
use mathlib.Core.List.{List, [], ◌∷◌}
use mathlib.Core.Logic.{◌⊎◌, ◌≢◌, inl, inr, ⊎_elim}
use mathlib.Core.Path.{◌≡◌, refl, sym, ap, ◌∙◌, subst}
use Prim.Native.Nat.{ℕ, ◌<◌, ◌≤◌}
use native.Mathlib.Omega.{arith}
use lib.Dec.{eqb}
use lib.ListN.{length, get_or, set, length-set}
use lib.Seq.{get_or-set_same, get_or-set_other}
use borrow.Author.Tests.{eq-eqb, eqb-true, eqb-false}
use Rattle.lists.specs.Lists.{first, member, All, Pairwise}
use Rattle.lists.proofs.Tests.{by_test, true_or_false, or_true_cases}
use Rattle.lists.proofs.Keep.{all_map}
use Rattle.treap.specs.Slots.{probes, first_empty, place_all}
use Rattle.table_slots.proofs.Placing.{empties, first_empty_is, empties_set}
use Rattle.table_find.proofs.Searching.{stops_on, stops_on_empty, stops_on_key, stops_says}

-- a narrower test that the number found still passes finds the same
first_narrowed : (none : ℕ) (f g : ℕ → Bool) (xs : List ℕ) → ((x : ℕ) → g x ≡ true → f x ≡ true) → g (first none f xs) ≡ true
    → first none g xs ≡ first none f xs
first_narrowed none f g [] h e = refl
first_narrowed none f g (x ∷ xs) h e =
    by_test (f x)
    (λ t. rw (t, rw t at e))
    (λ t.
    let fails : g x ≡ false = by_test (g x) (λ q. absurd (true_or_false (f x) (h x q) t)) (λ q. q) in
    rw (t, fails) (first_narrowed none f g xs h (rw t at e)))

-- ---- where a key is in plain slots
-- No slot holds the key.
abbrev pub Absent : ℕ → List ℕ → Type 0
Absent key slots = (i : ℕ) → get_or slots i 0 ≢ key

-- The slot at which the search for a key from its home on ends.
abbrev pub end_of : ℕ → ℕ → ℕ → List ℕ → ℕ
end_of many home key slots = first many (λ i. stops_on key (get_or slots i 0)) (probes many home)

-- That slot, and no other, holds the key.
pub record Lands (many home key : ℕ) (slots : List ℕ) : Type 0 where
  pub holds : get_or slots (end_of many home key slots) 0 ≡ key
  pub only : (i : ℕ) → get_or slots i 0 ≡ key → i ≡ end_of many home key slots

lands_at : (many home key : ℕ) (slots : List ℕ) (s : ℕ) → end_of many home key slots ≡ s → get_or slots s 0 ≡ key
    → ((i : ℕ) → get_or slots i 0 ≡ key → i ≡ s) → Lands many home key slots
lands_at many home key slots s end h o =
    record { holds = ap (λ (n : ℕ). get_or slots n 0) end ∙ h; only = λ i q. o i q ∙ sym end }

-- ---- a key placed in an empty slot
module _ (slots : List ℕ) (e x : ℕ) (below : e < length slots) (free : get_or slots e 0 ≡ 0) where
  -- every other slot holds what it held
  after_set : (i : ℕ)
      → ((i ≡ e) × (get_or slots i 0 ≡ 0) × (get_or (set slots e x) i 0 ≡ x)) ⊎ (get_or (set slots e x) i 0 ≡ get_or slots i 0)
  after_set i =
      by_test (eqb i e)
      (λ t.
      let here = eqb-true i e t in
      inl (here, rw here free, rw here (get_or-set_same slots e x 0 below)))
      (λ t. inr (get_or-set_other slots e i x 0 (eqb-false i e t)))

  absent_set : (key : ℕ) → x ≢ key → Absent key slots → Absent key (set slots e x)
  absent_set key d absent i q = ⊎_elim (λ w. d (sym w.2 ∙ q)) (λ w. absent i (sym w ∙ q)) (after_set i)

  -- the key where it is placed: in the first empty slot from its home on
  lands_here : (many home : ℕ) → first many (λ i. eqb (get_or slots i 0) 0) (probes many home) ≡ e → Absent x slots
      → Lands many home x (set slots e x)
  lands_here many home end absent =
      let here : get_or (set slots e x) e 0 ≡ x = get_or-set_same slots e x 0 below in
      lands_at many home x (set slots e x) e
      (first_narrowed many (λ i. eqb (get_or slots i 0) 0) (λ i. stops_on x (get_or (set slots e x) i 0)) (probes many home)
      (λ i t.
      ⊎_elim (λ w. eq-eqb (get_or slots i 0) 0 w.1)
      (λ w.
      eq-eqb (get_or slots i 0) 0
      (⊎_elim (λ q. sym w ∙ q) (λ q. absurd (absent i (sym w ∙ q))) (stops_says x (get_or (set slots e x) i 0) t)))
      (after_set i))
      (rw end (stops_on_key x (get_or (set slots e x) e 0) here))
      ∙ end)
      here
      (λ i q. ⊎_elim (λ w. w.0) (λ w. absurd (absent i (sym w ∙ q))) (after_set i))

  -- a key placed before
  lands_still : (many home key : ℕ) → key ≢ 0 → x ≢ key → Lands many home key slots → Lands many home key (set slots e x)
  lands_still many home key some d lands =
      let s = end_of many home key slots in
      let still : get_or (set slots e x) s 0 ≡ key =
      ⊎_elim (λ w. absurd (some (sym lands.holds ∙ w.1))) (λ w. w ∙ lands.holds) (after_set s)
      in
      lands_at many home key (set slots e x) s
      (first_narrowed many (λ i. stops_on key (get_or slots i 0)) (λ i. stops_on key (get_or (set slots e x) i 0)) (probes many home)
      (λ i t. ⊎_elim (λ w. stops_on_empty key (get_or slots i 0) w.1) (λ w. ap (stops_on key) (sym w) ∙ t) (after_set i))
      (stops_on_key key (get_or (set slots e x) s 0) still))
      still
      (λ i q. ⊎_elim (λ w. absurd (d (sym w.2 ∙ q))) (λ w. lands.only i (sym w ∙ q)) (after_set i))

-- ---- keys placed one after the other
module _ (home : ℕ → ℕ) (many : ℕ) (inside : (x : ℕ) → home x < many) where
  -- There is a slot for each of the keys, none of them zero.
  pub record Room (slots xs : List ℕ) : Type 0 where
    pub size : length slots ≡ many
    pub enough : length xs ≤ empties slots
    pub apart : All (λ x. x ≢ 0) xs

  module _ (slots : List ℕ) (x : ℕ) (xs : List ℕ) (room : Room slots (x ∷ xs)) where
    free_slot : (first_empty slots (home x) < length slots) × (get_or slots (first_empty slots (home x)) 0 ≡ 0)
    free_slot = first_empty_is slots (home x) (omega (arith, inside x, room.size)) (omega (arith, room.enough))

    first_empty_in : first many (λ i. eqb (get_or slots i 0) 0) (probes many (home x)) ≡ first_empty slots (home x)
    unfolding first_empty
    first_empty_in = ap (λ (n : ℕ). first n (λ i. eqb (get_or slots i 0) 0) (probes n (home x))) (sym room.size)

    room_next : Room (set slots (first_empty slots (home x)) x) xs
    room_next =
        let e = first_empty slots (home x) in
        record {
          size = length-set slots e x ∙ room.size;
          enough = omega (arith, room.enough, empties_set slots e x free_slot.0 free_slot.1 room.apart.0);
          apart = room.apart.1;
        }

  module _ (key : ℕ) where
    pub absent_after : (slots xs : List ℕ) → Room slots xs → All (λ x. x ≢ key) xs → Absent key slots
        → Absent key (place_all home slots xs)
    absent_after slots [] room d absent = absent
    absent_after slots (x ∷ xs) room d absent =
        let e = first_empty slots (home x) in
        let free = free_slot slots x xs room in
        absent_after (set slots e x) xs (room_next slots x xs room) d.1
        (absent_set slots e x free.0 free.1 key d.0 absent)

    module _ (some : key ≢ 0) where
      lands_after : (slots xs : List ℕ) → Room slots xs → All (λ x. x ≢ key) xs → Lands many (home key) key slots
          → Lands many (home key) key (place_all home slots xs)
      lands_after slots [] room d lands = lands
      lands_after slots (x ∷ xs) room d lands =
          let e = first_empty slots (home x) in
          let free = free_slot slots x xs room in
          lands_after (set slots e x) xs (room_next slots x xs room) d.1
          (lands_still slots e x free.0 free.1 many (home key) key some d.0 lands)

      pub placed_lands : (slots xs : List ℕ) → Room slots xs → Pairwise ◌≢◌ xs → member key xs ≡ true → Absent key slots
          → Lands many (home key) key (place_all home slots xs)
      placed_lands slots [] room different m absent = absurd (true_or_false false m refl)
      placed_lands slots (x ∷ xs) room different m absent =
          let e = first_empty slots (home x) in
          let free = free_slot slots x xs room in
          by_test (eqb key x)
          (λ t.
          let same : x ≡ key = sym (eqb-true key x t) in
          lands_after (set slots e x) xs (room_next slots x xs room)
          (all_map (λ y. x ≢ y) (λ y. y ≢ key) (λ y (d : x ≢ y) q. d (same ∙ sym q)) xs different.0)
          (subst (λ (z : ℕ). Lands many (home z) z (set slots e x)) same
          (lands_here slots e x free.0 free.1 many (home x) (first_empty_in slots x xs room) (λ i q. absent i (q ∙ same)))))
          (λ t.
          let later : member key xs ≡ true =
          ⊎_elim (λ (q : eqb key x ≡ true). absurd (true_or_false (eqb key x) q t)) (λ q. q) (or_true_cases (eqb key x) (member key xs) m)
          in
          placed_lands (set slots e x) xs (room_next slots x xs room) different.1 later
          (absent_set slots e x free.0 free.1 key (λ q. eqb-false key x t (sym q)) absent))
