-- The search in any words: the test of one slot, where it can end, and the answer. Assumes at least one slot.
use mathlib.Core.Bool.{Bool, true, false, ◌||◌}
use mathlib.Core.List.{List}
use mathlib.Core.Logic.{◌⊎◌, ◌≢◌, inl, inr, ⊎_elim}
use mathlib.Core.Path.{◌≡◌, refl, sym, ap, ◌∙◌}
use Prim.Native.Nat.{ℕ, zero, suc, ◌+◌, ◌-◌, ◌%◌, ◌<◌, ◌≤◌}
use native.Mathlib.Nat.{add-zero, mod-eq_of_lt, mod_self, mod-add-mod, add-mod_right}
use native.Mathlib.Omega.{arith}
use lib.Dec.{eqb, ltb}
use borrow.Author.Tests.{eq-eqb, ne_eqb, eqb-true, eqb-false, ltb-true, ltb-false, lt-ltb, le-ltb}
use Rattle.std.specs.Prelude.{Some, None}
use Rattle.lists.specs.Lists.{first}
use Rattle.lists.proofs.Tests.{by_test, or_true_cases, or_true_left, or_true_right, or_both_false}
use Rattle.priority.specs.Priority.{home_of}
use Rattle.priority.proofs.Bounds.{home_of_below}
use Rattle.table_slots.proofs.Probing.{after, in_turn, after_within, probes_in_turn}
use Rattle.table_find.specs.Find.{stops_at, slot_found, found_at}

-- ---- the test of one slot
-- A slot with this word for its key is empty or holds the key sought.
abbrev pub stops_on : ℕ → ℕ → Bool
stops_on key word = eqb word 0 || eqb word key

module _ (key word : ℕ) where
  pub stops_on_empty : word ≡ 0 → stops_on key word ≡ true
  stops_on_empty e = or_true_left (eqb word 0) (eqb word key) (eq-eqb word 0 e)

  pub stops_on_key : word ≡ key → stops_on key word ≡ true
  stops_on_key e = or_true_right (eqb word 0) (eqb word key) (eq-eqb word key e)

  pub passes_other : word ≢ 0 → word ≢ key → stops_on key word ≡ false
  passes_other full other = or_both_false (eqb word 0) (eqb word key) (ne_eqb word 0 full) (ne_eqb word key other)

  pub stops_says : stops_on key word ≡ true → (word ≡ 0) ⊎ (word ≡ key)
  stops_says t =
      ⊎_elim (λ e. inl (eqb-true word 0 e)) (λ e. inr (eqb-true word key e)) (or_true_cases (eqb word 0) (eqb word key) t)

-- ---- the slots in turn
module _ (many : ℕ) where
  -- The slot so many steps on from a slot, slot 0 following the last.
  abbrev pub steps_on : ℕ → ℕ → ℕ
  steps_on at steps = (at + steps) % many

  no_steps_on : (at : ℕ) → at < many → steps_on at 0 ≡ at
  no_steps_on at h = ap (λ (n : ℕ). n % many) (add-zero at) ∙ mod-eq_of_lt h

  after_is : (at : ℕ) → at < many → after many at ≡ suc at % many
  after_is at h =
      by_test (eqb (suc at) many)
      (λ t. rw t (sym (ap (λ (n : ℕ). n % many) (eqb-true (suc at) many t) ∙ mod_self many)))
      (λ t.
      let d : suc at ≢ many = eqb-false (suc at) many t in
      rw t (sym (mod-eq_of_lt (omega arith))))

  after_steps_on : (at steps : ℕ) → at < many → steps_on (after many at) steps ≡ steps_on at (suc steps)
  after_steps_on at steps h =
      let sum : suc at + steps ≡ at + suc steps = omega arith in
      ap (λ (n : ℕ). (n + steps) % many) (after_is at h) ∙ mod-add-mod (suc at) many steps ∙ ap (λ (n : ℕ). n % many) sum

  -- every slot comes up
  pub slot_comes_up : (at slot : ℕ) → at < many → slot < many → (steps : ℕ) × (steps < many) × (steps_on at steps ≡ slot)
  slot_comes_up at slot h l =
      by_test (ltb slot at)
      (λ t.
      let under = ltb-true slot at t in
      let round : at + (many - at + slot) ≡ slot + many = omega arith in
      (many - at + slot, omega arith, ap (λ (n : ℕ). n % many) round ∙ add-mod_right slot many ∙ mod-eq_of_lt l))
      (λ t.
      let above = ltb-false slot at t in
      let up : at + (slot - at) ≡ slot = omega arith in
      (slot - at, omega arith, ap (λ (n : ℕ). n % many) up ∙ mod-eq_of_lt l))

-- ---- where a search ends, for any test
-- Of so many slots in turn: at the first that passes the test, so many steps on; or, where none passes it, at the number of slots.
pub data Ends (many : ℕ) (f : ℕ → Bool) (at left slot : ℕ) : Type 0 where
  ends_at : (steps : ℕ) → steps < left → steps_on many at steps ≡ slot → f slot ≡ true
      → ((fewer : ℕ) → fewer < steps → f (steps_on many at fewer) ≡ false) → Ends many f at left slot
  ends_nowhere : slot ≡ many → ((steps : ℕ) → steps < left → f (steps_on many at steps) ≡ false) → Ends many f at left slot

module _ (many : ℕ) (f : ℕ → Bool) where
  module _ (at : ℕ) (h : at < many) (t : f at ≡ false) where
    passed_too : (most : ℕ) → ((steps : ℕ) → steps < most → f (steps_on many (after many at) steps) ≡ false)
        → (steps : ℕ) → steps < suc most → f (steps_on many at steps) ≡ false
    passed_too most passed zero l = ap f (no_steps_on many at h) ∙ t
    passed_too most passed (suc steps) l = ap f (sym (after_steps_on many at steps h)) ∙ passed steps (omega arith)

    ends_further : (left slot : ℕ) → Ends many f (after many at) left slot → Ends many f at (suc left) slot
    ends_further left slot (ends_at steps l e stop passed) =
        ends_at (suc steps) (omega arith) (sym (after_steps_on many at steps h) ∙ e) stop (passed_too steps passed)
    ends_further left slot (ends_nowhere e passed) = ends_nowhere e (passed_too left passed)

  pub search_outcome : (at left : ℕ) → at < many → Ends many f at left (first many f (in_turn many at left))
  search_outcome at zero h = ends_nowhere refl (λ steps l. absurd (omega arith))
  search_outcome at (suc left) h =
      by_test (f at)
      (λ t. rw t (ends_at 0 (omega arith) (no_steps_on many at h) t (λ fewer l. absurd (omega arith))))
      (λ t. rw t (ends_further at h t left _ (search_outcome (after many at) left (after_within many at h))))

-- ---- the whole search
module _ (many : ℕ) (words : List ℕ) (key priority : ℕ) (some : 0 < many) where
  search_starts : slot_found many words key priority ≡ first many (stops_at words key) (in_turn many (home_of priority many) many)
  unfolding slot_found
  search_starts = ap (first many (stops_at words key)) (probes_in_turn many (home_of priority many) (home_of_below priority some))

  pub where_search_ends : Ends many (stops_at words key) (home_of priority many) many (slot_found many words key priority)
  where_search_ends = rw search_starts (search_outcome many (stops_at words key) (home_of priority many) many (home_of_below priority some))

-- ---- the answer
pub found_at_lem : (many slot : ℕ) → slot < many → found_at many slot ≡ Some slot
unfolding found_at
found_at_lem many slot h = rw (lt-ltb slot many h)

pub found_nowhere : (many slot : ℕ) → many ≤ slot → found_at many slot ≡ None
unfolding found_at
found_nowhere many slot h = rw (le-ltb slot many h)
