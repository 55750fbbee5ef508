-- A search by skips: it passes no empty slot, and the skips hold at its start, after each step and when a slot is taken.
-- Assumes nothing.
use mathlib.Core.Bool.{Bool, false, cond}
use mathlib.Core.List.{List}
use mathlib.Core.Logic.{◌≢◌}
use mathlib.Core.Path.{◌≡◌, refl, sym, ap, ◌∙◌, subst}
use Prim.Native.Nat.{ℕ, zero, suc, ◌<◌, ◌≤◌}
use native.Mathlib.Omega.{arith}
use lib.Dec.{eqb}
use lib.ListN.{length, get_or, set, length-set}
use lib.Seq.{get_or-set_same, get_or-set_other}
use borrow.Author.Tests.{eq-eqb, ne_eqb, eqb-true, eqb-false}
use Rattle.lists.specs.Lists.{first}
use Rattle.lists.proofs.Tests.{by_test}
use Rattle.treap.specs.Slots.{first_empty}
use Rattle.table_slots.specs.Skips.{after, Over, Skips}
use Rattle.table_slots.specs.Skips.Over.{there, past}
use Rattle.table_slots.proofs.Probing.{in_turn, after_within, search_finds, empty, search_starts}

-- ---- how far a search still has to go, for any test
module _ (many : ℕ) (f : ℕ → Bool) where
  -- How many of so many slots in turn come before the first that passes.
  abbrev pub ahead : ℕ → ℕ → ℕ
  ahead at zero = 0
  ahead at (suc left) = cond (f at) 0 (suc (ahead (after many at) left))

  -- where one is found, it is found among more slots too
  found_among_more : (at left : ℕ) → first many f (in_turn many at left) < many
      → (first many f (in_turn many at (suc left)) ≡ first many f (in_turn many at left)) × (ahead at (suc left) ≡ ahead at left)
  found_among_more at zero h = absurd (omega arith)
  found_among_more at (suc left) h =
      by_test (f at)
      (λ e. rw e (refl, refl))
      (λ e. let more = found_among_more (after many at) left (rw e at h) in rw e (more.0, ap suc more.1))

  one_passed : (at left : ℕ) → f at ≡ false → first many f (in_turn many at left) < many
      → (first many f (in_turn many (after many at) left) ≡ first many f (in_turn many at left)) × (suc (ahead (after many at) left) ≡ ahead at left)
  one_passed at zero e h = absurd (omega arith)
  one_passed at (suc left) e h = let more = found_among_more (after many at) left (rw e at h) in rw e (more.0, ap suc more.1)

-- ---- the search for the first empty slot
-- How many slots are taken from a slot on, up to the first empty one.
abbrev pub taken_from : List ℕ → ℕ → ℕ
taken_from slots at = ahead (length slots) (empty slots) at (length slots)

module _ (slots : List ℕ) where
  pub ends_here : (at : ℕ) → at < length slots → get_or slots at 0 ≡ 0 → first_empty slots at ≡ at
  ends_here at h e = search_starts slots at h ∙ search_finds (length slots) (empty slots) at (length slots) (omega arith) (eq-eqb (get_or slots at 0) 0 e)

  taken_passed : (at : ℕ) → at < length slots → get_or slots at 0 ≢ 0 → first_empty slots at < length slots
      → (first_empty slots (after (length slots) at) ≡ first_empty slots at) × (suc (taken_from slots (after (length slots) at)) ≡ taken_from slots at)
  taken_passed at h t found =
      let start = search_starts slots at h in
      let one = one_passed (length slots) (empty slots) at (length slots) (ne_eqb (get_or slots at 0) 0 t) (rw start at found) in
      (search_starts slots (after (length slots) at) (after_within (length slots) at h) ∙ one.0 ∙ sym start, one.1)

  -- over taken slots one comes nearer to the same empty slot
  nearer : (goal at : ℕ) → Over slots goal at → at < length slots → first_empty slots at < length slots
      → (goal < length slots) × (first_empty slots goal ≡ first_empty slots at) × (taken_from slots goal ≤ taken_from slots at)
  nearer goal at there h found = (h, refl, omega arith)
  nearer goal at (past t rest) h found =
      let one = taken_passed at h t found in
      let (b, e, l) = nearer goal (after (length slots) at) rest (after_within (length slots) at h) (rw one.0 found) in
      (b, e ∙ one.0, omega (arith, one.1))

  further : (goal middle at : ℕ) → Over slots middle at → Over slots goal middle → Over slots goal at
  further goal middle at there o = o
  further goal middle at (past t rest) o = past t (further goal middle (after (length slots) at) rest o)

-- ---- one step of the search
module _ (slots skip : List ℕ) (holds : Skips slots skip) (at : ℕ) (h : at < length slots) (t : get_or slots at 0 ≢ 0) where
  pub step_nearer : first_empty slots at < length slots
      → (get_or skip at 0 < length slots) × (first_empty slots (get_or skip at 0) ≡ first_empty slots at) × (taken_from slots (get_or skip at 0) < taken_from slots at)
  step_nearer found =
      let one = taken_passed slots at h t found in
      let (b, e, l) = nearer slots (get_or skip at 0) (after (length slots) at) (holds.taken at h t) (after_within (length slots) at h) (rw one.0 found) in
      (b, e ∙ one.0, omega (arith, one.1))

  -- a skip may go as far as the one that it leads to
  pub skips_shortened : get_or skip at 0 < length slots → Skips slots (set skip at (get_or skip (get_or skip at 0) 0))
  skips_shortened inside =
      let next = get_or skip at 0 in
      let far = get_or skip next 0 in
      let onward : Over slots far next =
      by_test (eqb (get_or slots next 0) 0)
      (λ e. subst (λ (n : ℕ). Over slots n next) (sym (holds.free next inside (eqb-true (get_or slots next 0) 0 e))) there)
      (λ e. let d = eqb-false (get_or slots next 0) 0 e in past d (holds.taken next inside d))
      in
      record {
        room = omega (arith, holds.room, length-set skip at far);
        free = λ s l z. get_or-set_other skip at s far 0 (λ e. t (ap (λ (n : ℕ). get_or slots n 0) (sym e) ∙ z)) ∙ holds.free s l z;
        taken = λ s l d.
            by_test (eqb s at)
            (λ e.
            let same = eqb-true s at e in
            subst (λ (n : ℕ). Over slots (get_or (set skip at far) n 0) (after (length slots) n)) (sym same)
            (rw (get_or-set_same skip at far 0 (omega (arith, holds.room))) (further slots far next (after (length slots) at) (holds.taken at h t) onward)))
            (λ e. rw (get_or-set_other skip at s far 0 (eqb-false s at e)) (holds.taken s l d));
      }

-- ---- a slot taken: its skip goes one slot on
module _ (slots skip : List ℕ) (holds : Skips slots skip) (at v : ℕ) (h : at < length slots) (some : v ≢ 0) where
  still_taken : (s : ℕ) → get_or slots s 0 ≢ 0 → get_or (set slots at v) s 0 ≢ 0
  still_taken s d =
      by_test (eqb s at)
      (λ e. let same = eqb-true s at e in subst (λ (n : ℕ). get_or (set slots at v) n 0 ≢ 0) (sym same) (rw (get_or-set_same slots at v 0 h) some))
      (λ e. rw (get_or-set_other slots at s v 0 (eqb-false s at e)) d)

  still_over : (goal s : ℕ) → Over slots goal s → Over (set slots at v) goal s
  still_over goal s there = there
  still_over goal s (past t rest) = past (still_taken s t) (rw (length-set slots at v) (still_over goal (after (length slots) s) rest))

  pub skips_taken : Skips (set slots at v) (set skip at (after (length slots) at))
  skips_taken =
      let next = after (length slots) at in
      record {
        room = omega (arith, holds.room, length-set slots at v, length-set skip at next);
        free = λ s l z.
            by_test (eqb s at)
            (λ e. let same = eqb-true s at e in absurd (some (sym (get_or-set_same slots at v 0 h) ∙ ap (λ (n : ℕ). get_or (set slots at v) n 0) (sym same) ∙ z)))
            (λ e.
            let other = eqb-false s at e in
            get_or-set_other skip at s next 0 other ∙ holds.free s (omega (arith, length-set slots at v)) (sym (get_or-set_other slots at s v 0 other) ∙ z));
        taken = λ s l d.
            rw (length-set slots at v)
            (by_test (eqb s at)
            (λ e.
            let same = eqb-true s at e in
            subst (λ (n : ℕ). Over (set slots at v) (get_or (set skip at next) n 0) (after (length slots) n)) (sym same)
            (rw (get_or-set_same skip at next 0 (omega (arith, holds.room))) there))
            (λ e.
            let other = eqb-false s at e in
            rw (get_or-set_other skip at s next 0 other)
            (still_over (get_or skip s 0) (after (length slots) s) (holds.taken s (omega (arith, length-set slots at v)) (λ z. d (get_or-set_other slots at s v 0 other ∙ z))))));
      }
