-- The claims of the slot search: in any words from where it ends, in a sound table from where its keys are. Assumes nothing.
use mathlib.Core.Bool.{true, false}
use mathlib.Core.List.{List}
use mathlib.Core.Logic.{inl, ⊎_elim}
use mathlib.Core.Path.{◌≡◌, sym, ap, ◌∙◌, subst}
use Prim.Native.Nat.{ℕ, ◌<◌}
use native.Mathlib.Nat.{mod-lt}
use native.Mathlib.Omega.{arith}
use Rattle.std.specs.Prelude.{Option, Some, None}
use Rattle.lists.specs.Lists.{member}
use Rattle.lists.proofs.Tests.{true_or_false}
use Rattle.priority.specs.Priority.{home_of}
use Rattle.priority.proofs.Bounds.{home_of_below}
use Rattle.table.specs.Layout.{key_in}
use Rattle.table.specs.Table.{Sound}
use Rattle.table_find.specs.Find.{stops_at, slot_found, found_at, searched, OnlyAt}
use Rattle.table_find.specs.Claims.{slot_from, Stops, TellsFirst, TellsItsSlot, TellsNoKey, Search}
use Rattle.table_find.proofs.Searching.{stops_on_empty, stops_on_key, stops_says, slot_comes_up, Ends, where_search_ends, found_at_lem, found_nowhere}
use Rattle.table_find.proofs.Searching.Ends.{ends_at, ends_nowhere}
use Rattle.table.specs.Contents.{keys_in, priority_in}
use Rattle.table_find.proofs.Finding.{held_key_found, absent_key_nowhere}

-- ---- any words
-- a slot that is passed neither is empty nor holds the key
passed_by : (words : List ℕ) (key slot : ℕ) → stops_at words key slot ≡ false → Stops words key slot → ⊥
unfolding stops_at
passed_by words key slot e stop =
    true_or_false (stops_at words key slot)
    (⊎_elim (λ q. stops_on_empty key (key_in words slot) q) (λ q. stops_on_key key (key_in words slot) q) stop) e

slot_from_within : (many priority steps slot : ℕ) → 0 < many → slot_from many priority steps ≡ slot → slot < many
unfolding slot_from
slot_from_within many priority steps slot some e = subst (λ (n : ℕ). n < many) e (mod-lt _ some)

module _ (many : ℕ) (some : 0 < many) (words : List ℕ) (key priority : ℕ) where
  tells_first : (slot : ℕ) → Ends many (stops_at words key) (home_of priority many) many slot
      → TellsFirst many words key priority (found_at many slot)
  unfolding TellsFirst slot_from stops_at
  tells_first slot (ends_at steps l e stop passed) =
      rw (found_at_lem many slot (slot_from_within many priority steps slot some e))
      (record {
        steps = steps;
        within = l;
        there = e;
        stops = stops_says key (key_in words slot) stop;
        passed = λ fewer h. passed_by words key (slot_from many priority fewer) (passed fewer h);
      })
  tells_first slot (ends_nowhere e passed) =
      rw (found_nowhere many slot (omega arith))
      (λ other h.
      let (steps, l, here) = slot_comes_up many (home_of priority many) other (home_of_below priority some) h in
      passed_by words key other (ap (stops_at words key) (sym here) ∙ passed steps l))

  tells_any : TellsFirst many words key priority (searched many words key priority)
  tells_any = tells_first (slot_found many words key priority) (where_search_ends many words key priority some)

-- ---- a sound table
module _ (words : List ℕ) (sound : Sound words) where
  tells_its_slot : (key : ℕ) → member key (keys_in sound.contents) ≡ true
      → TellsItsSlot sound.many words key (searched sound.many words key (priority_in sound.contents key))
  unfolding TellsItsSlot
  tells_its_slot key m =
      let many = sound.many in
      let there : OnlyAt many words key (slot_found many words key (priority_in sound.contents key)) =
      subst (λ (ws : List ℕ). OnlyAt many ws key (slot_found many ws key (priority_in sound.contents key))) (sym sound.exactly)
      (held_key_found many sound.contents sound.some sound.valid key m)
      in
      rw (found_at_lem many (slot_found many words key (priority_in sound.contents key)) there.below) there

  module _ (key priority : ℕ) (absent : member key (keys_in sound.contents) ≡ false) where
    nowhere : (slot : ℕ) → key_in words slot ≡ key → key ≡ 0
    nowhere slot e =
        absent_key_nowhere sound.many sound.contents sound.some sound.valid key slot absent
        (ap (λ (ws : List ℕ). key_in ws slot) (sym sound.exactly) ∙ e)

    empty_or_none : (answer : Option ℕ) → TellsFirst sound.many words key priority answer → TellsNoKey sound.many words answer
    unfolding TellsFirst TellsNoKey
    empty_or_none (Some slot) found = (
      slot_from_within sound.many priority found.steps slot sound.some found.there,
      ⊎_elim (λ e. e) (λ e. e ∙ nowhere slot e) found.stops,
    )
    empty_or_none None none = λ slot h e. none slot h (inl e)

    tells_no_key : TellsNoKey sound.many words (searched sound.many words key priority)
    tells_no_key =
        empty_or_none (searched sound.many words key priority) (tells_any sound.many sound.some words key priority)

pub search_tells : Search
search_tells = record { any_number = tells_any; held_key = tells_its_slot; absent_key = tells_no_key }
