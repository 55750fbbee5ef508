-- Steps in a row yield what a range writes, then end for ever. Assumes a sound table of 64-bit words, as lent words are.
use mathlib.Core.Bool.{true}
use mathlib.Core.List.{List, [], ◌∷◌, ◌++◌, map}
use mathlib.Core.Logic.{◌≢◌}
use mathlib.Core.Path.{◌≡◌, refl, sym, ap, ap₂, ◌∙◌}
use Prim.Native.Nat.{ℕ, zero, suc, ◌+◌, ◌<◌, ◌≤◌}
use native.Mathlib.Omega.{arith}
use lib.Dec.{eqb}
use lib.ListN.{length, take, replicate}
use borrow.Author.Tests.{eq-eqb, ne_eqb, eqb-true, eqb-false}
use Rattle.lists.specs.Lists.{All, lies}
use Rattle.lists.proofs.Tests.{by_test, lies_when}
use Rattle.lists.proofs.Keep.{all_map, keep_all}
use Rattle.table.specs.Contents.{IsKey, Valid, keys_in}
use Rattle.table.proofs.Soundness.{WordSized, sound_valid}
use Rattle.table_limits.specs.Lengths.{slots_for}
use Rattle.table_judge.specs.Judge.{is_sound}
use Rattle.table_judge.proofs.Decides.{some_slots, passed_with}
use Rattle.intervals.specs.Intervals.{within}
use Rattle.call_replies.specs.Replies.{Reply}
use Rattle.call_meaning.specs.Reasons.{shown}
use Rattle.call_step.specs.declared.Place.{Place}
use Rattle.call_step.specs.Steps.{greatest_key, place_of, place_from, whole_place, spent_place, key_reply, end_reply, step_refusal, sought, yielded, passed, moved, step_reply, step_place, steps_from, keys_then_end}
use Rattle.call_step.proofs.Moving.{accepted}
use Rattle.table_least.proofs.LeastOfRange.{least_none, least_first, within_all, above, within_after}

-- ---- end for ever
ends : (n m : ℕ) → n ≤ m → take n (replicate m end_reply) ≡ replicate n end_reply
ends zero m h = refl
ends (suc n) zero h = absurd (omega arith)
ends (suc n) (suc m) h = ap (λ (r : List Reply). end_reply ∷ r) (ends n m (omega arith))

module _ (words : List ℕ) (passes : is_sound words ≡ true) where
  not_refused : step_refusal words ≡ 0
  not_refused = accepted words (some_slots words passes) passes

  -- ---- a step from a place that is done
  reply_done : (place : Place) → place.done ≡ true → step_reply words place ≡ end_reply
  unfolding step_reply
  reply_done place e = rw (not_refused, e)

  place_done : (place : Place) → place.done ≡ true → step_place words place ≡ place
  unfolding step_place
  place_done place e = rw (not_refused, e)

  -- "If done, it answers end and changes nothing": end for ever.
  pub spent_ends : (place : Place) → place.done ≡ true → (n : ℕ) → steps_from words n place ≡ replicate n end_reply
  spent_ends place e zero = refl
  spent_ends place e (suc n) =
      ap₂ (λ (r : Reply) (rs : List Reply). r ∷ rs) (reply_done place e)
      (ap (steps_from words n) (place_done place e) ∙ spent_ends place e n)

  -- ---- a step from a place that is not done
  module _ (next high key : ℕ) (found : sought words (place_from next high) ≡ key) where
    reply_end : key ≡ 0 → step_reply words (place_from next high) ≡ end_reply
    unfolding step_reply yielded
    reply_end e = rw (not_refused, found, e)

    place_end : key ≡ 0 → step_place words (place_from next high) ≡ place_of next high true
    unfolding step_place moved
    place_end e = rw (not_refused, found, e)

    reply_key : key ≢ 0 → step_reply words (place_from next high) ≡ key_reply key
    unfolding step_reply yielded
    reply_key d = rw (not_refused, found, ne_eqb key 0 d)

    place_next : key ≢ 0 → key ≢ greatest_key → step_place words (place_from next high) ≡ place_from (key + 1) high
    unfolding step_place moved passed
    place_next d g = rw (not_refused, found, ne_eqb key 0 d, ne_eqb key greatest_key g)

    place_last : key ≢ 0 → key ≡ greatest_key → step_place words (place_from next high) ≡ place_of next high true
    unfolding step_place moved passed
    place_last d g = rw (not_refused, found, ne_eqb key 0 d, eq-eqb key greatest_key g)

-- no key comes after the greatest
none_above : (k : ℕ) (rest : List ℕ) → k ≡ greatest_key → All (λ x. k < x) rest → All IsKey rest → rest ≡ []
none_above k [] e more keys = refl
none_above k (x ∷ rest) e more keys = absurd (omega (arith, more.0, keys.0.1))

module _ (words : List ℕ) (sized : WordSized words) (passes : is_sound words ≡ true) where
  shown_valid : Valid (slots_for (length words)) (shown words)
  unfolding shown
  shown_valid = sound_valid (slots_for (length words)) words (passed_with words passes) sized

  module _ (next high : ℕ) where
    none_sought : within next high (keys_in (shown words)) ≡ [] → sought words (place_from next high) ≡ 0
    unfolding sought
    none_sought e = least_none next high (keys_in (shown words)) e

    module _ (k : ℕ) (rest : List ℕ) (starts : within next high (keys_in (shown words)) ≡ k ∷ rest) where
      first_sought : sought words (place_from next high) ≡ k
      unfolding sought
      first_sought = least_first next high (keys_in (shown words)) k rest starts

      all_keys : All IsKey (k ∷ rest)
      all_keys = within_all next high (keys_in (shown words)) k rest starts IsKey shown_valid.keys_right

      no_zero : k ≢ 0
      no_zero e = omega (arith, all_keys.0.0)

      none_left : k ≡ greatest_key → rest ≡ []
      none_left e = none_above k rest e (above next high (keys_in (shown words)) k rest starts shown_valid.keys_rise) all_keys.1

      rest_next : within (k + 1) high (keys_in (shown words)) ≡ rest
      rest_next = within_after next high (keys_in (shown words)) k rest starts shown_valid.keys_rise

  -- the steps from a place, by the keys that are left of its range
  steps_through : (n m next high : ℕ) → n ≤ m → (left : List ℕ) → within next high (keys_in (shown words)) ≡ left
      → steps_from words n (place_from next high) ≡ take n (map key_reply left ++ replicate m end_reply)
  steps_through zero m next high h left e = refl
  steps_through (suc n) m next high h [] e =
      let found = none_sought next high e in
      ap₂ (λ (r : Reply) (rs : List Reply). r ∷ rs) (reply_end words passes next high 0 found refl)
      (ap (steps_from words n) (place_end words passes next high 0 found refl) ∙ spent_ends words passes (place_of next high true) refl n)
      ∙ sym (ends (suc n) m h)
  steps_through (suc n) m next high h (k ∷ rest) e =
      let found = first_sought next high k rest e in
      let some = no_zero next high k rest e in
      ap₂ (λ (r : Reply) (rs : List Reply). r ∷ rs) (reply_key words passes next high k found some)
      (by_test (eqb k greatest_key)
      (λ t.
      let last = eqb-true k greatest_key t in
      ap (steps_from words n) (place_last words passes next high k found some last)
      ∙ spent_ends words passes (place_of next high true) refl n
      ∙ sym (ends n m (omega arith))
      ∙ ap (λ (ks : List ℕ). take n (map key_reply ks ++ replicate m end_reply)) (sym (none_left next high k rest e last)))
      (λ t.
      ap (steps_from words n) (place_next words passes next high k found some (eqb-false k greatest_key t))
      ∙ steps_through n m (k + 1) high (omega arith) rest (rest_next next high k rest e)))

  -- "A range may also be had key by key": steps from low to high yield what a range from low to high writes, then end for ever.
  pub steps_are_the_range : (low high n : ℕ) → steps_from words n (place_from low high) ≡ keys_then_end (within low high (keys_in (shown words))) n
  unfolding keys_then_end
  steps_are_the_range low high n = steps_through n n low high (omega arith) (within low high (keys_in (shown words))) refl

  -- every key lies in the whole library's range
  whole_range : within 0 greatest_key (keys_in (shown words)) ≡ keys_in (shown words)
  unfolding within
  whole_range =
      keep_all (lies 0 greatest_key) (keys_in (shown words))
      (all_map IsKey (λ k. lies 0 greatest_key k ≡ true) (λ k h. lies_when 0 greatest_key k (omega arith) (omega arith)) (keys_in (shown words)) shown_valid.keys_right)

  -- "The place for the whole library": every held key, then end for ever.
  pub whole_steps_through_all : (n : ℕ) → steps_from words n whole_place ≡ keys_then_end (keys_in (shown words)) n
  whole_steps_through_all n = steps_are_the_range 0 greatest_key n ∙ ap (λ (ks : List ℕ). keys_then_end ks n) whole_range

-- "The spent place": end for ever.
pub spent_place_ends : (words : List ℕ) → is_sound words ≡ true → (n : ℕ) → steps_from words n spent_place ≡ replicate n end_reply
spent_place_ends words passes n = spent_ends words passes spent_place refl n
