-- What is read of a table's measures: within the rules always, and what the table shows where the table is sound. Assumes nothing.
use mathlib.Core.Bool.{Bool, true}
use mathlib.Core.List.Permᴰ
use mathlib.Core.List.{List, map}
use mathlib.Core.Path.{◌≡◌, refl, ap, ap₂, ◌∙◌}
use Prim.Native.Nat.{ℕ, ◌+◌, ◌≤◌, ◌<◌}
use native.Mathlib.Omega.{arith}
use lib.Dec.{eqb}
use lib.ListN.{get_or}
use Rattle.lists.specs.Lists.{All, nonzero, keep, every, same, sort_by, up_from}
use Rattle.lists.proofs.Tests.{by_test}
use Rattle.lists.proofs.Keep.{all_always, all_map, all_mapped, all_keep, every_says, every_when, map_same}
use Rattle.lists.proofs.Membership.{same_says}
use Rattle.lists.proofs.Sorting.{all_permuted, sort_by_permutes}
use Rattle.lists.proofs.UpFrom.{up_from_within}
use Rattle.measure.specs.Measure.{is_measure}
use Rattle.measure.specs.Tag.{is_stored}
use Rattle.measure.proofs.Stored.{stored_measures, measure_stored, unmeasured_right}
use Rattle.table.specs.Layout.{order_word, salt_word, length_field, correction_field, slot_start}
use Rattle.table.specs.Contents.{Entry, Contents, measure_in, key_below, right_measure}
use Rattle.table.specs.Table.{slot_of, fresh, entry_in, held_entries, contents_of}
use Rattle.table.specs.Sound.{sound_with}
use Rattle.table.proofs.Entries.{found_right}
use Rattle.table.proofs.Words.{placed_keys, fresh_word}
use Rattle.table.proofs.Soundness.{sound_exactly, sound_measures}
use Rattle.table_decode.specs.Decode.{stored_at, entry_read, held_read, contents_read}

-- The last two words of each slot are those of a measure within the rules.
unfoldable all_stored : ℕ → List ℕ → Bool
all_stored many words = every (stored_at words) (up_from 0 many)

-- ---- one slot
module _ (words : List ℕ) (slot : ℕ) where
  shown_right : stored_at words slot ≡ true → is_measure (entry_in words slot).measure ≡ true
  unfolding stored_at entry_in
  shown_right h = stored_measures (get_or words (slot_start slot + length_field) 0) (get_or words (slot_start slot + correction_field) 0) h

  entry_right : right_measure (entry_read words slot) ≡ true
  unfolding entry_read
  entry_right = by_test (stored_at words slot) (λ t. rw t (shown_right t)) (λ t. rw t unmeasured_right)

  entry_shown_lem : stored_at words slot ≡ true → entry_read words slot ≡ entry_in words slot
  unfolding entry_read entry_in
  entry_shown_lem t = rw t refl

-- ---- the whole table
module _ (many : ℕ) (words : List ℕ) where
  pub read_right : All (λ e. right_measure e ≡ true) (contents_read many words).entries
  unfolding contents_read held_read
  read_right =
      all_permuted (λ e. right_measure e ≡ true) (Permᴰ.symm (sort_by_permutes key_below (held_read many words)))
      (all_keep (λ e. right_measure e ≡ true) (λ e. nonzero e.key) (map (entry_read words) (up_from 0 many))
      (all_mapped (λ e. right_measure e ≡ true) (entry_read words) (up_from 0 many)
      (all_always (λ s. right_measure (entry_read words s) ≡ true) (entry_right words) (up_from 0 many))))

  stored_shown : all_stored many words ≡ true → contents_read many words ≡ contents_of many words
  unfolding contents_read contents_of held_read held_entries all_stored
  stored_shown h =
      ap (λ (es : List Entry). record { order = get_or words order_word 0; salt = get_or words salt_word 0; entries = sort_by key_below (keep (λ e. nonzero e.key) es) })
      (map_same (entry_read words) (entry_in words) (up_from 0 many)
      (all_map (λ s. stored_at words s ≡ true) (λ s. entry_read words s ≡ entry_in words s) (entry_shown_lem words) (up_from 0 many)
      (every_says (stored_at words) (up_from 0 many) h)))

-- ---- fresh tables
nothing_stored : is_stored 0 0 ≡ true
unfolding is_stored
nothing_stored = refl

-- the words of a slot are those of a measure within the rules, where all measures are
slot_stored : (c : Contents) → All (λ e. right_measure e ≡ true) c.entries → (k : ℕ)
    → is_stored (get_or (slot_of c k) length_field 0) (get_or (slot_of c k) correction_field 0) ≡ true
unfolding slot_of
slot_stored c right k =
    by_test (eqb k 0) (λ t. rw t nothing_stored) (λ t. rw t (measure_stored (measure_in c.entries k) (found_right c.entries k right)))

fresh_stored : (many : ℕ) (words : List ℕ) (c : Contents) → words ≡ fresh many c → All (λ e. right_measure e ≡ true) c.entries → all_stored many words ≡ true
unfolding all_stored stored_at
fresh_stored many words c e right =
    ap (all_stored many) e
    ∙ every_when (stored_at (fresh many c)) (up_from 0 many)
    (all_map (λ s. (0 ≤ s) × (s < 0 + many)) (λ s. stored_at (fresh many c) s ≡ true)
    (λ s h.
    ap₂ is_stored (fresh_word many c s length_field (omega (arith, h.1)) (omega arith)) (fresh_word many c s correction_field (omega (arith, h.1)) (omega arith))
    ∙ slot_stored c right (get_or (placed_keys many c) s 0))
    (up_from 0 many) (up_from_within 0 many))

-- ---- sound tables
module _ (many : ℕ) (words : List ℕ) where
  -- what is read of a sound table is what it shows
  pub sound_read : sound_with many words ≡ true → contents_read many words ≡ contents_of many words
  sound_read t = stored_shown many words (fresh_stored many words (contents_of many words) (sound_exactly many words t) (sound_measures many words t))

  -- and what is read of words that are those of what is read is what they show
  pub exact_read : same words (fresh many (contents_read many words)) ≡ true → contents_read many words ≡ contents_of many words
  exact_read t =
      stored_shown many words
      (fresh_stored many words (contents_read many words) (same_says words (fresh many (contents_read many words)) t) (read_right many words))
