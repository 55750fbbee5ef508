-- What the words of any table show, and that `sound_with` decides soundness. Assumes a number of slots that a table may have, and
-- words that are 64-bit numbers, where it says so.
use mathlib.Core.Bool.{true, ◌&&◌}
use mathlib.Core.List.{List, map, map-map}
use mathlib.Core.Path.{◌≡◌, refl, sym, ap, ◌∙◌, subst}
use Prim.Native.Nat.{ℕ, ◌+◌, ◌^◌, ◌≤◌, ◌<◌}
use native.Mathlib.Omega.{arith}
use lib.Dec.{ltb}
use lib.ListN.{length, get_or, length-map}
use Rattle.lists.specs.Lists.{nonzero, keep, every, All, sort_by, same, up_from, rises_b, Rising}
use Rattle.lists.proofs.Tests.{nonzero_says, and_left, and_right, and_both}
use Rattle.lists.proofs.Keep.{all_map, all_both, all_always, all_mapped, all_keep, kept_pass, length-keep, map-keep, every_says, every_when}
use Rattle.lists.proofs.Membership.{same_says, same_when}
use Rattle.lists.proofs.Rising.{rises_says, rises_when}
use Rattle.lists.proofs.Sorted.{sorted_all, sorted_length}
use Rattle.lists.proofs.UpFrom.{up_from-length}
use Rattle.table.specs.Layout.{most_slots, salt_word, key_field, table_words, slot_start, key_in}
use Rattle.table.specs.Contents.{Contents, entry_keys, keys_in, table_order, IsKey, IsSalt, Valid, right_measure}
use Rattle.table.specs.Table.{fresh, Sound, entry_in, held_entries, contents_of}
use Rattle.table.specs.Sound.{sound_with}
use Rattle.table.proofs.Entries.{sorted_keys}
use Rattle.table.proofs.Words.{slot_keys, held_keys, fresh_length}
use Rattle.table.proofs.Reading.{contents_of_fresh}

-- Every word is a 64-bit number.
abbrev pub WordSized : List ℕ → Type 0
WordSized words = (i : ℕ) → get_or words i 0 < 2 ^ 64

-- ---- what stands in the slots of any table, which of it is held, and what the table shows
module _ (many : ℕ) (words : List ℕ) where
  pub slot_keys_length : length (slot_keys many words) ≡ many
  unfolding slot_keys
  slot_keys_length = length-map (up_from 0 many) (key_in words) ∙ up_from-length 0 many

  slot_keys_sized : WordSized words → All (λ k. k < 2 ^ 64) (slot_keys many words)
  unfolding slot_keys
  slot_keys_sized sized =
      all_mapped (λ k. k < 2 ^ 64) (key_in words) (up_from 0 many)
      (all_always (λ s. key_in words s < 2 ^ 64) (λ s. sized (slot_start s + key_field)) (up_from 0 many))

  pub held_fit : length (held_keys many words) ≤ many
  unfolding held_keys
  held_fit = omega (arith, length-keep nonzero (slot_keys many words), slot_keys_length)

  pub held_nonzero : All (λ k. 1 ≤ k) (held_keys many words)
  unfolding held_keys
  held_nonzero = all_map (λ k. nonzero k ≡ true) (λ k. 1 ≤ k) nonzero_says (held_keys many words) (kept_pass nonzero (slot_keys many words))

  pub held_keys_lem : WordSized words → All IsKey (held_keys many words)
  unfolding held_keys
  held_keys_lem sized =
      all_both (λ k. 1 ≤ k) (λ k. k < 2 ^ 64) (held_keys many words) held_nonzero
      (all_keep (λ k. k < 2 ^ 64) nonzero (slot_keys many words) (slot_keys_sized sized))

  -- the entries held, and their keys
  pub held_entry_keys : entry_keys (held_entries many words) ≡ held_keys many words
  unfolding held_entries held_keys slot_keys entry_in
  held_entry_keys =
      map-keep (λ e. e.key) nonzero (map (entry_in words) (up_from 0 many)) ∙ ap (keep nonzero) (map-map (λ e. e.key) (entry_in words) (up_from 0 many))

  pub shown_held : keys_in (contents_of many words) ≡ sort_by ltb (held_keys many words)
  unfolding contents_of
  shown_held = sorted_keys (held_entries many words) ∙ ap (sort_by ltb) held_entry_keys

  pub shown_length : length (keys_in (contents_of many words)) ≡ length (held_keys many words)
  shown_length = ap length shown_held ∙ sorted_length (held_keys many words)

  pub shown_fit : length (keys_in (contents_of many words)) ≤ many
  shown_fit = omega (arith, shown_length, held_fit)

  shown_all : (P : ℕ → Type 0) → All P (held_keys many words) → All P (keys_in (contents_of many words))
  shown_all P h = subst (All P) (sym shown_held) (sorted_all P (held_keys many words) h)

  pub shown_nonzero : All (λ k. 1 ≤ k) (keys_in (contents_of many words))
  shown_nonzero = shown_all (λ k. 1 ≤ k) held_nonzero

  shown_salt : WordSized words → IsSalt (contents_of many words).salt
  unfolding contents_of
  shown_salt sized = sized salt_word

  pub shown_keys_lem : WordSized words → All IsKey (keys_in (contents_of many words))
  shown_keys_lem sized = shown_all IsKey (held_keys_lem sized)

-- ---- the test
module _ (many : ℕ) (words : List ℕ) (passed : sound_with many words ≡ true) where
  rest_passed : (rises_b (keys_in (contents_of many words))
      && (every right_measure (contents_of many words).entries && same words (fresh many (contents_of many words)))) ≡ true
  unfolding sound_with
  rest_passed = and_right (table_order (contents_of many words).order) _ passed

  last_passed : (every right_measure (contents_of many words).entries && same words (fresh many (contents_of many words))) ≡ true
  last_passed = and_right (rises_b (keys_in (contents_of many words))) _ rest_passed

  pub sound_exactly : words ≡ fresh many (contents_of many words)
  sound_exactly =
      same_says words (fresh many (contents_of many words)) (and_right (every right_measure (contents_of many words).entries) _ last_passed)

  pub sound_measures : All (λ e. right_measure e ≡ true) (contents_of many words).entries
  sound_measures =
      every_says right_measure (contents_of many words).entries
      (and_left (every right_measure (contents_of many words).entries) _ last_passed)

  pub sound_order : table_order (contents_of many words).order ≡ true
  unfolding sound_with
  sound_order = and_left (table_order (contents_of many words).order) _ passed

  pub sound_rises : Rising (keys_in (contents_of many words))
  sound_rises = rises_says (keys_in (contents_of many words)) (and_left (rises_b (keys_in (contents_of many words))) _ rest_passed)

  pub sound_valid : WordSized words → Valid many (contents_of many words)
  sound_valid bounded =
      record {
        order_right = sound_order;
        salt_right = shown_salt many words bounded;
        keys_right = shown_keys_lem many words bounded;
        keys_rise = sound_rises;
        keys_fit = shown_fit many words;
        measures_right = sound_measures;
      }

  pub sound_says : 1 ≤ many → many ≤ most_slots → WordSized words → Sound words
  sound_says some most bounded =
      record {
        many = many;
        contents = contents_of many words;
        some = some;
        most = most;
        valid = sound_valid bounded;
        exactly = sound_exactly;
      }

pub fresh_passes : (many : ℕ) (c : Contents) → 1 ≤ many → Valid many c → sound_with many (fresh many c) ≡ true
unfolding sound_with
fresh_passes many c some valid =
    rw (contents_of_fresh many c some valid)
    (and_both (table_order c.order) _ valid.order_right
    (and_both (rises_b (keys_in c)) _ (rises_when (keys_in c) valid.keys_rise)
    (and_both (every right_measure c.entries) _ (every_when right_measure c.entries valid.measures_right)
    (same_when (fresh many c) (fresh many c) refl))))

pub sound_when : (many : ℕ) (words : List ℕ) → Sound words → length words ≡ table_words many → sound_with many words ≡ true
sound_when many words sound long =
    let as_many : sound.many ≡ many = omega (arith, fresh_length sound.many sound.contents, ap length sound.exactly) in
    ap (sound_with many) sound.exactly
    ∙ subst (λ (n : ℕ). sound_with n (fresh sound.many sound.contents) ≡ true) as_many
    (fresh_passes sound.many sound.contents sound.some sound.valid)
