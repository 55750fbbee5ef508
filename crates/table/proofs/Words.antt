-- The words of a fresh table: how many, its header, and what stands in its slots. Assumes nothing.
use mathlib.Core.List.{List, [], ◌∷◌, ◌++◌, map, flat_map}
use mathlib.Core.Bool.{true}
use mathlib.Core.Logic.{◌≢◌}
use mathlib.Core.Path.{◌≡◌, refl, sym, ap, ap₂, ◌∙◌}
use Prim.Native.Nat.{ℕ, zero, suc, ◌+◌, ◌*◌, ◌<◌}
use native.Mathlib.Omega.{arith}
use lib.Dec.{eqb}
use lib.ListN.{length, get_or, take, drop, replicate, length-append, length-replicate}
use lib.Seq.{take_at, drop-append-add, get_or-take, get_or-drop}
use borrow.Author.Tests.{eqb-true, ne_eqb}
use Rattle.lists.specs.Lists.{nonzero, keep, up_from, sort_by}
use Rattle.lists.proofs.FlatMap.{length-flat_map_each}
use Rattle.lists.proofs.Tests.{by_test}
use Rattle.lists.proofs.UpFrom.{mapped_up_from_all}
use Rattle.measure.specs.Measure.{is_measure, stored_correction, measure_from}
use Rattle.measure.proofs.Stored.{read_back}
use Rattle.treap.specs.Treap.{top, outranks}
use Rattle.treap.specs.Slots.{slots_of}
use Rattle.table_slots.proofs.Placing.{place_all-length}
use Rattle.table.specs.Layout.{slot_words, order_word, size_word, root_word, salt_word, key_field, length_field, correction_field, table_words, slot_start, key_in}
use Rattle.table.specs.Contents.{Contents, keys_in, priority_in, measure_in}
use Rattle.table.specs.Table.{home_in, header, slot_of, fresh, entry_in}

-- ---- the keys in the slots
-- In the order of slots, zero for an empty one; and those that are not empty.
unfoldable pub slot_keys : ℕ → List ℕ → List ℕ
slot_keys many words = map (key_in words) (up_from 0 many)

unfoldable pub held_keys : ℕ → List ℕ → List ℕ
held_keys many words = keep nonzero (slot_keys many words)

-- ---- slot by slot
slot_length : (c : Contents) (k : ℕ) → length (slot_of c k) ≡ slot_words
unfolding slot_of
slot_length c k = by_test (eqb k 0) (λ e. rw e) (λ e. rw e)

-- a slot's first word is the key in it
slot_key : (c : Contents) (k : ℕ) → get_or (slot_of c k) key_field 0 ≡ k
unfolding slot_of
slot_key c k = by_test (eqb k 0) (λ e. rw e (sym (eqb-true k 0 e))) (λ e. rw e)

-- the last two words of one that is not empty are the key's measure
slot_measure : (c : Contents) (k : ℕ) → k ≢ 0
    → (get_or (slot_of c k) length_field 0 ≡ (measure_in c.entries k).length) × (get_or (slot_of c k) correction_field 0 ≡ stored_correction (measure_in c.entries k))
unfolding slot_of
slot_measure c k some = rw (ne_eqb k 0 some) (refl, refl)

slot_in_slots : (c : Contents) (ks : List ℕ) (s : ℕ) → s < length ks
    → take slot_words (drop (slot_words * s) (flat_map (slot_of c) ks)) ≡ slot_of c (get_or ks s 0)
unfolding flat_map
slot_in_slots c [] s h = absurd (omega arith)
slot_in_slots c (k ∷ ks) zero h = take_at (slot_of c k) (flat_map (slot_of c) ks) slot_words (slot_length c k)
slot_in_slots c (k ∷ ks) (suc s) h =
    let past : slot_words * suc s ≡ length (slot_of c k) + slot_words * s = omega (arith, slot_length c k) in
    ap (λ (n : ℕ). take slot_words (drop n (slot_of c k ++ flat_map (slot_of c) ks))) past
    ∙ ap (take slot_words) (drop-append-add (slot_of c k) (flat_map (slot_of c) ks) (slot_words * s))
    ∙ slot_in_slots c ks s (omega arith)

-- ---- the fresh table
-- The keys in the slots of the fresh table, in the slots' order; zero for an empty slot.
abbrev pub placed_keys : ℕ → Contents → List ℕ
placed_keys many c = slots_of (priority_in c) (home_in many c.salt) many (keys_in c)

pub placed_length : (many : ℕ) (c : Contents) → length (placed_keys many c) ≡ many
unfolding slots_of
placed_length many c =
    place_all-length (home_in many c.salt) (replicate many 0) (sort_by (outranks (priority_in c)) (keys_in c)) ∙ length-replicate many 0

pub fresh_length : (many : ℕ) (c : Contents) → length (fresh many c) ≡ table_words many
unfolding fresh header
fresh_length many c =
    length-append (header c) (flat_map (slot_of c) (placed_keys many c))
    ∙ omega (arith, length-flat_map_each (slot_of c) slot_words (slot_length c) (placed_keys many c), placed_length many c)

module _ (many : ℕ) (c : Contents) where
  pub fresh_order : get_or (fresh many c) order_word 0 ≡ c.order
  unfolding fresh header
  fresh_order = refl

  pub fresh_size : get_or (fresh many c) size_word 0 ≡ length (keys_in c)
  unfolding fresh header
  fresh_size = refl

  pub fresh_root : get_or (fresh many c) root_word 0 ≡ top (priority_in c) (keys_in c)
  unfolding fresh header
  fresh_root = refl

  pub fresh_salt : get_or (fresh many c) salt_word 0 ≡ c.salt
  unfolding fresh header
  fresh_salt = refl

  pub slot_in_fresh : (s : ℕ) → s < many → take slot_words (drop (slot_start s) (fresh many c)) ≡ slot_of c (get_or (placed_keys many c) s 0)
  unfolding fresh header
  slot_in_fresh s h =
      ap (take slot_words) (drop-append-add (header c) (flat_map (slot_of c) (placed_keys many c)) (slot_words * s))
      ∙ slot_in_slots c (placed_keys many c) s (omega (arith, placed_length many c))

  -- a word of a slot
  pub fresh_word : (s field : ℕ) → s < many → field < slot_words
      → get_or (fresh many c) (slot_start s + field) 0 ≡ get_or (slot_of c (get_or (placed_keys many c) s 0)) field 0
  fresh_word s field h l =
      sym (get_or-take slot_words (drop (slot_start s) (fresh many c)) field 0 l ∙ get_or-drop (slot_start s) (fresh many c) field 0)
      ∙ ap (λ (words : List ℕ). get_or words field 0) (slot_in_fresh s h)

  pub fresh_key : (s : ℕ) → s < many → key_in (fresh many c) s ≡ get_or (placed_keys many c) s 0
  fresh_key s h = fresh_word s key_field h (omega arith) ∙ slot_key c (get_or (placed_keys many c) s 0)

  -- the measure in a slot that is not empty
  pub fresh_measure : (s : ℕ) → s < many → key_in (fresh many c) s ≢ 0 → is_measure (measure_in c.entries (key_in (fresh many c) s)) ≡ true
      → (entry_in (fresh many c) s).measure ≡ measure_in c.entries (key_in (fresh many c) s)
  unfolding entry_in
  fresh_measure s h some right =
      let key = fresh_key s h in
      let slot : slot_of c (get_or (placed_keys many c) s 0) ≡ slot_of c (key_in (fresh many c) s) = ap (slot_of c) (sym key) in
      let read : (field : ℕ) → field < slot_words → get_or (fresh many c) (slot_start s + field) 0 ≡ get_or (slot_of c (key_in (fresh many c) s)) field 0 =
      λ field l. fresh_word s field h l ∙ ap (λ (words : List ℕ). get_or words field 0) slot
      in
      ap₂ measure_from (read length_field (omega arith) ∙ (slot_measure c (key_in (fresh many c) s) some).0)
      (read correction_field (omega arith) ∙ (slot_measure c (key_in (fresh many c) s) some).1)
      ∙ read_back (measure_in c.entries (key_in (fresh many c) s)) right

pub fresh_keys : (many : ℕ) (c : Contents) → slot_keys many (fresh many c) ≡ placed_keys many c
unfolding slot_keys
fresh_keys many c =
    ap (λ (n : ℕ). map (key_in (fresh many c)) (up_from 0 n)) (sym (placed_length many c))
    ∙ mapped_up_from_all (key_in (fresh many c)) (placed_keys many c) 0 0
    (λ i h. ap (key_in (fresh many c)) (omega arith) ∙ fresh_key many c i (omega (arith, placed_length many c)))
