-- The words of a key's slot in a sound table. Assumes that the slot is one of the table's and holds the key.
use mathlib.Core.Bool.{true}
use mathlib.Core.List.{List}
use mathlib.Core.Logic.{◌≢◌}
use mathlib.Core.Path.{◌≡◌, sym, ap, ap₂, ◌∙◌}
use Prim.Native.Nat.{ℕ, ◌+◌, ◌<◌, ◌≤◌}
use native.Mathlib.Omega.{arith}
use lib.ListN.{get_or}
use borrow.Author.Tests.{eq-eqb, ne_eqb, lt-ltb, le-ltb}
use Rattle.measure.specs.Measure.{is_measure, stored_correction, measure_from}
use Rattle.measure.specs.Tag.{stored_values}
use Rattle.measure.proofs.Stored.{read_back, measure_stored, stored_bounds}
use Rattle.treap.specs.Treap.{top, left_link, right_link}
use Rattle.treap.specs.Levels.{rank, count, leader}
use Rattle.treap.specs.Blocks.{root_rank}
use Rattle.treap_structure.proofs.Blocks.{block_level}
use Rattle.treap_structure.proofs.Bounds.{rank_at_most}
use Rattle.table.specs.Layout.{most_slots, slot_words, root_word, left_field, right_field, leader_field, rank_field, count_field, length_field, correction_field, slot_start, key_in}
use Rattle.table.specs.Contents.{Contents, keys_in, priority_in, measure_in}
use Rattle.table.specs.Table.{slot_of, fresh, contents_of}
use Rattle.table.specs.Sound.{sound_with}
use Rattle.table.proofs.Entries.{found_right}
use Rattle.table.proofs.Words.{fresh_root, fresh_word, fresh_key}
use Rattle.table.proofs.Soundness.{sound_exactly, sound_measures, shown_fit}
use Rattle.table_entries.specs.Steps.{next_key, InSlot}

-- any word of a slot that holds a key, in a fresh table
field_in_fresh : (many : ℕ) (c : Contents) (k slot field : ℕ) → slot < many → key_in (fresh many c) slot ≡ k → field < slot_words
    → get_or (fresh many c) (slot_start slot + field) 0 ≡ get_or (slot_of c k) field 0
field_in_fresh many c k slot field inside holds within =
    fresh_word many c slot field inside within ∙ ap (λ (key : ℕ). get_or (slot_of c key) field 0) (sym (fresh_key many c slot inside) ∙ holds)

-- the root's word
pub root_is : (many : ℕ) (words : List ℕ) → sound_with many words ≡ true → get_or words root_word 0 ≡ top (priority_in (contents_of many words)) (keys_in (contents_of many words))
root_is many words passed =
    ap (λ (ws : List ℕ). get_or ws root_word 0) (sound_exactly many words passed) ∙ fresh_root many (contents_of many words)

-- ---- the words of a key's slot, in a sound table
module _ (many : ℕ) (words : List ℕ) (k slot : ℕ) (at : InSlot many words k slot) where
  abbrev c : Contents
  c = contents_of many words

  field_is : (field : ℕ) → field < slot_words → get_or words (slot_start slot + field) 0 ≡ get_or (slot_of c k) field 0
  field_is field within =
      let exactly = sound_exactly many words at.sound in
      ap (λ (ws : List ℕ). get_or ws (slot_start slot + field) 0) exactly
      ∙ field_in_fresh many c k slot field at.below (ap (λ (ws : List ℕ). key_in ws slot) (sym exactly) ∙ at.holds) within

  key_some : k ≢ 0
  key_some e = omega (arith, at.positive)

  left_is : get_or words (slot_start slot + left_field) 0 ≡ left_link (priority_in c) (keys_in c) k
  unfolding slot_of
  left_is = field_is left_field (omega arith) ∙ rw (ne_eqb k 0 key_some)

  right_is : get_or words (slot_start slot + right_field) 0 ≡ right_link (priority_in c) (keys_in c) k
  unfolding slot_of
  right_is = field_is right_field (omega arith) ∙ rw (ne_eqb k 0 key_some)

  pub leader_is : get_or words (slot_start slot + leader_field) 0 ≡ leader c.order (priority_in c) (keys_in c) k
  unfolding slot_of
  leader_is = field_is leader_field (omega arith) ∙ rw (ne_eqb k 0 key_some)

  pub rank_is : get_or words (slot_start slot + rank_field) 0 ≡ rank c.order (priority_in c) (keys_in c) k
  unfolding slot_of
  rank_is = field_is rank_field (omega arith) ∙ rw (ne_eqb k 0 key_some)

  pub count_is : get_or words (slot_start slot + count_field) 0 ≡ count c.order (priority_in c) (keys_in c) k
  unfolding slot_of
  count_is = field_is count_field (omega arith) ∙ rw (ne_eqb k 0 key_some)

  -- the last two words, and the measure that they show
  pub length_is : get_or words (slot_start slot + length_field) 0 ≡ (measure_in c.entries k).length
  unfolding slot_of
  length_is = field_is length_field (omega arith) ∙ rw (ne_eqb k 0 key_some)

  stored_is : get_or words (slot_start slot + correction_field) 0 ≡ stored_correction (measure_in c.entries k)
  unfolding slot_of
  stored_is = field_is correction_field (omega arith) ∙ rw (ne_eqb k 0 key_some)

  measure_right : is_measure (measure_in c.entries k) ≡ true
  measure_right = found_right c.entries k (sound_measures many words at.sound)

  pub stored_small : get_or words (slot_start slot + correction_field) 0 < stored_values
  stored_small =
      let m = measure_in c.entries k in
      omega (arith, stored_is, (stored_bounds m.length (stored_correction m) (measure_stored m measure_right)).1)

  pub measure_is : measure_from (get_or words (slot_start slot + length_field) 0) (get_or words (slot_start slot + correction_field) 0) ≡ measure_in c.entries k
  measure_is = ap₂ measure_from length_is stored_is ∙ read_back (measure_in c.entries k) measure_right

  pub rank_word_small : get_or words (slot_start slot + rank_field) 0 ≤ most_slots
  rank_word_small = omega (arith, rank_is, rank_at_most c.order (priority_in c) (keys_in c) k, shown_fit many words, at.few)

  -- what the words amount to
  pub root_level_is : (word : ℕ) → word ≡ get_or words (slot_start slot + rank_field) 0 → k ≡ get_or words root_word 0 → word ≡ block_level c.order (priority_in c) (keys_in c) k
  unfolding block_level root_rank
  root_level_is word e r =
      let root : k ≡ top (priority_in c) (keys_in c) = r ∙ root_is many words at.sound in
      rw (eq-eqb k (top (priority_in c) (keys_in c)) root) (e ∙ rank_is ∙ ap (rank c.order (priority_in c) (keys_in c)) root)

  pub other_level_is : (word : ℕ) → word ≡ get_or words (slot_start slot + rank_field) 0 → k ≢ get_or words root_word 0 → word + 1 ≡ block_level c.order (priority_in c) (keys_in c) k
  unfolding block_level
  other_level_is word e d =
      rw (ne_eqb k (top (priority_in c) (keys_in c)) (λ r. d (r ∙ sym (root_is many words at.sound)))) (omega (arith, e ∙ rank_is))

  pub next_is_left : (word key : ℕ) → word ≡ get_or words (slot_start slot + left_field) 0 → key < k → word ≡ next_key c k key
  unfolding next_key
  next_is_left word key e h = rw (lt-ltb key k h) (e ∙ left_is)

  pub next_is_right : (word key : ℕ) → word ≡ get_or words (slot_start slot + right_field) 0 → k ≤ key → word ≡ next_key c k key
  unfolding next_key
  next_is_right word key e h = rw (le-ltb key k h) (e ∙ right_is)
