-- The key at a position, and a slot's stores. Assumes nothing.
use mathlib.Core.List.{List, [], ◌∷◌, append_assoc}
use mathlib.Core.Path.{◌≡◌, ap, ◌∙◌}
use Prim.Native.Nat.{ℕ, ◌+◌, ◌-◌, ◌≤◌}
use native.Mathlib.Nat.{add-zero}
use native.Mathlib.Numerals.{add-one, add-two, add-three, add-four, add_five, add_six, add_seven, sub-one}
use lib.ListN.{length, get_or, set, take, drop}
use lib.Seq.{sets, sets-eq}
use borrow.Author.Tests.{eq-eqb, ne_eqb}
use Rattle.lists.specs.Lists.{overwrite}
use Rattle.measure.specs.Tag.{length_in, stored_in}
use Rattle.table.specs.Layout.{slot_words, key_field, left_field, right_field, leader_field, rank_field, count_field, length_field, correction_field}
use Rattle.treap_columns.specs.declared.Columns.{Columns}
use Rattle.table_encode.specs.Encode.{key_at, slot_at}

pub key_at_none : (keys : List ℕ) (position : ℕ) → position ≡ 0 → 0 ≡ key_at keys position
unfolding key_at
key_at_none keys position e = rw (eq-eqb position 0 e)

pub key_at_some : (keys : List ℕ) (position : ℕ) → (position ≡ 0 → ⊥) → get_or keys (position - 1) 0 ≡ key_at keys position
unfolding key_at
key_at_some keys position d = rw (ne_eqb position 0 d) (ap (λ (i : ℕ). get_or keys i 0) (sub-one position))

-- stores to words in a row
pub stores : (words : List ℕ) (at : ℕ) (new : List ℕ) → at + length new ≤ length words → sets words at new ≡ overwrite words at new
unfolding overwrite
stores words at new h = sets-eq new words at h ∙ append_assoc (take at words) new (drop (at + length new) words)

pub slot_stores : (words : List ℕ) (at a b c d e f g i : ℕ) → at + slot_words ≤ length words
    → set (set (set (set (set (set (set (set words (at + key_field) a) (at + left_field) b) (at + right_field) c) (at + leader_field) d) (at + rank_field) e) (at + count_field) f)
    (at + length_field) g) (at + correction_field) i
    ≡ overwrite words at (a ∷ b ∷ c ∷ d ∷ e ∷ f ∷ g ∷ i ∷ [])
slot_stores words at a b c d e f g i h =
    rw (add-zero, add-one, add-two, add-three, add-four, add_five, add_six, add_seven) (stores words at (a ∷ b ∷ c ∷ d ∷ e ∷ f ∷ g ∷ i ∷ []) h)

-- the words of a slot, empty or not
pub slot_none : (keys tags : List ℕ) (c : Columns) (position : ℕ) → position ≡ 0 → 0 ∷ 0 ∷ 0 ∷ 0 ∷ 0 ∷ 0 ∷ 0 ∷ 0 ∷ [] ≡ slot_at keys tags c position
unfolding slot_at
slot_none keys tags c position e = rw (eq-eqb position 0 e)

pub slot_some : (keys tags : List ℕ) (c : Columns) (position l r d long stored : ℕ) → (position ≡ 0 → ⊥)
    → l ≡ key_at keys (get_or c.left (position - 1) 0) → r ≡ key_at keys (get_or c.right (position - 1) 0) → d ≡ key_at keys (get_or c.leader (position - 1) 0)
    → long ≡ length_in (get_or tags (position - 1) 0) → stored ≡ stored_in (get_or tags (position - 1) 0)
    → get_or keys (position - 1) 0 ∷ l ∷ r ∷ d ∷ get_or c.rank (position - 1) 0 ∷ get_or c.count (position - 1) 0 ∷ long ∷ stored ∷ [] ≡ slot_at keys tags c position
unfolding slot_at
slot_some keys tags c position l r d long stored n el er ed eg es =
    rw (ne_eqb position 0 n, el, er, ed, eg, es, key_at_some keys position n, sub-one position)
