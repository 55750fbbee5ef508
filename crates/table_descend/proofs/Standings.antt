-- The standing of a key, from the words of its slot. Assumes that the slot is one of the table's and holds the key.
use mathlib.Core.List.{List}
use mathlib.Core.Path.{◌≡◌, ap, ◌∙◌}
use Prim.Native.Nat.{ℕ, ◌+◌}
use lib.IntN.{ℤ}
use lib.ListN.{get_or}
use Rattle.measure.specs.Measure.{Measure, measure_from}
use Rattle.table.specs.Layout.{leader_field, rank_field, count_field, length_field, correction_field, slot_start}
use Rattle.table.specs.Table.{contents_of}
use Rattle.table_entries.specs.Steps.{InSlot}
use Rattle.table_entries.proofs.Fields.{rank_is, count_is, leader_is, length_is, measure_is}
use Rattle.table_descend.specs.Lookup.{standing_of}

module _ (many : ℕ) (words : List ℕ) (k slot : ℕ) (at : InSlot many words k slot) where
  pub standing_is : (rank_word count_word leader_word length_word : ℕ) (correction : ℤ) → rank_word ≡ get_or words (slot_start slot + rank_field) 0
      → count_word ≡ get_or words (slot_start slot + count_field) 0 → leader_word ≡ get_or words (slot_start slot + leader_field) 0
      → length_word ≡ get_or words (slot_start slot + length_field) 0
      → correction ≡ (measure_from (get_or words (slot_start slot + length_field) 0) (get_or words (slot_start slot + correction_field) 0)).correction
      → record { rank = rank_word; count = count_word; leader = leader_word; length = length_word; correction = correction } ≡ standing_of (contents_of many words) k
  unfolding standing_of
  standing_is rank_word count_word leader_word length_word correction e f g h j =
      λ i. record {
        rank = (e ∙ rank_is many words k slot at) i;
        count = (f ∙ count_is many words k slot at) i;
        leader = (g ∙ leader_is many words k slot at) i;
        length = (h ∙ length_is many words k slot at) i;
        correction = (j ∙ ap (λ (m : Measure). m.correction) (measure_is many words k slot at)) i;
      }
