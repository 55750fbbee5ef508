-- The tags of right measures beside keys are theirs. Assumes measures within the rules, one beside each key.
use mathlib.Core.Bool.{true}
use mathlib.Core.List.{List, [], ◌∷◌, map}
use mathlib.Core.Path.{◌≡◌, refl, ap, ap₂, ◌∙◌}
use Prim.Native.Nat.{ℕ}
use lib.IntN.{ℤ}
use lib.ListN.{length, take}
use Rattle.lists.specs.Lists.{every, All, overwrite}
use Rattle.lists.proofs.Keep.{every_says, all_map, all_mapped}
use Rattle.lists.proofs.Start.{starts_with}
use Rattle.measure.specs.Measure.{Measure, is_measure, measures_beside}
use Rattle.measure.specs.Tag.{tag_of, measure_at, is_tag}
use Rattle.measure.proofs.Tags.{measure_of_tag, measure_tags}
use Rattle.measure.proofs.Beside.{tags_beside, length_tags}
use Rattle.table.specs.Contents.{entries_with}
use Rattle.table.specs.Table.{fresh}
use Rattle.table.specs.Tags.{tagged, Beside}

-- a tag shows its measure
shown_again : (measures : List Measure) → All (λ m. is_measure m ≡ true) measures → map measure_at (map tag_of measures) ≡ measures
shown_again [] h = refl
shown_again (m ∷ measures) h = ap₂ (λ (x : Measure) (xs : List Measure). x ∷ xs) (measure_of_tag m h.0) (shown_again measures h.1)

module _ (keys lengths : List ℕ) (corrections : List ℤ)
    (told : (length lengths ≡ length keys) × (length corrections ≡ length lengths) × (every is_measure (measures_beside lengths corrections) ≡ true)) where
  measures_right : All (λ m. is_measure m ≡ true) (measures_beside lengths corrections)
  measures_right = every_says is_measure (measures_beside lengths corrections) told.2

  as_many_tags : length (tags_beside lengths corrections) ≡ length keys
  as_many_tags = length_tags lengths corrections told.1 ∙ told.0

  pub tags_fit : Beside keys (tags_beside lengths corrections)
  tags_fit =
      record {
        as_many = as_many_tags;
        right = all_mapped (λ t. is_tag t ≡ true) tag_of (measures_beside lengths corrections) (all_map (λ m. is_measure m ≡ true) (λ m. is_tag (tag_of m) ≡ true) measure_tags (measures_beside lengths corrections) measures_right);
      }

  -- the tags put at the start of a list are its first ones, as many as there are keys
  pub tags_first : (old new : List ℕ) → new ≡ overwrite old 0 (tags_beside lengths corrections) → take (length keys) new ≡ tags_beside lengths corrections
  tags_first old new e = starts_with new old (tags_beside lengths corrections) (length keys) e as_many_tags

  -- the set of the keys with the tags is that of the keys with the measures
  tags_show : (order salt : ℕ) → tagged order salt keys (tags_beside lengths corrections) ≡ record { order = order; salt = salt; entries = entries_with keys (measures_beside lengths corrections) }
  tags_show order salt =
      ap (λ (measures : List Measure). record { order = order; salt = salt; entries = entries_with keys measures })
      (shown_again (measures_beside lengths corrections) measures_right)

  pub tags_written : (many order salt : ℕ) (after tags : List ℕ) → tags ≡ tags_beside lengths corrections → after ≡ fresh many (tagged order salt keys tags)
      → after ≡ fresh many (record { order = order; salt = salt; entries = entries_with keys (measures_beside lengths corrections) })
  tags_written many order salt after tags e written =
      written ∙ ap (λ (ts : List ℕ). fresh many (tagged order salt keys ts)) e ∙ ap (fresh many) (tags_show order salt)
