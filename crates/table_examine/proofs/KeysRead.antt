-- The keys that are read of a table, and then sorted, are those of what it shows; the tags beside them are those of what is read. Assumes nothing.
use mathlib.Core.List.{List, map, map-map}
use mathlib.Core.Path.{◌≡◌, sym, ap, ◌∙◌}
use Prim.Native.Nat.{ℕ, ◌≤◌}
use native.Mathlib.Omega.{arith}
use lib.Dec.{ltb}
use lib.ListN.{length, length-map}
use Rattle.lists.specs.Lists.{nonzero, keep, sort_by, up_from}
use Rattle.lists.proofs.Sorting.{length_permuted, sort_by_permutes}
use Rattle.lists.proofs.Keep.{map-keep}
use Rattle.table.specs.Contents.{entry_keys, keys_in, key_below}
use Rattle.table.specs.Table.{contents_of}
use Rattle.table.proofs.Entries.{sorted_keys}
use Rattle.table.proofs.Words.{slot_keys, held_keys}
use Rattle.table.proofs.Soundness.{shown_held, shown_fit}
use Rattle.table_decode.specs.Decode.{entry_read, held_read, contents_read}

module _ (many : ℕ) (words : List ℕ) where
  keys_read : entry_keys (held_read many words) ≡ held_keys many words
  unfolding held_read held_keys slot_keys entry_read
  keys_read =
      map-keep (λ e. e.key) nonzero (map (entry_read words) (up_from 0 many)) ∙ ap (keep nonzero) (map-map (λ e. e.key) (entry_read words) (up_from 0 many))

  pub keys_shown : keys_in (contents_read many words) ≡ keys_in (contents_of many words)
  unfolding contents_read
  keys_shown = sorted_keys (held_read many words) ∙ ap (sort_by ltb) keys_read ∙ sym (shown_held many words)

  pub number_read : length (held_read many words) ≡ length (keys_in (contents_of many words))
  unfolding contents_read
  number_read =
      sym (length_permuted (sort_by_permutes key_below (held_read many words)))
      ∙ sym (length-map (sort_by key_below (held_read many words)) (λ e. e.key))
      ∙ ap length keys_shown

  pub few_read : length (held_read many words) ≤ many
  few_read = omega (arith, number_read, shown_fit many words)
