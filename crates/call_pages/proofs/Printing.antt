-- Pages of a set that goes as an order, a salt, keys and tags: what its lists show, and that a sound table holds such a set. Assumes nothing.
use mathlib.Core.Bool.{true}
use mathlib.Core.List.{List, map}
use mathlib.Core.Path.{◌≡◌, sym, ap, subst}
use Prim.Native.Nat.{ℕ, ◌≤◌}
use native.Mathlib.Omega.{arith}
use lib.ListN.{length, get_or}
use Rattle.lists.specs.Lists.{All, Rising}
use Rattle.lists.proofs.Keep.{all_map, all_mapped}
use Rattle.measure.specs.Measure.{is_measure}
use Rattle.measure.specs.Tag.{measure_at, is_tag}
use Rattle.measure.proofs.Tags.{tag_measures}
use Rattle.table.specs.Layout.{most_slots, order_word, salt_word}
use Rattle.table.specs.Contents.{Contents, Entry, keys_in, right_measure}
use Rattle.table.specs.Tags.{tags_in, tagged, Beside}
use Rattle.table.specs.Table.{contents_of}
use Rattle.table.specs.Sound.{sound_with}
use Rattle.table.proofs.Entries.{with_right}
use Rattle.table.proofs.Soundness.{shown_fit, sound_measures}
use Rattle.table.proofs.Tagged.{tagged_keys, tagged_tags, tagged_is}
use Rattle.treap_columns.specs.declared.Columns.{Columns}
use Rattle.table_prepare.specs.Prepared.{Keys}
use Rattle.table_encode.proofs.Standings.{StandingsOf}
use Rattle.text_pages.specs.Pages.{pages_of}
use Rattle.text_pages.specs.Claims.{pages_bytes}
use Rattle.text_pages.specs.Shown.{shown_pages, Printable}
use Rattle.text_pages.proofs.Claims.{pages_length}
use Rattle.text_pages.proofs.Shows.{printable, pages_shown}

-- ---- what its lists show
module _ (order salt : ℕ) {keys tags : List ℕ} (known : Keys order keys) (beside : Beside keys tags) {columns : Columns} (stands : StandingsOf order salt keys columns) where
  abbrev set : Contents
  set = tagged order salt keys tags

  same_keys : keys ≡ keys_in set
  same_keys = sym (tagged_keys keys tags)

  few : length (keys_in set) ≤ most_slots
  few = omega (arith, ap length same_keys, known.few)

  right : All (λ e. right_measure e ≡ true) set.entries
  right =
      with_right keys (map measure_at tags)
      (all_mapped (λ m. is_measure m ≡ true) measure_at tags (all_map (λ t. is_tag t ≡ true) (λ t. is_measure (measure_at t) ≡ true) tag_measures tags beside.right))

  stands_here : StandingsOf order salt (keys_in set) columns
  stands_here = subst (λ (ks : List ℕ). StandingsOf order salt ks columns) same_keys stands

  pub lists_printable : Printable keys tags columns
  lists_printable = printable set few (subst Rising same_keys known.rising) right same_keys (sym (tagged_tags keys tags beside)) stands_here

  pub text_shown : pages_of set ≡ shown_pages keys tags columns
  text_shown = pages_shown set few (subst Rising same_keys known.rising) right same_keys (sym (tagged_tags keys tags beside)) stands_here

-- ---- a sound table
module _ (many : ℕ) (words : List ℕ) (sound : sound_with many words ≡ true) where
  pub text_length : many ≤ most_slots → length (pages_of (contents_of many words)) ≡ pages_bytes (length (keys_in (contents_of many words)))
  text_length most = pages_length (contents_of many words) (omega (arith, shown_fit many words)) (sound_measures many words sound)

  pub pages_tagged : {keys tags : List ℕ} → keys ≡ keys_in (contents_of many words) → tags ≡ tags_in (contents_of many words)
      → pages_of (contents_of many words) ≡ pages_of (tagged (get_or words order_word 0) (get_or words salt_word 0) keys tags)
  unfolding contents_of
  pages_tagged found beside =
      ap (λ (es : List Entry). pages_of (record { order = get_or words order_word 0; salt = get_or words salt_word 0; entries = es }))
      (sym (tagged_is (contents_of many words).entries (sound_measures many words sound) found beside))
