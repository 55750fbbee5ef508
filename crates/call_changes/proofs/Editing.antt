-- The lists of keys and tags of a table that is known to be sound, once a key is put in or taken out: they begin with those of the set that
-- results. Assumes nothing.
use mathlib.Core.Bool.{true, false}
use mathlib.Core.List.{List, map}
use mathlib.Core.Path.{◌≡◌, sym, ap, ap₂, ◌∙◌}
use Prim.Native.Nat.{ℕ, suc, ◌+◌}
use native.Mathlib.Numerals.{add-one}
use lib.ListN.{length, get_or, take, length-map}
use Rattle.lists.specs.Lists.{member, overwrite}
use Rattle.lists.proofs.Start.{starts_with}
use Rattle.measure.specs.Tag.{tag_of, measure_at, is_tag}
use Rattle.measure.proofs.Tags.{tag_of_measure}
use Rattle.table.specs.Layout.{size_word}
use Rattle.table.specs.Contents.{Entry, entry_keys}
use Rattle.table.specs.Tags.{entry_tags}
use Rattle.table.specs.Table.{contents_of}
use Rattle.call_sets.specs.Sets.{joined, without}
use Rattle.call_sets.specs.Indices.{index_of, put_at, remove_at}
use Rattle.call_sets.proofs.Placing.{placed_joined, placed_without, put_mapped, removed_mapped}
use Rattle.call_changes.proofs.Knowing.{Facts}
use Rattle.call_changes.proofs.Sets.{joined_length}

module _ {many : ℕ} {words keys tags : List ℕ} (told : Facts many words keys tags) (key : ℕ) where
  abbrev es : List Entry
  es = (contents_of many words).entries

  abbrev count : ℕ
  count = get_or words size_word 0

  -- The lists once a key and its tag are put in.
  pub record Put (tag : ℕ) (keys' tags' : List ℕ) : Type 0 where
    pub keys_put : keys' ≡ overwrite keys 0 (put_at (index_of key (take count keys)) key (take count keys))
    pub tags_put : tags' ≡ overwrite tags 0 (put_at (index_of key (take count keys)) tag (take count tags))

  -- The lists once a key and its tag are taken out.
  pub record Removed (keys' tags' : List ℕ) : Type 0 where
    pub keys_left : keys' ≡ overwrite keys 0 (remove_at (index_of key (take count keys)) (take count keys))
    pub tags_left : tags' ≡ overwrite tags 0 (remove_at (index_of key (take count keys)) (take count tags))

  -- what begins a list that was changed at its start
  begins : (old new : List ℕ) (part : List ℕ) (made : List Entry) (g : Entry → ℕ) (n : ℕ) → new ≡ overwrite old 0 part → part ≡ map g made → n ≡ length made
      → take n new ≡ map g made
  begins old new part made g n e f size = starts_with new old (map g made) n (e ∙ ap (overwrite old 0) f) (length-map made g ∙ sym size)

  pub put_made : (tag : ℕ) → is_tag tag ≡ true → member key (entry_keys es) ≡ false → (keys' tags' : List ℕ) → Put tag keys' tags'
      → let made = joined (record { key = key; measure = measure_at tag }) es in
      (take (count + 1) keys' ≡ entry_keys made) × (take (count + 1) tags' ≡ entry_tags made)
  put_made tag is-tag absent keys' tags' put =
      let new : Entry = record { key = key; measure = measure_at tag } in
      let made = joined new es in
      let at = index_of key (entry_keys es) in
      let placed : put_at at new es ≡ made = placed_joined new es told.valid.keys_rise absent in
      let size : count + 1 ≡ length made = add-one count ∙ ap suc (told.size ∙ length-map es (λ e. e.key)) ∙ sym (joined_length new es) in (
        begins keys keys' _ made (λ e. e.key) (count + 1) put.keys_put
            (ap (λ (ks : List ℕ). put_at (index_of key ks) key ks) told.taken ∙ sym (put_mapped (λ e. e.key) at new es) ∙ ap entry_keys placed) size,
        begins tags tags' _ made (λ e. tag_of e.measure) (count + 1) put.tags_put
            (ap₂ (λ (ks ts : List ℕ). put_at (index_of key ks) tag ts) told.taken told.tags_taken
            ∙ ap (λ (t : ℕ). put_at at t (entry_tags es)) (sym (tag_of_measure tag is-tag))
            ∙ sym (put_mapped (λ e. tag_of e.measure) at new es)
            ∙ ap entry_tags placed) size,
      )

  pub removed_made : member key (entry_keys es) ≡ true → (keys' tags' : List ℕ) → Removed keys' tags' → (n : ℕ) → n ≡ length (without key es)
      → (take n keys' ≡ entry_keys (without key es)) × (take n tags' ≡ entry_tags (without key es))
  removed_made held keys' tags' out n size =
      let made = without key es in
      let at = index_of key (entry_keys es) in
      let placed : remove_at at es ≡ made = placed_without key es told.valid.keys_rise held in (
        begins keys keys' _ made (λ e. e.key) n out.keys_left
            (ap (λ (ks : List ℕ). remove_at (index_of key ks) ks) told.taken ∙ sym (removed_mapped (λ e. e.key) at es) ∙ ap entry_keys placed) size,
        begins tags tags' _ made (λ e. tag_of e.measure) n out.tags_left
            (ap₂ (λ (ks ts : List ℕ). remove_at (index_of key ks) ts) told.taken told.tags_taken
            ∙ sym (removed_mapped (λ e. tag_of e.measure) at es)
            ∙ ap entry_tags placed) size,
      )
