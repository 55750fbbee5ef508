-- Keys with tags beside them are entries, and entries such keys and tags. Assumes measures within the rules, where it says so.
use mathlib.Core.Bool.{true}
use mathlib.Core.List.{List, [], ◌∷◌, map}
use mathlib.Core.Path.{◌≡◌, refl, sym, ap, ap₂, ◌∙◌, subst₂}
use Prim.Native.Nat.{ℕ, ◌<◌}
use native.Mathlib.Omega.{arith}
use lib.ListN.{length, get_or, length-map, get_or-map}
use Rattle.lists.specs.Lists.{All, Rising}
use Rattle.lists.proofs.Keep.{all_map, all_mapped}
use Rattle.measure.specs.Tag.{tag_of, measure_at, is_tag}
use Rattle.measure.proofs.Tags.{measure_of_tag, tag_of_measure, measure_tags, no_tag}
use Rattle.table.specs.Contents.{Entry, entry_keys, measure_in, right_measure}
use Rattle.table.specs.Tags.{entry_tags, entries_tagged, Beside}
use Rattle.table.proofs.Entries.{with_keys, found_beside}

-- ---- keys and tags are entries
pub tagged_keys : (keys tags : List ℕ) → entry_keys (entries_tagged keys tags) ≡ keys
tagged_keys keys tags = with_keys keys (map measure_at tags)

pub tagged_tags : (keys tags : List ℕ) → Beside keys tags → entry_tags (entries_tagged keys tags) ≡ tags
tagged_tags keys tags beside = both keys tags beside.as_many beside.right
  where
    both : (keys tags : List ℕ) → length tags ≡ length keys → All (λ t. is_tag t ≡ true) tags → entry_tags (entries_tagged keys tags) ≡ tags
    both [] [] e h = refl
    both [] (t ∷ tags) e h = absurd (omega arith)
    both (k ∷ keys) [] e h = absurd (omega arith)
    both (k ∷ keys) (t ∷ tags) e h = ap₂ (λ (u : ℕ) (us : List ℕ). u ∷ us) (tag_of_measure t h.0) (both keys tags (omega arith) h.1)

-- the tag beside a key is that of its measure
pub found_tagged : (keys tags : List ℕ) (i : ℕ) → Rising keys → i < length keys → measure_in (entries_tagged keys tags) (get_or keys i 0) ≡ measure_at (get_or tags i 0)
found_tagged keys tags i rise h =
    found_beside keys (map measure_at tags) i rise h
    ∙ ap (get_or (map measure_at tags) i) (sym no_tag)
    ∙ get_or-map measure_at tags i 0

-- ---- entries are keys and tags
pub tags_many : (es : List Entry) → length (entry_tags es) ≡ length (entry_keys es)
tags_many es = length-map es (λ e. tag_of e.measure) ∙ sym (length-map es (λ e. e.key))

pub tags_beside_lem : (es : List Entry) → All (λ e. right_measure e ≡ true) es → Beside (entry_keys es) (entry_tags es)
tags_beside_lem es h =
    record {
      as_many = tags_many es;
      right = all_mapped (λ t. is_tag t ≡ true) (λ e. tag_of e.measure) es (all_map (λ e. right_measure e ≡ true) (λ e. is_tag (tag_of e.measure) ≡ true) (λ e. measure_tags e.measure) es h);
    }

pub tagged_back : (es : List Entry) → All (λ e. right_measure e ≡ true) es → entries_tagged (entry_keys es) (entry_tags es) ≡ es
tagged_back [] h = refl
tagged_back (e ∷ es) h =
    let first : record { key = e.key; measure = measure_at (tag_of e.measure) } ≡ e = λ i. record { key = e.key; measure = measure_of_tag e.measure h.0 i } in
    ap₂ (λ (f : Entry) (fs : List Entry). f ∷ fs) first (tagged_back es h.1)

-- and so of lists that are those of the entries
module _ (es : List Entry) (h : All (λ e. right_measure e ≡ true) es) {keys tags : List ℕ} (e : keys ≡ entry_keys es) (f : tags ≡ entry_tags es) where
  pub beside_of : Beside keys tags
  beside_of = subst₂ Beside (sym e) (sym f) (tags_beside_lem es h)

  pub tagged_is : entries_tagged keys tags ≡ es
  tagged_is = ap₂ entries_tagged e f ∙ tagged_back es h
