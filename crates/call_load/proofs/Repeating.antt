-- The loop of a load: what is left of its operations makes of the set so far what all of them make of none. Assumes nothing.
use mathlib.Core.Bool.{true}
use mathlib.Core.List.{List, [], ◌∷◌}
use mathlib.Core.Path.{◌≡◌, refl, sym, ap, ◌∙◌, subst}
use Prim.Native.Nat.{ℕ, suc, ◌<◌, ◌≤◌}
use native.Mathlib.Omega.{arith}
use lib.ListN.{length, take}
use Rattle.generator.specs.Generator.{next}
use Rattle.lists.specs.Lists.{All}
use Rattle.lists.proofs.Keep.{all_mapped}
use Rattle.table.specs.Layout.{most_slots, table_words}
use Rattle.table.specs.Contents.{Entry, Contents, entry_keys, keys_in}
use Rattle.table.specs.Tags.{entry_tags}
use Rattle.table.specs.Table.{fresh, contents_of}
use Rattle.table.specs.Sound.{sound_with}
use Rattle.table.proofs.Soundness.{sound_exactly}
use Rattle.call_sets.specs.Load.{chosen, operations, done, done_all, loaded}
use Rattle.call_changes.specs.Known.{Known}
use Rattle.call_changes.specs.Done.{IsLoadKey, with_done}
use Rattle.call_changes.proofs.Loading.{chosen_key, done_all_lem}

-- Between two operations: the table is known, its keys are a load's, and its order and its salt are those that it was set up with.
pub record Under (many : ℕ) (first : List ℕ) (seed count : ℕ) (words keys tags : List ℕ) (state left : ℕ) : Type 0 where
  pub known : Known many words keys tags
  pub ours : All IsLoadKey (keys_in (contents_of many words))
  pub ordered : (contents_of many words).order ≡ (contents_of many first).order
  pub salted : (contents_of many words).salt ≡ (contents_of many first).salt
  pub rest : done_all many (operations state left) (contents_of many words).entries ≡ loaded many seed count
  pub room : 512 ≤ length keys
  pub more : 512 ≤ length tags

all_unmapped : (es : List Entry) → All IsLoadKey (entry_keys es) → All (λ e. IsLoadKey e.key) es
all_unmapped [] h = tt
all_unmapped (e ∷ es) h = (h.0, all_unmapped es h.1)

module _ (many : ℕ) (first : List ℕ) (seed count : ℕ) where
  pub under_none : (keys tags : List ℕ) → 0 < many → many ≤ most_slots → length first ≡ table_words many → sound_with many first ≡ true
      → (contents_of many first).entries ≡ [] → 512 ≤ length keys → 512 ≤ length tags → Under many first seed count first keys tags seed count
  unfolding loaded
  under_none keys tags some most long sound blank room more =
      record {
        known =
            record {
              some = some;
              most = most;
              long = long;
              sound = sound;
              listed = subst (λ (es : List Entry). take (length (entry_keys es)) keys ≡ entry_keys es) (sym blank) refl;
              measured = subst (λ (es : List Entry). take (length (entry_keys es)) tags ≡ entry_tags es) (sym blank) refl;
            };
        ours = subst (λ (es : List Entry). All IsLoadKey (entry_keys es)) (sym blank) tt;
        ordered = refl;
        salted = refl;
        rest = ap (done_all many (operations seed count)) blank;
        room = room;
        more = more;
      }

  module _ (words keys tags : List ℕ) (state left : ℕ) (under : Under many first seed count words keys tags state left) where
    pub under_more : (fewer : ℕ) → left ≡ suc fewer → (stepped : ℕ) → stepped ≡ next state → (words' keys' tags' : List ℕ) → Known many words' keys' tags' → length keys' ≡ length keys → length tags' ≡ length tags
        → contents_of many words' ≡ with_done many (chosen stepped) (contents_of many words) → Under many first seed count words' keys' tags' stepped fewer
    under_more fewer count_down stepped steps words' keys' tags' known long wide e =
        let set = (contents_of many words).entries in
        let same : (contents_of many words').entries ≡ done many (chosen stepped) set = ap (λ (c : Contents). c.entries) e in
        record {
          known = known;
          ours =
              all_mapped IsLoadKey (λ e. e.key) (contents_of many words').entries
              (subst (All (λ e. IsLoadKey e.key)) (sym same)
              (done_all_lem (λ e. IsLoadKey e.key) many (chosen stepped) set (chosen_key stepped) (all_unmapped set under.ours)));
          ordered = ap (λ (c : Contents). c.order) e ∙ under.ordered;
          salted = ap (λ (c : Contents). c.salt) e ∙ under.salted;
          rest =
              ap (done_all many (operations stepped fewer)) same
              ∙ ap (λ (s : ℕ). done_all many (operations s fewer) (done many (chosen s) set)) steps
              ∙ ap (λ (n : ℕ). done_all many (operations state n) set) (sym count_down)
              ∙ under.rest;
          room = omega (arith, under.room);
          more = omega (arith, under.more);
        }

    pub under_all : left ≤ 0 → words ≡ fresh many (record { order = (contents_of many first).order; salt = (contents_of many first).salt; entries = loaded many seed count })
    under_all none =
        let ended : left ≡ 0 = omega arith in
        let set : (contents_of many words).entries ≡ loaded many seed count =
        sym (ap (λ (n : ℕ). done_all many (operations state n) (contents_of many words).entries) ended) ∙ under.rest
        in
        sound_exactly many words under.known.sound ∙ (λ i. fresh many (record { order = under.ordered i; salt = under.salted i; entries = set i }))
