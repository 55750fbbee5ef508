-- What the answer of a slot search, handed the key's own priority, says in a sound table. Assumes that the table has at least one slot and at
-- most as many as a table may have, and that its words are 64-bit numbers.
use mathlib.Core.Bool.{true, false}
use mathlib.Core.List.{List}
use mathlib.Core.Path.{◌≡◌, refl, sym, ap, ◌∙◌, subst}
use Prim.Native.Nat.{ℕ, ◌<◌, ◌≤◌}
use native.Mathlib.Omega.{arith}
use lib.Dec.{eqb}
use lib.ListN.{length}
use borrow.Author.Tests.{eq-eqb, ne_eqb}
use Rattle.std.specs.Prelude.{Option, Some, None, is_some}
use Rattle.lists.specs.Lists.{member}
use Rattle.lists.proofs.Tests.{by_test}
use Rattle.lists.proofs.Membership.{all_member}
use Rattle.table.specs.Layout.{most_slots, table_words, key_in}
use Rattle.table.specs.Contents.{IsKey, keys_in, priority_in}
use Rattle.table.specs.Table.{Sound, contents_of}
use Rattle.table.specs.Sound.{sound_with}
use Rattle.table.proofs.Soundness.{WordSized, sound_exactly, sound_valid}
use Rattle.table_find.specs.Find.{searched, OnlyAt}
use Rattle.table_find.specs.Claims.{TellsItsSlot, TellsNoKey}
use Rattle.table_find.proofs.Claims.{search_tells}
use Rattle.table_entries.specs.Steps.{InSlot}

-- What an answer says of a key: held, its slot; absent, an empty slot or none.
pub record Says (many : ℕ) (words : List ℕ) (k : ℕ) (answer : Option ℕ) : Type 0 where
  when_held : member k (keys_in (contents_of many words)) ≡ true → TellsItsSlot many words k answer
  when_absent : member k (keys_in (contents_of many words)) ≡ false → TellsNoKey many words answer

module _ (many : ℕ) (words : List ℕ) (some : 0 < many) (most : many ≤ most_slots) (passed : sound_with many words ≡ true)
    (sized : WordSized words) where
  abbrev sound : Sound words
  sound =
      record {
        many = many;
        contents = contents_of many words;
        some = some;
        most = most;
        valid = sound_valid many words passed sized;
        exactly = sound_exactly many words passed;
      }

  pub search_says : (k priority : ℕ) → priority ≡ priority_in (contents_of many words) k → (answer : Option ℕ) → answer ≡ searched many words k priority
      → Says many words k answer
  search_says k priority own answer found =
      record {
        when_held =
            λ m. subst (TellsItsSlot many words k) (ap (searched many words k) (sym own) ∙ sym found) (search_tells.held_key words sound k m);
        when_absent = λ m. subst (TellsNoKey many words) (sym found) (search_tells.absent_key words sound k priority m);
      }

  pub key_in_slot : length words ≡ table_words many → (k slot : ℕ) → member k (keys_in (contents_of many words)) ≡ true
      → OnlyAt many words k slot → InSlot many words k slot
  key_in_slot long k slot m only =
      record {
        few = most;
        long = long;
        sound = passed;
        positive = (all_member IsKey (keys_in (contents_of many words)) k sound.valid.keys_right m).0;
        below = only.below;
        holds = only.holds;
      }

module _ (many : ℕ) (words : List ℕ) (k : ℕ) (answer : Option ℕ) (says : Says many words k answer) where
  pub held_somewhere : member k (keys_in (contents_of many words)) ≡ true → answer ≡ None → ⊥
  unfolding TellsItsSlot
  held_somewhere m e = subst (TellsItsSlot many words k) e (says.when_held m)

  -- a held key has a slot
  pub held_found : member k (keys_in (contents_of many words)) ≡ true → is_some answer ≡ true
  held_found m = of_answer answer (held_somewhere m)
    where
      of_answer : (o : Option ℕ) → (o ≡ None → ⊥) → is_some o ≡ true
      of_answer (Some slot) d = refl
      of_answer None d = absurd (d refl)

  pub nowhere_decides : answer ≡ None → false ≡ member k (keys_in (contents_of many words))
  nowhere_decides e = by_test (member k (keys_in (contents_of many words))) (λ m. absurd (held_somewhere m e)) (λ m. sym m)

  module _ (slot : ℕ) (e : answer ≡ Some slot) where
    pub held_slot : member k (keys_in (contents_of many words)) ≡ true → OnlyAt many words k slot
    unfolding TellsItsSlot
    held_slot m = subst (TellsItsSlot many words k) e (says.when_held m)

    empty_slot : member k (keys_in (contents_of many words)) ≡ false → (slot < many) × (key_in words slot ≡ 0)
    unfolding TellsNoKey
    empty_slot m = subst (TellsNoKey many words) e (says.when_absent m)

    pub slot_inside : slot < many
    slot_inside = by_test (member k (keys_in (contents_of many words))) (λ m. (held_slot m).below) (λ m. (empty_slot m).0)

    -- a key is held where the slot holds it
    pub slot_decides : 1 ≤ k → eqb (key_in words slot) k ≡ member k (keys_in (contents_of many words))
    slot_decides positive =
        by_test (member k (keys_in (contents_of many words)))
        (λ m. rw m (eq-eqb (key_in words slot) k (held_slot m).holds))
        (λ m. rw m (ne_eqb (key_in words slot) k (λ q. omega (arith, (empty_slot m).1))))
