-- What the tests of an insert say of its reply and of the table after it. Assumes nothing.
use mathlib.Core.Bool.{true, false}
use mathlib.Core.List.{List}
use mathlib.Core.Logic.{◌≢◌}
use mathlib.Core.Path.{◌≡◌, sym, ap, ◌∙◌}
use Prim.Native.Nat.{ℕ, suc, ◌+◌, ◌<◌, ◌≤◌}
use native.Mathlib.Omega.{arith}
use lib.Dec.{eqb}
use lib.ListN.{length, get_or, take, length-map}
use borrow.Author.Tests.{eq-eqb, ne_eqb, lt-ltb, le-ltb}
use Rattle.std.specs.Prelude.{Result, Ok, Err, Some, None}
use Rattle.lists.specs.Lists.{member}
use Rattle.measure.specs.Measure.{Measure, is_measure}
use Rattle.measure.specs.Tag.{measure_at, is_tag}
use Rattle.measure.proofs.Tags.{tag_measures}
use Rattle.treap.specs.Levels.{rank}
use Rattle.table.specs.Contents.{Entry, Contents, keys_in, priority_in, IsKey, Valid}
use Rattle.table.specs.Tags.{entries_tagged, Beside}
use Rattle.table.specs.Layout.{most_slots, size_word, table_words}
use Rattle.table.specs.Table.{fresh, contents_of}
use Rattle.table.specs.Sound.{sound_with}
use Rattle.table_limits.specs.Lengths.{slots_for, slots_if}
use Rattle.table_limits.proofs.Lengths.{slots_none, slots_some}
use Rattle.call_sets.specs.Sets.{joined}
use Rattle.call_replies.specs.Replies.{ranked_of}
use Rattle.call_replies.specs.declared.Refusal.{Refusal}
use Rattle.call_replies.specs.declared.Refusal.TheVariants.{WrongLength, ZeroKey, WrongMeasure, NotSound, KeyHeld, TooManyKeys}
use Rattle.call_meaning.specs.Reasons.{wrong_length, zero_key, wrong_measure, not_sound, key_held, too_many_keys}
use Rattle.call_meaning.specs.Calls.{rank_in, rewritten, grown, insert_refusal, insert_reply, insert_after}
use Rattle.call_meaning.proofs.Judged.{slots_here, right_length, judged, shown_is, member_shown}
use Rattle.call_changes.specs.Known.{Known, RoomFor, with_entries}
use Rattle.call_changes.proofs.Sets.{joined_length, joined_member, joined_valid}
use Rattle.call_changes.proofs.Written.{shows, ranked}
use Rattle.call_changes.proofs.Knowing.{Facts, made_valid, made_beside, made_written}
use Rattle.call_changes.proofs.Editing.{Put, put_made}

-- What a table of so many slots shows, with a key more.
abbrev pub with_key : ℕ → List ℕ → Entry → Contents
with_key many words entry = with_entries many words (joined entry (contents_of many words).entries)

module _ (words : List ℕ) (key : ℕ) (measure : Measure) where
  -- What an insert that answers so and leaves these words meets.
  abbrev Meets : Result ℕ Refusal → List ℕ → Type 0
  Meets answer after = (ranked_of answer ≡ insert_reply words key measure) × (after ≡ insert_after words key measure)

  abbrev entry : Entry
  entry = record { key = key; measure = measure }

  pub refused_length : slots_if (slots_for (length words)) ≡ None → Meets (Err WrongLength) words
  unfolding insert_reply insert_after insert_refusal wrong_length
  refused_length e = let none = slots_none (slots_for (length words)) e in (rw none, rw none)

  module _ (many : ℕ) (here : slots_if (slots_for (length words)) ≡ Some many) where
    some_slots : eqb (slots_for (length words)) 0 ≡ false
    some_slots =
        let told = slots_some (slots_for (length words)) many here in
        ne_eqb (slots_for (length words)) 0 (λ e. omega (arith, told.0, told.1))

    pub refused_zero : key ≡ 0 → Meets (Err ZeroKey) words
    unfolding insert_reply insert_after insert_refusal wrong_length zero_key
    refused_zero e =
        let zero_key = eq-eqb key 0 e in
        (rw (some_slots, zero_key), rw (some_slots, zero_key))

    pub refused_measure : key ≢ 0 → is_measure measure ≡ false → Meets (Err WrongMeasure) words
    unfolding insert_reply insert_after insert_refusal wrong_length zero_key wrong_measure
    refused_measure some e =
        let not_zero = ne_eqb key 0 some in
        (rw (some_slots, not_zero, e), rw (some_slots, not_zero, e))

  module _ (many : ℕ) (some : 0 < many) (most : many ≤ most_slots) (long : length words ≡ table_words many) (positive : 1 ≤ key) (measured : is_measure measure ≡ true) where
    slots_right : eqb (slots_for (length words)) 0 ≡ false
    slots_right = right_length words many some most long

    not_zero : eqb key 0 ≡ false
    not_zero = ne_eqb key 0 (λ e. omega arith)

    pub refused_table : sound_with many words ≡ false → Meets (Err NotSound) words
    unfolding insert_reply insert_after insert_refusal wrong_length zero_key wrong_measure not_sound
    refused_table e =
        let unsound = judged words many some most long false e in
        (rw (slots_right, not_zero, measured, unsound), rw (slots_right, not_zero, measured, unsound))

    module _ (sound : sound_with many words ≡ true) where
      pub refused_held : member key (keys_in (contents_of many words)) ≡ true → Meets (Err KeyHeld) words
      unfolding insert_reply insert_after insert_refusal wrong_length zero_key wrong_measure not_sound key_held
      refused_held e =
          let is_sound = judged words many some most long true sound in
          let held = member_shown words many some most long key true e in
          (rw (slots_right, not_zero, measured, is_sound, held), rw (slots_right, not_zero, measured, is_sound, held))

      module _ (absent : member key (keys_in (contents_of many words)) ≡ false) where
        grown_is : grown words key measure ≡ with_key many words entry
        unfolding grown
        grown_is = ap (λ (c : Contents). record { order = c.order; salt = c.salt; entries = joined entry c.entries }) (shown_is words many some most long)

        size : length (keys_in (grown words key measure)) ≡ suc (length (keys_in (contents_of many words)))
        size =
            let es = (contents_of many words).entries in
            ap (λ (c : Contents). length (keys_in c)) grown_is
            ∙ length-map (joined entry es) (λ e. e.key)
            ∙ joined_length entry es
            ∙ ap suc (sym (length-map es (λ e. e.key)))

        pub refused_full : length (keys_in (contents_of many words)) ≡ many → Meets (Err TooManyKeys) words
        unfolding insert_reply insert_after insert_refusal wrong_length zero_key wrong_measure not_sound key_held too_many_keys
        refused_full e =
            let is_sound = judged words many some most long true sound in
            let not_held = member_shown words many some most long key false absent in
            let full = lt-ltb (slots_for (length words)) (length (keys_in (grown words key measure))) (omega (arith, size, slots_here words many some most long)) in
            (rw (slots_right, not_zero, measured, is_sound, not_held, full), rw (slots_right, not_zero, measured, is_sound, not_held, full))

        pub accepted : length (keys_in (contents_of many words)) < many → (n : ℕ) → n ≡ rank_in (with_key many words entry) key
            → (after : List ℕ) → after ≡ fresh many (with_key many words entry) → Meets (Ok n) after
        unfolding insert_reply insert_after insert_refusal wrong_length zero_key wrong_measure not_sound key_held too_many_keys rewritten
        accepted room n e after q =
            let is_sound = judged words many some most long true sound in
            let not_held = member_shown words many some most long key false absent in
            let here = slots_here words many some most long in
            let fits = le-ltb (slots_for (length words)) (length (keys_in (grown words key measure))) (omega (arith, size, here)) in (
              rw (slots_right, not_zero, measured, is_sound, not_held, fits, grown_is, e),
              rw (slots_right, not_zero, measured, is_sound, not_held, fits, grown_is, here) q,
            )

-- ---- a table that is known to be sound
module _ {many : ℕ} {words keys tags : List ℕ} (told : Facts many words keys tags) (key tag : ℕ) (right : IsKey key) (has_tag : is_tag tag ≡ true) where
  abbrev held_keys_lem : List ℕ
  held_keys_lem = keys_in (contents_of many words)

  abbrev count : ℕ
  count = get_or words size_word 0

  abbrev new : Entry
  new = record { key = key; measure = measure_at tag }

  abbrev made : List Entry
  made = joined new (contents_of many words).entries

  measured_right : is_measure (measure_at tag) ≡ true
  measured_right = tag_measures tag has_tag

  -- What an insert that answers so and leaves this table with these lists of its keys and tags meets.
  abbrev Leaves : Result ℕ Refusal → List ℕ → List ℕ → List ℕ → Type 0
  Leaves answer after keys' tags' =
      (ranked_of answer ≡ insert_reply words key (measure_at tag)) × ((after ≡ insert_after words key (measure_at tag)) × Known many after keys' tags')

  pub leaves_held : member key held_keys_lem ≡ true → Leaves (Err KeyHeld) words keys tags
  leaves_held held =
      let k = told.known in
      let (reply, after) = refused_held words key (measure_at tag) many k.some k.most k.long right.0 measured_right k.sound held in
      (reply, (after, k))

  module _ (absent : member key held_keys_lem ≡ false) where
    pub leaves_full : count ≡ many → Leaves (Err TooManyKeys) words keys tags
    leaves_full full =
        let k = told.known in
        let (reply, after) =
        refused_full words key (measure_at tag) many k.some k.most k.long right.0 measured_right k.sound absent (sym told.size ∙ full)
        in
        (reply, (after, k))

    -- ---- there is room for the key
    module _ (free : count ≢ many) where
      room : length held_keys_lem < many
      room = omega (arith, told.size, told.valid.keys_fit)

      pub fits : (list : List ℕ) → RoomFor key many words list → count < length list
      fits list has_room = omega (arith, told.size, has_room absent room)

      pub joined_right : Valid many (with_entries many words made)
      joined_right = joined_valid new many (contents_of many words) told.valid right measured_right absent room

      module _ (keys' tags' : List ℕ) (put : Put told key tag keys' tags') where
        pub can_be_written : Valid many (with_entries many words (entries_tagged (take (count + 1) keys') (take (count + 1) tags'))) × Beside (take (count + 1) keys') (take (count + 1) tags')
        can_be_written =
            let (same_keys, same_tags) = put_made told key tag has_tag absent keys' tags' put in
            (made_valid many words made joined_right keys' tags' (count + 1) same_keys same_tags, made_beside many words made joined_right keys' tags' (count + 1) same_keys same_tags)

        module _ (after : List ℕ) (written : after ≡ fresh many (with_entries many words (entries_tagged (take (count + 1) keys') (take (count + 1) tags')))) where
          joined_written : after ≡ fresh many (with_key many words new)
          joined_written =
              let (same_keys, same_tags) = put_made told key tag has_tag absent keys' tags' put in
              made_written many words made joined_right keys' tags' (count + 1) same_keys same_tags after written

          shows_joined : contents_of many after ≡ with_key many words new
          shows_joined = shows many (with_key many words new) told.known.some joined_right after joined_written

          pub then_held : member key (keys_in (contents_of many after)) ≡ true
          then_held = ap (λ (c : Contents). member key (keys_in c)) shows_joined ∙ joined_member new (contents_of many words).entries

          -- the salt stayed, and so did the key's priority
          pub same_priority : (priority : ℕ) → priority ≡ priority_in (contents_of many words) key → priority ≡ priority_in (contents_of many after) key
          same_priority priority e = e ∙ ap (λ (c : Contents). priority_in c key) (sym shows_joined)

          pub leaves_joined : Known many after keys' tags' → (n : ℕ) → n ≡ rank (contents_of many after).order (priority_in (contents_of many after)) (keys_in (contents_of many after)) key
              → Leaves (Ok n) after keys' tags'
          leaves_joined known n e =
              let k = told.known in
              let its_rank = ranked n (contents_of many after) (with_key many words new) key e shows_joined in
              let (reply, left) =
              accepted words key (measure_at tag) many k.some k.most k.long right.0 measured_right k.sound absent room n its_rank after joined_written
              in
              (reply, (left, known))
