-- What the tests of a delete say of its reply and of the table after it. Assumes nothing.
use mathlib.Core.Bool.{true, false}
use mathlib.Core.List.{List}
use mathlib.Core.Path.{◌≡◌, refl, ap, ◌∙◌}
use Prim.Native.Nat.{ℕ, ◌-◌, ◌<◌, ◌≤◌}
use native.Mathlib.Omega.{arith}
use lib.Dec.{eqb}
use lib.ListN.{length, get_or, take, length-map}
use borrow.Author.Tests.{eq-eqb, ne_eqb}
use Rattle.std.specs.Prelude.{Result, Ok, Err, Some, None}
use Rattle.lists.specs.Lists.{member}
use Rattle.treap.specs.Levels.{rank}
use Rattle.table.specs.Contents.{Entry, Contents, keys_in, priority_in, Valid}
use Rattle.table.specs.Tags.{entries_tagged, Beside}
use Rattle.table.specs.Layout.{most_slots, size_word, table_words}
use Rattle.table.specs.Table.{fresh, contents_of}
use Rattle.table.specs.Sound.{sound_with}
use Rattle.table_limits.specs.Lengths.{slots_for, slots_if}
use Rattle.table_limits.proofs.Lengths.{slots_none, slots_some}
use Rattle.call_sets.specs.Sets.{without}
use Rattle.call_sets.specs.Indices.{index_of}
use Rattle.call_sets.proofs.Placing.{index_below, placed_without, removed_length}
use Rattle.call_replies.specs.Replies.{ranked_of}
use Rattle.call_replies.specs.declared.Refusal.{Refusal}
use Rattle.call_replies.specs.declared.Refusal.TheVariants.{WrongLength, ZeroKey, NotSound, KeyAbsent}
use Rattle.call_meaning.specs.Reasons.{wrong_length, zero_key, not_sound, key_absent}
use Rattle.call_meaning.specs.Calls.{rank_in, rewritten, shrunk, delete_refusal, delete_reply, delete_after}
use Rattle.call_meaning.proofs.Judged.{slots_here, right_length, judged, shown_is, member_shown}
use Rattle.call_changes.specs.Known.{Known, with_entries}
use Rattle.call_changes.proofs.Sets.{without_valid}
use Rattle.call_changes.proofs.Written.{ranked}
use Rattle.call_changes.proofs.Knowing.{Facts, made_valid, made_beside, made_written}
use Rattle.call_changes.proofs.Editing.{Removed, removed_made}

-- What a table of so many slots shows, with a key less.
abbrev pub without_key : ℕ → List ℕ → ℕ → Contents
without_key many words key = with_entries many words (without key (contents_of many words).entries)

module _ (words : List ℕ) (key : ℕ) where
  -- What a delete that answers so and leaves these words meets.
  abbrev Meets : Result ℕ Refusal → List ℕ → Type 0
  Meets answer after = (ranked_of answer ≡ delete_reply words key) × (after ≡ delete_after words key)

  pub refused_length : slots_if (slots_for (length words)) ≡ None → Meets (Err WrongLength) words
  unfolding delete_reply delete_after delete_refusal wrong_length
  refused_length e = let none = slots_none (slots_for (length words)) e in (rw none, rw none)

  pub refused_zero : (many : ℕ) → slots_if (slots_for (length words)) ≡ Some many → key ≡ 0 → Meets (Err ZeroKey) words
  unfolding delete_reply delete_after delete_refusal wrong_length zero_key
  refused_zero many here e =
      let told = slots_some (slots_for (length words)) many here in
      let right = ne_eqb (slots_for (length words)) 0 (λ none. omega (arith, told.0, told.1)) in
      let zero_key = eq-eqb key 0 e in
      (rw (right, zero_key), rw (right, zero_key))

  module _ (many : ℕ) (some : 0 < many) (most : many ≤ most_slots) (long : length words ≡ table_words many) (positive : 1 ≤ key) where
    slots_right : eqb (slots_for (length words)) 0 ≡ false
    slots_right = right_length words many some most long

    not_zero : eqb key 0 ≡ false
    not_zero = ne_eqb key 0 (λ e. omega arith)

    pub refused_table : sound_with many words ≡ false → Meets (Err NotSound) words
    unfolding delete_reply delete_after delete_refusal wrong_length zero_key not_sound
    refused_table e =
        let unsound = judged words many some most long false e in
        (rw (slots_right, not_zero, unsound), rw (slots_right, not_zero, unsound))

    module _ (sound : sound_with many words ≡ true) where
      pub refused_absent : member key (keys_in (contents_of many words)) ≡ false → Meets (Err KeyAbsent) words
      unfolding delete_reply delete_after delete_refusal wrong_length zero_key not_sound key_absent
      refused_absent e =
          let is_sound = judged words many some most long true sound in
          let absent = member_shown words many some most long key false e in
          (rw (slots_right, not_zero, is_sound, absent), rw (slots_right, not_zero, is_sound, absent))

      pub accepted : member key (keys_in (contents_of many words)) ≡ true → (n : ℕ) → n ≡ rank_in (contents_of many words) key
          → (after : List ℕ) → after ≡ fresh many (without_key many words key) → Meets (Ok n) after
      unfolding delete_reply delete_after delete_refusal wrong_length zero_key not_sound key_absent rewritten shrunk
      accepted held n e after q =
          let is_sound = judged words many some most long true sound in
          let present = member_shown words many some most long key true held in
          let shown_here = shown_is words many some most long in (
            rw (slots_right, not_zero, is_sound, present, shown_here, e),
            rw (slots_right, not_zero, is_sound, present, shown_here, slots_here words many some most long) q,
          )

-- ---- a table that is known to be sound
module _ {many : ℕ} {words keys tags : List ℕ} (told : Facts many words keys tags) (key : ℕ) (positive : 1 ≤ key) where
  abbrev held_keys_lem : List ℕ
  held_keys_lem = keys_in (contents_of many words)

  abbrev count : ℕ
  count = get_or words size_word 0

  abbrev made : List Entry
  made = without key (contents_of many words).entries

  -- What a delete that answers so and leaves this table with these lists of its keys and tags meets.
  abbrev Leaves : Result ℕ Refusal → List ℕ → List ℕ → List ℕ → Type 0
  Leaves answer after keys' tags' = (ranked_of answer ≡ delete_reply words key) × ((after ≡ delete_after words key) × Known many after keys' tags')

  pub leaves_absent : member key held_keys_lem ≡ false → Leaves (Err KeyAbsent) words keys tags
  leaves_absent absent =
      let k = told.known in
      let (reply, after) = refused_absent words key many k.some k.most k.long positive k.sound absent in
      (reply, (after, k))

  -- ---- the key was taken out
  module _ (held : member key held_keys_lem ≡ true) where
    pub key_there : member key (take count keys) ≡ true
    key_there = ap (member key) told.taken ∙ held

    pub some_left : 0 < count
    some_left = omega (arith, told.size, index_below key held_keys_lem told.valid.keys_rise held)

    left_right : Valid many (with_entries many words made)
    left_right = without_valid key many (contents_of many words) told.valid

    left_size : count - 1 ≡ length made
    left_size =
        let es = (contents_of many words).entries in
        let fewer = removed_length (index_of key held_keys_lem) es (omega (arith, index_below key held_keys_lem told.valid.keys_rise held, length-map es (λ e. e.key))) in
        omega (arith, told.size, length-map es (λ e. e.key), fewer, ap length (placed_without key es told.valid.keys_rise held))

    module _ (keys' tags' : List ℕ) (out : Removed told key keys' tags') where
      pub can_be_written : Valid many (with_entries many words (entries_tagged (take (count - 1) keys') (take (count - 1) tags'))) × Beside (take (count - 1) keys') (take (count - 1) tags')
      can_be_written =
          let (same_keys, same_tags) = removed_made told key held keys' tags' out (count - 1) left_size in
          (made_valid many words made left_right keys' tags' (count - 1) same_keys same_tags, made_beside many words made left_right keys' tags' (count - 1) same_keys same_tags)

      pub leaves_without : (after : List ℕ) → after ≡ fresh many (with_entries many words (entries_tagged (take (count - 1) keys') (take (count - 1) tags')))
          → Known many after keys' tags' → (n : ℕ) → n ≡ rank (contents_of many words).order (priority_in (contents_of many words)) held_keys_lem key → Leaves (Ok n) after keys' tags'
      leaves_without after written known n e =
          let k = told.known in
          let its_rank = ranked n (contents_of many words) (contents_of many words) key e refl in
          let (same_keys, same_tags) = removed_made told key held keys' tags' out (count - 1) left_size in
          let left_written = made_written many words made left_right keys' tags' (count - 1) same_keys same_tags after written in
          let (reply, then) = accepted words key many k.some k.most k.long positive k.sound held n its_rank after left_written in
          (reply, (then, known))
