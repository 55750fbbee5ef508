-- What is known of a table that is known to be sound, and of the one written after it. Assumes nothing.
use mathlib.Core.List.{List}
use mathlib.Core.Path.{◌≡◌, sym, ap, ◌∙◌, subst}
use Prim.Native.Nat.{ℕ, ◌<◌, ◌≤◌}
use native.Mathlib.Omega.{arith}
use lib.ListN.{length, get_or, take, length-take}
use Rattle.table.specs.Layout.{most_slots, size_word, table_words}
use Rattle.table.specs.Contents.{Entry, Contents, entry_keys, keys_in, Valid}
use Rattle.table.specs.Tags.{entry_tags, tags_in, entries_tagged, Beside}
use Rattle.table.specs.Table.{fresh, contents_of}
use Rattle.table.proofs.Tagged.{tags_many, beside_of, tagged_is}
use Rattle.table.proofs.Words.{fresh_length, fresh_size}
use Rattle.table.proofs.Soundness.{WordSized, sound_exactly, sound_valid}
use Rattle.table_examine.proofs.Examined.{Examined}
use Rattle.call_changes.specs.Known.{Known, with_entries}
use Rattle.call_changes.proofs.Written.{sound_again, shows}

-- What follows: the second word is the number of keys, so many begin the lists, and they are what a table may hold.
pub record Facts (many : ℕ) (words keys tags : List ℕ) : Type 0 where
  pub known : Known many words keys tags
  pub size : get_or words size_word 0 ≡ length (keys_in (contents_of many words))
  pub taken : take (get_or words size_word 0) keys ≡ keys_in (contents_of many words)
  pub tags_taken : take (get_or words size_word 0) tags ≡ tags_in (contents_of many words)
  pub valid : Valid many (contents_of many words)
  pub inside : length (keys_in (contents_of many words)) ≤ length keys
  pub tags_inside : length (keys_in (contents_of many words)) ≤ length tags

module _ (many : ℕ) (words keys tags : List ℕ) (known : Known many words keys tags) where
  known_size : get_or words size_word 0 ≡ length (keys_in (contents_of many words))
  known_size =
      ap (λ (ws : List ℕ). get_or ws size_word 0) (sound_exactly many words known.sound) ∙ fresh_size many (contents_of many words)

  pub facts : WordSized words → Facts many words keys tags
  facts sized =
      record {
        known = known;
        size = known_size;
        taken = subst (λ (n : ℕ). take n keys ≡ keys_in (contents_of many words)) (sym known_size) known.listed;
        tags_taken = subst (λ (n : ℕ). take n tags ≡ tags_in (contents_of many words)) (sym known_size) known.measured;
        valid = sound_valid many words known.sound sized;
        inside = omega (arith, length-take (length (keys_in (contents_of many words))) keys, ap length known.listed);
        tags_inside =
            omega (arith, length-take (length (keys_in (contents_of many words))) tags, ap length known.measured, tags_many (contents_of many words).entries);
      }

-- a table that was examined
pub known_examined : (many : ℕ) (words lent keys space tags : List ℕ) (n : ℕ) → 0 < many → many ≤ most_slots → length words ≡ table_words many
    → Examined many words lent keys space tags n → Known many words keys tags
known_examined many words lent keys space tags n some most long e =
    record {
      some = some;
      most = most;
      long = long;
      sound = e.sound;
      listed = subst (λ (k : ℕ). take k keys ≡ keys_in (contents_of many words)) e.size e.keys_there.taken;
      measured = subst (λ (k : ℕ). take k tags ≡ tags_in (contents_of many words)) e.size e.tags_there.taken;
    }

-- a table that was written of valid contents, its keys and their tags in the lists
pub known_again : (many : ℕ) (words keys tags : List ℕ) (c : Contents) → 0 < many → many ≤ most_slots → Valid many c → words ≡ fresh many c
    → take (length (keys_in c)) keys ≡ keys_in c → take (length (keys_in c)) tags ≡ tags_in c → Known many words keys tags
known_again many words keys tags c some most valid written taken tagged =
    let shown = shows many c some valid words written in
    record {
      some = some;
      most = most;
      long = ap length written ∙ fresh_length many c;
      sound = sound_again many c some valid words written;
      listed = subst (λ (d : Contents). take (length (keys_in d)) keys ≡ keys_in d) (sym shown) taken;
      measured = subst (λ (d : Contents). take (length (keys_in d)) tags ≡ tags_in d) (sym shown) tagged;
    }

-- ---- lists changed at their start, and the table written of the entries that they then show
module _ (many : ℕ) (words : List ℕ) (made : List Entry) (valid : Valid many (with_entries many words made)) (keys tags : List ℕ) (n : ℕ)
    (keys-made : take n keys ≡ entry_keys made) (tags-made : take n tags ≡ entry_tags made) where
  made_entries : entries_tagged (take n keys) (take n tags) ≡ made
  made_entries = tagged_is made valid.measures_right keys-made tags-made

  pub made_valid : Valid many (with_entries many words (entries_tagged (take n keys) (take n tags)))
  made_valid = subst (λ (es : List Entry). Valid many (with_entries many words es)) (sym made_entries) valid

  pub made_beside : Beside (take n keys) (take n tags)
  made_beside = beside_of made valid.measures_right keys-made tags-made

  pub made_written : (after : List ℕ) → after ≡ fresh many (with_entries many words (entries_tagged (take n keys) (take n tags)))
      → after ≡ fresh many (with_entries many words made)
  made_written after e = e ∙ ap (λ (es : List Entry). fresh many (with_entries many words es)) made_entries
