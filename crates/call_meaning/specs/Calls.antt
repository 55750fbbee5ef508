-- What each call replies and leaves behind, from what it is handed. Assumes nothing.
use Rattle.std.specs.Prelude.{cond, List, [], ◌∷◌, ◌++◌, ℕ, ℤ, pos, length, get_or}
use Rattle.lists.specs.Lists.{member, overwrite}
use Rattle.measure.specs.Measure.{Measure, measures_beside}
use Rattle.treap.specs.Levels.{rank, count, leader}
use Rattle.treap.specs.Blocks.{blocks_met}
use Rattle.table.specs.Contents.{Contents, keys_in, priority_in, measure_in, entries_with}
use Rattle.table.specs.Table.{fresh}
use Rattle.image.specs.Image.{image_of, read_image}
use Rattle.call_sets.specs.Sets.{joined, without}
use Rattle.call_sets.specs.Load.{loaded}
use Rattle.table_limits.specs.Lengths.{slots_for}
use Rattle.intervals.specs.Intervals.{within}
use Rattle.call_replies.specs.Replies.{Reply, first_that_applies, unless_refused}
use Rattle.call_meaning.specs.Reasons.{wrong_length, wrong_order, zero_key, low_above_high, not_rising, not_an_image, not_sound, key_held, key_absent, too_many_keys, output_too_short, wrong_measure, wrong_measures, shown}

-- The table of an order, a salt and a set, of so many slots as the words have.
unfoldable pub rewritten : List ℕ → Contents → List ℕ
rewritten words c = fresh (slots_for (length words)) c

-- A key's rank among those of an order, a salt and a set.
unfoldable pub rank_in : Contents → ℕ → ℕ
rank_in c key = rank c.order (priority_in c) (keys_in c) key

-- "Set-up uses 1, 2"; the salt, "chosen at set-up or build" (02, N9), is any 64-bit number, so that no reason is about it.
unfoldable pub set_up_refusal : List ℕ → ℕ → ℕ
set_up_refusal words order = first_that_applies (wrong_length words ∷ wrong_order order ∷ [])

unfoldable pub set_up_reply : List ℕ → ℕ → Reply
set_up_reply words order = record { refusal = set_up_refusal words order; numbers = [] }

-- "Set-up writes a blank table", with its salt.
unfoldable pub set_up_after : List ℕ → ℕ → ℕ → List ℕ
set_up_after words order salt =
    unless_refused (set_up_refusal words order) (rewritten words (record { order = order; salt = salt; entries = [] })) words

-- A load: "Errors: the checks are 1, 2."
unfoldable pub load_refusal : List ℕ → ℕ → ℕ
load_refusal words order = first_that_applies (wrong_length words ∷ wrong_order order ∷ [])

unfoldable pub load_reply : List ℕ → ℕ → Reply
load_reply words order = record { refusal = load_refusal words order; numbers = [] }

-- "A load sets up the table with a given order, then does 0 to 65,535 operations .. The end set must equal what these rules give
-- without the treap" (02, N1); "loads use salt zero" (02, N9).
unfoldable pub load_after : List ℕ → ℕ → ℕ → ℕ → List ℕ
load_after words order seed count =
    unless_refused (load_refusal words order)
    (rewritten words (record { order = order; salt = 0; entries = loaded (slots_for (length words)) seed count }))
    words

-- "Build 1, 2, 5, 10"; 12 is "checked straight after 5". A list of keys, and beside it their lengths and corrections.
unfoldable pub build_refusal : List ℕ → ℕ → List ℕ → List ℕ → List ℤ → ℕ
build_refusal words order list lengths corrections =
    first_that_applies
    (wrong_length words
    ∷ wrong_order order
    ∷ not_rising list
    ∷ wrong_measures list lengths corrections
    ∷ too_many_keys words (length list)
    ∷ [])

unfoldable pub build_reply : List ℕ → ℕ → List ℕ → List ℕ → List ℤ → Reply
build_reply words order list lengths corrections = record { refusal = build_refusal words order list lengths corrections; numbers = [] }

-- "An accepted build writes it, whatever the lent words held."
unfoldable pub build_after : List ℕ → ℕ → ℕ → List ℕ → List ℕ → List ℤ → List ℕ
build_after words order salt list lengths corrections =
    unless_refused (build_refusal words order list lengths corrections)
    (rewritten words (record { order = order; salt = salt; entries = entries_with list (measures_beside lengths corrections) }))
    words

-- The order, the salt and the set that the words show, with a key and its measure that join the set, and with a key that leaves it.
unfoldable pub grown : List ℕ → ℕ → Measure → Contents
grown words key measure =
    record {
      order = (shown words).order;
      salt = (shown words).salt;
      entries = joined (record { key = key; measure = measure }) (shown words).entries;
    }

unfoldable pub shrunk : List ℕ → ℕ → Contents
shrunk words key = record { order = (shown words).order; salt = (shown words).salt; entries = without key (shown words).entries }

-- "Insert 1, 3, 7, 8, 10"; 12 is checked "on insert after 3".
unfoldable pub insert_refusal : List ℕ → ℕ → Measure → ℕ
insert_refusal words key measure =
    first_that_applies
    (wrong_length words
    ∷ zero_key key
    ∷ wrong_measure measure
    ∷ not_sound words
    ∷ key_held words key
    ∷ too_many_keys words (length (keys_in (grown words key measure)))
    ∷ [])

-- "Insert and delete give the key's rank (for delete, the rank it had)."
unfoldable pub insert_reply : List ℕ → ℕ → Measure → Reply
insert_reply words key measure =
    record {
      refusal = insert_refusal words key measure;
      numbers = unless_refused (insert_refusal words key measure) (rank_in (grown words key measure) key ∷ []) (0 ∷ []);
    }

unfoldable pub insert_after : List ℕ → ℕ → Measure → List ℕ
insert_after words key measure = unless_refused (insert_refusal words key measure) (rewritten words (grown words key measure)) words

-- "Delete 1, 3, 7, 9."
unfoldable pub delete_refusal : List ℕ → ℕ → ℕ
delete_refusal words key = first_that_applies (wrong_length words ∷ zero_key key ∷ not_sound words ∷ key_absent words key ∷ [])

unfoldable pub delete_reply : List ℕ → ℕ → Reply
delete_reply words key =
    record {
      refusal = delete_refusal words key;
      numbers = unless_refused (delete_refusal words key) (rank_in (shown words) key ∷ []) (0 ∷ []);
    }

unfoldable pub delete_after : List ℕ → ℕ → List ℕ
delete_after words key = unless_refused (delete_refusal words key) (rewritten words (shrunk words key)) words

-- "Lookup 1, 3, 7."
unfoldable pub lookup_refusal : List ℕ → ℕ → ℕ
lookup_refusal words key = first_that_applies (wrong_length words ∷ zero_key key ∷ not_sound words ∷ [])

-- "Lookup gives held or absent, and rank, count and leader (zeros when absent)": one for held, zero for absent, and these.
unfoldable pub standing_in : Contents → ℕ → List ℕ
standing_in c key =
    cond (member key (keys_in c))
    (1 ∷ rank_in c key ∷ count c.order (priority_in c) (keys_in c) key ∷ leader c.order (priority_in c) (keys_in c) key ∷ [])
    (0 ∷ 0 ∷ 0 ∷ 0 ∷ [])

-- "It also gives the number of different blocks that hold the keys it compares on its way down" (01); and the measure, which "lookups
-- carry" (02, N4): the length, zero when absent or not measured.
unfoldable pub lookup_reply : List ℕ → ℕ → Reply
lookup_reply words key =
    record {
      refusal = lookup_refusal words key;
      numbers =
          unless_refused (lookup_refusal words key)
          (standing_in (shown words) key
          ++ (blocks_met (shown words).order (priority_in (shown words)) (keys_in (shown words)) key ∷ (measure_in (shown words).entries key).length ∷ []))
          (0 ∷ 0 ∷ 0 ∷ 0 ∷ 0 ∷ 0 ∷ []);
    }

-- "The number of different blocks" in its reply: it comes after held or absent, rank, count and leader.
unfoldable pub blocks_told : Reply → ℕ
blocks_told reply = get_or reply.numbers 4 0

-- The correction that it gives beside these numbers.
unfoldable pub lookup_correction : List ℕ → ℕ → ℤ
lookup_correction words key = unless_refused (lookup_refusal words key) (measure_in (shown words).entries key).correction (pos 0)

-- "Range 1, 4, 7, 11."
unfoldable pub range_refusal : List ℕ → ℕ → ℕ → List ℕ → ℕ
range_refusal words low high output =
    first_that_applies
    (wrong_length words
    ∷ low_above_high low high
    ∷ not_sound words
    ∷ output_too_short (length output) (length (within low high (keys_in (shown words))))
    ∷ [])

-- "Range writes the held keys from low to high, both included, rising, and their number; later output words are unchanged."
unfoldable pub range_reply : List ℕ → ℕ → ℕ → List ℕ → Reply
range_reply words low high output =
    record {
      refusal = range_refusal words low high output;
      numbers = unless_refused (range_refusal words low high output) (length (within low high (keys_in (shown words))) ∷ []) (0 ∷ []);
    }

unfoldable pub range_output : List ℕ → ℕ → ℕ → List ℕ → List ℕ
range_output words low high output =
    unless_refused (range_refusal words low high output) (overwrite output 0 (within low high (keys_in (shown words)))) output

-- ---- a text of what the table shows, written at the start of an output
-- "Writer 1, 7, 11" (01); the printed pages' "checks are 1, 7, 11" (02, N6).
module _ (text : Contents → List ℕ) where
  unfoldable pub text_refusal : List ℕ → List ℕ → ℕ
  text_refusal words output =
      first_that_applies (wrong_length words ∷ not_sound words ∷ output_too_short (length output) (length (text (shown words))) ∷ [])

  -- The text's length.
  unfoldable pub text_reply : List ℕ → List ℕ → Reply
  text_reply words output =
      record {
        refusal = text_refusal words output;
        numbers = unless_refused (text_refusal words output) (length (text (shown words)) ∷ []) (0 ∷ []);
      }

  -- Later bytes of the output stay.
  unfoldable pub text_output : List ℕ → List ℕ → List ℕ
  text_output words output = unless_refused (text_refusal words output) (overwrite output 0 (text (shown words))) output

-- "Writer 1, 7, 11." "The writer gives it", the image's length, "and changes no later output byte."
abbrev pub write_refusal : List ℕ → List ℕ → ℕ
write_refusal words output = text_refusal image_of words output

abbrev pub write_reply : List ℕ → List ℕ → Reply
write_reply words output = text_reply image_of words output

abbrev pub write_output : List ℕ → List ℕ → List ℕ
write_output words output = text_output image_of words output

-- "Reader 1, 6, 10."
unfoldable pub read_refusal : List ℕ → List ℕ → ℕ
read_refusal words bytes =
    first_that_applies (wrong_length words ∷ not_an_image bytes ∷ too_many_keys words (length (keys_in (read_image bytes))) ∷ [])

unfoldable pub read_reply : List ℕ → List ℕ → Reply
read_reply words bytes = record { refusal = read_refusal words bytes; numbers = [] }

-- The table for "the order and set whose image the bytes are", and for the salt: "salt zero keeps `LH`", so that an `LH` image makes it zero.
unfoldable pub read_after : List ℕ → List ℕ → List ℕ
read_after words bytes = unless_refused (read_refusal words bytes) (rewritten words (read_image bytes)) words
