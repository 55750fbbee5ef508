-- What the tests of recognizing say of the bytes. Assumes that they are bytes.
use mathlib.Core.Bool.{true, false, ◌&&◌}
use mathlib.Core.List.Permᴰ
use mathlib.Core.List.{List, ◌++◌, append-nil}
use mathlib.Core.Logic.{◌≢◌}
use mathlib.Core.Path.{◌≡◌, refl, sym, ap, ◌∙◌, subst}
use Prim.Native.Nat.{ℕ, ◌<◌, ◌≤◌}
use native.Mathlib.Omega.{arith}
use Rattle.std.proofs.Common.{Option, Some, None}
use Rattle.std.proofs.lemmas.Option.{cond_some}
use lib.Dec.{leb, ltb}
use lib.ListN.{length, take, drop, length-map}
use lib.Seq.{drop-length}
use borrow.Author.Tests.{le-leb}
use Rattle.lists.specs.Lists.{All, same, rises_b, every, nonzero, lies, sort_by, overwrite}
use Rattle.lists.proofs.Tests.{by_test, true_or_false, and_left, and_right, and_both}
use Rattle.lists.proofs.Keep.{every_when}
use Rattle.lists.proofs.Sorting.{all_permuted, sort_by_permutes}
use Rattle.lists.proofs.Sorted.{sorted_length}
use Rattle.lists.proofs.Overwrite.{overwrite_start}
use Rattle.treap.specs.Image.{order_bytes}
use Rattle.table.specs.Layout.{most_slots, least_order, greatest_order}
use Rattle.table.specs.Contents.{Entry, table_order, rising_keys, entry_keys, keys_in, key_below, right_measure}
use Rattle.table.specs.Tags.{entry_tags, tags_in, tagged}
use Rattle.table.proofs.Entries.{sorted_keys}
use Rattle.table.proofs.Tagged.{tags_many, tagged_back}
use Rattle.table_decode.specs.Decode.{TagsSorted}
use Rattle.table_decode.proofs.RisingKeys.{rising_says}
use Rattle.table_decode.proofs.SortedInPlace as Sorted
use Rattle.table_prepare.specs.Prepared.{Keys}
use Rattle.table_prepare.proofs.Writable.{writable}
use Rattle.image.specs.Layout.{order_at, most_bytes, IsByte}
use Rattle.image.specs.Image.{image_of, salt_shown, field_at, read_image, is_image}
use Rattle.image.proofs.Judging.{is_image_says, is_image_exactly}
use Rattle.image.proofs.Lengths.{image_longest}
use Rattle.image_parts.specs.Written.{written_to}
use Rattle.image_collect.specs.Reading.{readable, entries_of, blocks_of, collected}
use Rattle.image_collect.proofs.Readable.{readable_right}
use Rattle.image_collect.proofs.Passing.{cond_none}
use Rattle.image_recognize.specs.Recognize.{recognized}

module _ (bytes : List ℕ) where
  -- The order that the bytes show.
  abbrev pub order_shown : ℕ
  order_shown = field_at order_at order_bytes bytes

  pub order_is : (read_image bytes).order ≡ order_shown
  unfolding read_image
  order_is = refl

  pub salt_is : (read_image bytes).salt ≡ salt_shown bytes
  unfolding read_image
  salt_is = refl

  pub entries_are : (read_image bytes).entries ≡ sort_by key_below (entries_of bytes)
  unfolding read_image entries_of blocks_of
  entries_are = refl

  pub keys_are : keys_in (read_image bytes) ≡ sort_by ltb (entry_keys (entries_of bytes))
  keys_are = ap entry_keys entries_are ∙ sorted_keys (entries_of bytes)

  -- measures that can be read are within the rules
  pub shown_right : (room : ℕ) → readable room bytes ≡ true → All (λ e. right_measure e ≡ true) (read_image bytes).entries
  shown_right room can =
      subst (All (λ e. right_measure e ≡ true)) (sym entries_are)
      (all_permuted (λ e. right_measure e ≡ true) (Permᴰ.symm (sort_by_permutes key_below (entries_of bytes))) (readable_right room bytes can))

  -- the keys with their tags are the set that the bytes show
  pub shown_tagged : All (λ e. right_measure e ≡ true) (read_image bytes).entries → tagged order_shown (salt_shown bytes) (keys_in (read_image bytes)) (tags_in (read_image bytes)) ≡ read_image bytes
  shown_tagged right = λ i. record { order = sym order_is i; salt = sym salt_is i; entries = tagged_back (read_image bytes).entries right i }

  -- ---- bytes that are no image
  other : is_image bytes ≡ false → None ≡ recognized bytes
  unfolding recognized
  other e = rw e

  refuted : (is_image bytes ≡ true → ⊥) → is_image bytes ≡ false
  refuted against = by_test (is_image bytes) (λ t. absurd (against t)) (λ t. t)

  pub wrong_order_lem : lies least_order greatest_order order_shown ≡ false → is_image bytes ≡ false
  unfolding is_image table_order read_image
  wrong_order_lem e = rw e

  pub not_rising_lem : rising_keys (keys_in (read_image bytes)) ≡ false → is_image bytes ≡ false
  unfolding is_image rising_keys
  not_rising_lem e =
      refuted
      (λ t.
      let ks = keys_in (read_image bytes) in
      let order-passed = and_right (table_order (read_image bytes).order) _ t in
      let rises = and_left (rises_b ks) _ order-passed in
      let some = and_left (every nonzero ks) _ (and_right (rises_b ks) _ order-passed) in
      true_or_false (rises_b ks && every nonzero ks) (and_both (rises_b ks) (every nonzero ks) rises some) e)

  pub wrong_length_lem : length (image_of (read_image bytes)) ≢ length bytes → is_image bytes ≡ false
  wrong_length_lem d = refuted (λ t. d (sym (ap length (is_image_exactly bytes t))))

  pub differs : same bytes (image_of (read_image bytes)) ≡ false → is_image bytes ≡ false
  unfolding is_image
  differs e =
      refuted
      (λ t.
      let ks = keys_in (read_image bytes) in
      true_or_false (same bytes (image_of (read_image bytes)))
      (and_right (every right_measure (read_image bytes).entries) _
      (and_right (leb (length ks) most_slots) _
      (and_right (every nonzero ks) _ (and_right (rises_b ks) _ (and_right (table_order (read_image bytes).order) _ t)))))
      e)

  pub too_long : All IsByte bytes → most_bytes < length bytes → is_image bytes ≡ false
  too_long sized h =
      refuted
      (λ t.
      let right = is_image_says bytes t sized in
      let same_length = ap length right.1 in
      let longest = image_longest (read_image bytes) right.0 in
      omega arith)

  -- what is answered of them, which says nothing of the lists
  abbrev pub Answered : (answer : Option ℕ) (keys keys-after tags tags-after : List ℕ) → Type 0
  Answered answer keys keys-after tags tags-after =
      record {
        value : answer ≡ recognized bytes;
        keys_after : is_image bytes ≡ true → keys-after ≡ overwrite keys 0 (keys_in (read_image bytes));
        tags_after : is_image bytes ≡ true → tags-after ≡ overwrite tags 0 (tags_in (read_image bytes));
      }

  pub stop : is_image bytes ≡ false → (keys keys-after tags tags-after : List ℕ) → Answered None keys keys-after tags tags-after
  stop e keys keys-after tags tags-after =
      record {
        value = other e;
        keys_after = λ t. absurd (true_or_false (is_image bytes) t e);
        tags_after = λ t. absurd (true_or_false (is_image bytes) t e);
      }

  -- ---- bytes that are one
  module _ (order : lies least_order greatest_order order_shown ≡ true) (rise : rising_keys (keys_in (read_image bytes)) ≡ true) (few : length (keys_in (read_image bytes)) ≤ most_slots) where
    pub can_be_written : Keys order_shown (keys_in (read_image bytes))
    can_be_written =
        let keys = rising_says (keys_in (read_image bytes)) rise in
        writable order_shown (keys_in (read_image bytes)) order keys.0 keys.1 few

    pub is_one : All (λ e. right_measure e ≡ true) (read_image bytes).entries → same bytes (image_of (read_image bytes)) ≡ true → is_image bytes ≡ true
    unfolding is_image table_order rising_keys
    is_one right e =
        let ks = keys_in (read_image bytes) in
        and_both (table_order (read_image bytes).order) _ (ap (lies least_order greatest_order) order_is ∙ order)
        (and_both (rises_b ks) _ (and_left (rises_b ks) (every nonzero ks) rise)
        (and_both (every nonzero ks) _ (and_right (rises_b ks) (every nonzero ks) rise)
        (and_both (leb (length ks) most_slots) _ (le-leb (length ks) most_slots few)
        (and_both (every right_measure (read_image bytes).entries) _ (every_when right_measure (read_image bytes).entries right) e))))

  pub accepted : is_image bytes ≡ true → (n : ℕ) → n ≡ length (keys_in (read_image bytes)) → Some n ≡ recognized bytes
  unfolding recognized
  accepted e n h = rw e (ap Some h)

-- ---- what collecting tells
module _ (room : ℕ) (bytes : List ℕ) where
  pub told_readable : (n : ℕ) → collected room bytes ≡ Some n → readable room bytes ≡ true
  unfolding collected
  told_readable n e = (cond_some (readable room bytes) (length (entries_of bytes)) n e).0

  pub told_broken : collected room bytes ≡ None → readable room bytes ≡ false
  unfolding collected
  told_broken e = cond_none (readable room bytes) (length (entries_of bytes)) e

  pub told_number : (n : ℕ) → collected room bytes ≡ Some n → n ≡ length (entries_of bytes)
  unfolding collected
  told_number n e = sym (cond_some (readable room bytes) (length (entries_of bytes)) n e).1

-- ---- the lists
pub shown_size : (bytes : List ℕ) (n : ℕ) → n ≡ length (entries_of bytes) → length (keys_in (read_image bytes)) ≡ n
shown_size bytes n h =
    ap length (keys_are bytes) ∙ sorted_length (entry_keys (entries_of bytes)) ∙ length-map (entries_of bytes) (λ e. e.key) ∙ sym h

pub tags_size : (bytes : List ℕ) → length (tags_in (read_image bytes)) ≡ length (keys_in (read_image bytes))
tags_size bytes = tags_many (read_image bytes).entries

-- what was collected, once it is sorted
module _ (bytes : List ℕ) {lent keys space tags : List ℕ} {n : ℕ} (had : Sorted.Collected (entries_of bytes) lent keys space tags n) where
  pub keys_sorted : (after : List ℕ) → after ≡ overwrite keys 0 (sort_by ltb (take n keys)) → after ≡ overwrite lent 0 (keys_in (read_image bytes))
  keys_sorted after e = Sorted.keys_sorted had after e ∙ ap (λ (es : List Entry). overwrite lent 0 (entry_keys es)) (sym (entries_are bytes))

  -- the tags where the keys rise
  pub tags_sorted : (after : List ℕ) → TagsSorted n keys tags after → rising_keys (keys_in (read_image bytes)) ≡ true → after ≡ overwrite space 0 (tags_in (read_image bytes))
  unfolding rising_keys
  tags_sorted after sorted rise =
      let ks = keys_in (read_image bytes) in
      Sorted.tags_sorted had after sorted
      (ap (λ (es : List Entry). rises_b (entry_keys es)) (sym (entries_are bytes)) ∙ and_left (rises_b ks) (every nonzero ks) rise)
      ∙ ap (λ (es : List Entry). overwrite space 0 (entry_tags es)) (sym (entries_are bytes))

-- bytes written over a list of their length
pub written_over : (old new : List ℕ) → length new ≡ length old → written_to old new ≡ new
unfolding written_to
written_over old new e =
    rw (le-leb (length new) (length old) (omega arith))
    (overwrite_start old new ∙ ap (λ (n : ℕ). new ++ drop n old) e ∙ ap (λ (l : List ℕ). new ++ l) (drop-length old) ∙ append-nil new)
