-- The image's records: how long each is, that it is made of bytes, and what stands in the fields that a reader needs. Assumes of a
-- number, where it says so, that it fits its field.
use mathlib.Core.Bool.{true, false}
use mathlib.Core.List.{List, ◌++◌}
use mathlib.Core.Path.{◌≡◌, refl, sym, ap, ◌∙◌}
use Prim.Native.Nat.{ℕ, ◌+◌, ◌^◌, ◌<◌, ◌≤◌}
use native.Mathlib.Omega.{arith}
use lib.Dec.{eqb}
use lib.ListN.{length, take, drop}
use lib.Seq.{drop_at}
use borrow.Author.Tests.{eqb-true}
use Rattle.lists.specs.Lists.{All, nonzero}
use Rattle.lists.proofs.Tests.{by_test}
use Rattle.lists.proofs.Keep.{all_append}
use Rattle.measure.specs.Measure.{measure_from}
use Rattle.measure.proofs.Stored.{from_nothing}
use Rattle.treap.specs.Image.{little_endian, order_bytes, count_bytes, key_bytes, length_bytes, correction_bytes, header_mark, block_mark, node_mark, measured_mark, header_record, block_record, node_fields, node_record}
use Rattle.image.specs.Layout.{header_bytes, salt_bytes, head_bytes, block_bytes, record_bytes, order_at, blocks_at, held_at, key_at, length_at, correction_at, IsByte}
use Rattle.image.specs.Image.{salted_mark, salted, is_salted, header_span, salt_shown, field_at, is_measured, node_span, entry_shown}
use Rattle.image.proofs.Bytes.{little_endian_bytes, number_of_bytes, all_take, all_drop}

-- ---- the header, with its salt
pub head_at_most : (salt : ℕ) → head_bytes salt ≤ header_bytes + salt_bytes
head_at_most salt = by_test (eqb salt 0) (λ e. rw e (omega arith)) (λ e. rw e (omega arith))

pub head_at_least : (salt : ℕ) → header_bytes ≤ head_bytes salt
head_at_least salt = by_test (eqb salt 0) (λ e. rw e (omega arith)) (λ e. rw e (omega arith))

module _ (salt order n b root : ℕ) where
  abbrev head : List ℕ
  head = salted salt (header_record order n b root)

  pub header_length : length head ≡ head_bytes salt
  unfolding header_record salted
  header_length = by_test (eqb salt 0) (λ e. rw e) (λ e. rw e)

  -- the salt changes nothing of what follows the header
  pub header_first : (rest : List ℕ) → salted salt (header_record order n b root ++ rest) ≡ head ++ rest
  unfolding header_record salted
  header_first rest = by_test (eqb salt 0) (λ e. rw e) (λ e. rw e)

  pub header_order : (rest : List ℕ) → order < 256 → field_at order_at order_bytes (head ++ rest) ≡ order
  unfolding header_record salted field_at
  header_order rest h = by_test (eqb salt 0) (λ e. rw e (number_of_bytes order_bytes order h)) (λ e. rw e (number_of_bytes order_bytes order h))

  pub header_blocks : (rest : List ℕ) → b < 65536 → field_at blocks_at count_bytes (head ++ rest) ≡ b
  unfolding header_record salted field_at
  header_blocks rest h = by_test (eqb salt 0) (λ e. rw e (number_of_bytes count_bytes b h)) (λ e. rw e (number_of_bytes count_bytes b h))

  header_marked : (rest : List ℕ) → is_salted (head ++ rest) ≡ nonzero salt
  unfolding header_record salted is_salted
  header_marked rest = by_test (eqb salt 0) (λ e. rw e) (λ e. rw e)

  pub header_span_lem : (rest : List ℕ) → header_span (head ++ rest) ≡ head_bytes salt
  unfolding header_span
  header_span_lem rest = rw (header_marked rest) (by_test (eqb salt 0) (λ e. rw e) (λ e. rw e))

  pub header_salt : (rest : List ℕ) → salt < 2 ^ 64 → salt_shown (head ++ rest) ≡ salt
  unfolding salt_shown header_record salted field_at
  header_salt rest h =
      rw (header_marked rest)
      (by_test (eqb salt 0) (λ e. rw e (sym (eqb-true salt 0 e))) (λ e. rw e (number_of_bytes salt_bytes salt h)))

  pub header_dropped : (rest : List ℕ) → drop (header_span (head ++ rest)) (head ++ rest) ≡ rest
  header_dropped rest = ap (λ (k : ℕ). drop k (head ++ rest)) (header_span_lem rest) ∙ drop_at head rest (head_bytes salt) header_length

-- what its mark says of any bytes
module _ (bytes : List ℕ) where
  pub span_salted : is_salted bytes ≡ true → header_span bytes ≡ header_bytes + salt_bytes
  unfolding header_span
  span_salted e = rw e

  pub span_unsalted : is_salted bytes ≡ false → header_span bytes ≡ header_bytes
  unfolding header_span
  span_unsalted e = rw e

  pub header_within : header_bytes ≤ header_span bytes
  header_within = by_test (is_salted bytes) (λ e. omega (arith, span_salted e)) (λ e. omega (arith, span_unsalted e))

-- ---- a block's record
module _ (leader level n : ℕ) where
  pub block_length : length (block_record leader level n) ≡ block_bytes
  unfolding block_record
  block_length = refl

  pub block_held : (rest : List ℕ) → n < 65536 → field_at held_at count_bytes (block_record leader level n ++ rest) ≡ n
  unfolding block_record field_at
  block_held rest h = number_of_bytes count_bytes n h

  pub block_dropped : (rest : List ℕ) → drop block_bytes (block_record leader level n ++ rest) ≡ rest
  unfolding block_record
  block_dropped rest = refl

-- ---- a key's record
module _ (key left right rank count long stored : ℕ) where
  pub node_length : length (node_record key left right rank count long stored) ≡ record_bytes long
  unfolding node_record node_fields
  node_length = by_test (eqb long 0) (λ e. rw e) (λ e. rw e)

  pub node_marked : (rest : List ℕ) → is_measured (node_record key left right rank count long stored ++ rest) ≡ nonzero long
  unfolding node_record node_fields is_measured
  node_marked rest = by_test (eqb long 0) (λ e. rw e) (λ e. rw e)

  pub node_span_lem : (rest : List ℕ) → node_span (node_record key left right rank count long stored ++ rest) ≡ record_bytes long
  unfolding node_span
  node_span_lem rest = rw (node_marked rest) (by_test (eqb long 0) (λ e. rw e) (λ e. rw e))

  pub node_key : (rest : List ℕ) → key < 2 ^ 64 → field_at key_at key_bytes (node_record key left right rank count long stored ++ rest) ≡ key
  unfolding node_record node_fields field_at
  node_key rest h = by_test (eqb long 0) (λ e. rw e (number_of_bytes key_bytes key h)) (λ e. rw e (number_of_bytes key_bytes key h))

  -- the two numbers of a measured key
  module _ (measured : eqb long 0 ≡ false) (rest : List ℕ) where
    pub node_long : long < 2 ^ 32 → field_at length_at length_bytes (node_record key left right rank count long stored ++ rest) ≡ long
    unfolding node_record node_fields field_at
    node_long h = rw measured (number_of_bytes length_bytes long h)

    pub node_stored : stored < 65536 → field_at correction_at correction_bytes (node_record key left right rank count long stored ++ rest) ≡ stored
    unfolding node_record node_fields field_at
    node_stored h = rw measured (number_of_bytes correction_bytes stored h)

  -- so the record shows the key and the measure that is stored
  pub node_shown : (rest : List ℕ) → key < 2 ^ 64 → long < 2 ^ 32 → stored < 65536
      → entry_shown (node_record key left right rank count long stored ++ rest) ≡ record { key = key; measure = measure_from long stored }
  unfolding entry_shown
  node_shown rest h few fits =
      rw (node_marked rest, node_key rest h)
      (by_test (eqb long 0)
      (λ e. rw (e, eqb-true long 0 e, from_nothing stored))
      (λ e. rw (e, node_long e rest few, node_stored e rest fits)))

-- ---- all of them are made of bytes
both : (xs ys : List ℕ) → All IsByte xs → All IsByte ys → All IsByte (xs ++ ys)
both = all_append IsByte

record_bytes_lem : (order n b root : ℕ) → All IsByte (header_record order n b root)
unfolding header_record
record_bytes_lem order n b root =
    both (header_mark ++ little_endian order_bytes order ++ little_endian count_bytes n ++ little_endian count_bytes b) (little_endian key_bytes root)
    (both (header_mark ++ little_endian order_bytes order ++ little_endian count_bytes n) (little_endian count_bytes b)
    (both (header_mark ++ little_endian order_bytes order) (little_endian count_bytes n)
    (both header_mark (little_endian order_bytes order) (omega arith) (little_endian_bytes order_bytes order)) (little_endian_bytes count_bytes n)) (little_endian_bytes count_bytes b)) (little_endian_bytes key_bytes root)

salted_bytes : (salt : ℕ) (bytes : List ℕ) → All IsByte bytes → All IsByte (salted salt bytes)
unfolding salted
salted_bytes salt bytes h =
    let fields = drop (length header_mark) (take header_bytes bytes) in
    by_test (eqb salt 0) (λ e. rw e h)
    (λ e.
    rw e
    (both (salted_mark ++ fields ++ little_endian salt_bytes salt) (drop header_bytes bytes)
    (both (salted_mark ++ fields) (little_endian salt_bytes salt)
    (both salted_mark fields (omega arith) (all_drop IsByte (length header_mark) (take header_bytes bytes) (all_take IsByte header_bytes bytes h)))
    (little_endian_bytes salt_bytes salt)) (all_drop IsByte header_bytes bytes h)))

pub header_bytes_lem : (salt order n b root : ℕ) → All IsByte (salted salt (header_record order n b root))
header_bytes_lem salt order n b root = salted_bytes salt (header_record order n b root) (record_bytes_lem order n b root)

pub block_bytes_lem : (leader level n : ℕ) → All IsByte (block_record leader level n)
unfolding block_record
block_bytes_lem leader level n =
    both (block_mark ++ little_endian key_bytes leader ++ little_endian count_bytes level) (little_endian count_bytes n)
    (both (block_mark ++ little_endian key_bytes leader) (little_endian count_bytes level)
    (both block_mark (little_endian key_bytes leader) (omega arith) (little_endian_bytes key_bytes leader)) (little_endian_bytes count_bytes level)) (little_endian_bytes count_bytes n)

fields_bytes : (key left right rank count : ℕ) → All IsByte (node_fields key left right rank count)
unfolding node_fields
fields_bytes key left right rank count =
    both (little_endian key_bytes key ++ little_endian key_bytes left ++ little_endian key_bytes right ++ little_endian count_bytes rank) (little_endian count_bytes count)
    (both (little_endian key_bytes key ++ little_endian key_bytes left ++ little_endian key_bytes right) (little_endian count_bytes rank)
    (both (little_endian key_bytes key ++ little_endian key_bytes left) (little_endian key_bytes right)
    (both (little_endian key_bytes key) (little_endian key_bytes left) (little_endian_bytes key_bytes key) (little_endian_bytes key_bytes left)) (little_endian_bytes key_bytes right)) (little_endian_bytes count_bytes rank)) (little_endian_bytes count_bytes count)

pub node_bytes_lem : (key left right rank count long stored : ℕ) → All IsByte (node_record key left right rank count long stored)
unfolding node_record
node_bytes_lem key left right rank count long stored =
    let fields = node_fields key left right rank count in
    let plain = fields_bytes key left right rank count in
    by_test (eqb long 0) (λ e. rw e (both node_mark fields (omega arith) plain))
    (λ e.
    rw e
    (both (measured_mark ++ fields ++ little_endian length_bytes long) (little_endian correction_bytes stored)
    (both (measured_mark ++ fields) (little_endian length_bytes long) (both measured_mark fields (omega arith) plain) (little_endian_bytes length_bytes long))
    (little_endian_bytes correction_bytes stored)))
