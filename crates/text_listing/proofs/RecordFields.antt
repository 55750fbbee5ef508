-- What stands in the fields of an image's records that a listing shows. Assumes of a number that it fits its field.
use mathlib.Core.List.{List, ◌++◌}
use mathlib.Core.Path.{◌≡◌}
use Prim.Native.Nat.{ℕ, ◌^◌, ◌<◌}
use lib.Dec.{eqb}
use Rattle.lists.proofs.Tests.{by_test}
use Rattle.treap.specs.Blocks.{fill}
use Rattle.treap.specs.Image.{order_bytes, count_bytes, key_bytes, header_record, block_record, node_fields, node_record}
use Rattle.image.specs.Layout.{order_at, size_at, blocks_at, root_at, leader_at, level_at, held_at, key_at, rank_at, count_at}
use Rattle.image.specs.Image.{salted, field_at}
use Rattle.image.proofs.Bytes.{number_of_bytes}
use Rattle.text_lines.specs.Lines.{header_line, block_line, key_line}
use Rattle.text_listing.specs.Shown.{shown_key, held_in, shown_block_line, shown_header}

module _ (salt order n b root : ℕ) (rest : List ℕ) where
  pub header_size : n < 65536 → field_at size_at count_bytes (salted salt (header_record order n b root) ++ rest) ≡ n
  unfolding header_record salted field_at
  header_size h = by_test (eqb salt 0) (λ e. rw e (number_of_bytes count_bytes n h)) (λ e. rw e (number_of_bytes count_bytes n h))

  pub header_root : root < 2 ^ 64 → field_at root_at key_bytes (salted salt (header_record order n b root) ++ rest) ≡ root
  unfolding header_record salted field_at
  header_root h = by_test (eqb salt 0) (λ e. rw e (number_of_bytes key_bytes root h)) (λ e. rw e (number_of_bytes key_bytes root h))

module _ (leader level n : ℕ) (rest : List ℕ) where
  pub block_leader_lem : leader < 2 ^ 64 → field_at leader_at key_bytes (block_record leader level n ++ rest) ≡ leader
  unfolding block_record field_at
  block_leader_lem h = number_of_bytes key_bytes leader h

  pub block_level_lem : level < 65536 → field_at level_at count_bytes (block_record leader level n ++ rest) ≡ level
  unfolding block_record field_at
  block_level_lem h = number_of_bytes count_bytes level h

-- a key's record, measured or not
module _ (key left right rank count long stored : ℕ) (rest : List ℕ) where
  pub node_rank : rank < 65536 → field_at rank_at count_bytes (node_record key left right rank count long stored ++ rest) ≡ rank
  unfolding node_record node_fields field_at
  node_rank h = by_test (eqb long 0) (λ e. rw e (number_of_bytes count_bytes rank h)) (λ e. rw e (number_of_bytes count_bytes rank h))

  pub node_count : count < 65536 → field_at count_at count_bytes (node_record key left right rank count long stored ++ rest) ≡ count
  unfolding node_record node_fields field_at
  node_count h = by_test (eqb long 0) (λ e. rw e (number_of_bytes count_bytes count h)) (λ e. rw e (number_of_bytes count_bytes count h))

-- ---- a line from the fields that are read
pub key_line_shown : (node : List ℕ) (key rank count : ℕ) → key ≡ field_at key_at key_bytes node → rank ≡ field_at rank_at count_bytes node
    → count ≡ field_at count_at count_bytes node → key_line key rank count ≡ shown_key node
unfolding shown_key
key_line_shown node key rank count e f g = rw (e, f, g)

pub block_line_shown : (part : List ℕ) (leader level held : ℕ) → leader ≡ field_at leader_at key_bytes part → level ≡ field_at level_at count_bytes part
    → held ≡ field_at held_at count_bytes part → block_line leader level held ≡ shown_block_line part
unfolding shown_block_line held_in
block_line_shown part leader level held e f g = rw (e, f, g)

pub header_line_shown : (image : List ℕ) (order keys blocks filled root : ℕ) → order ≡ field_at order_at order_bytes image → keys ≡ field_at size_at count_bytes image
    → blocks ≡ field_at blocks_at count_bytes image → filled ≡ fill order keys blocks → root ≡ field_at root_at key_bytes image
    → header_line order keys blocks filled root ≡ shown_header image
unfolding shown_header
header_line_shown image order keys blocks filled root e f g h k = rw (h, e, f, g, k)
