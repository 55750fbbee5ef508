-- The numbers of the image's layout, each by its name. Assumes nothing.
use Rattle.std.specs.Prelude.{cond, ℕ, ◌+◌, ◌*◌, ◌<◌, eqb}
use Rattle.table.specs.Layout.{most_slots}

-- "Length is 15 + 14·b + 30·n": the bytes of a record; a measured key's has "6 bytes more" (02, N4).
abbrev pub header_bytes : ℕ
header_bytes = 15

abbrev pub block_bytes : ℕ
block_bytes = 14

abbrev pub node_bytes : ℕ
node_bytes = 30

abbrev pub measure_bytes : ℕ
measure_bytes = 6

-- "The salt's eight bytes" (02, N9): those that the header has more where the salt is not zero.
abbrev pub salt_bytes : ℕ
salt_bytes = 8

-- The bytes of the header of an image with this salt.
abbrev pub head_bytes : ℕ → ℕ
head_bytes salt = cond (eqb salt 0) header_bytes (header_bytes + salt_bytes)

-- The bytes of the record of a key that has this length.
abbrev pub record_bytes : ℕ → ℕ
record_bytes long = cond (eqb long 0) node_bytes (node_bytes + measure_bytes)

-- Where the header's fields begin: the order, the number of keys, the number of blocks, the root key, the salt.
abbrev pub order_at : ℕ
order_at = 2

abbrev pub size_at : ℕ
size_at = 3

abbrev pub blocks_at : ℕ
blocks_at = 5

abbrev pub root_at : ℕ
root_at = 7

abbrev pub salt_at : ℕ
salt_at = 15

-- Where a block record's fields begin: the leader key, the level, the number of keys.
abbrev pub leader_at : ℕ
leader_at = 2

abbrev pub level_at : ℕ
level_at = 10

abbrev pub held_at : ℕ
held_at = 12

-- Where the fields of a node record begin that are read: the key, the rank, the count; the length, the stored correction.
abbrev pub key_at : ℕ
key_at = 2

abbrev pub rank_at : ℕ
rank_at = 26

abbrev pub count_at : ℕ
count_at = 28

abbrev pub length_at : ℕ
length_at = 30

abbrev pub correction_at : ℕ
correction_at = 34

-- "Length is 15 + 14·b + 30·n", for n keys in b blocks, "6 bytes more" for each of m measured ones, and the salt's where it is not zero.
abbrev pub image_bytes : ℕ → ℕ → ℕ → ℕ → ℕ
image_bytes salt n b m = head_bytes salt + block_bytes * b + node_bytes * n + measure_bytes * m

-- No image has more bytes: there are at most as many blocks, and as many measured keys, as keys.
abbrev pub most_bytes : ℕ
most_bytes = header_bytes + salt_bytes + (block_bytes + node_bytes + measure_bytes) * most_slots

-- The number is a byte.
abbrev pub IsByte : ℕ → Type 0
IsByte b = b < 256
