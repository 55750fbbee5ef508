-- The numbers of the table's layout, each by its name, and the words of a slot. Assumes nothing.
use Rattle.std.specs.Prelude.{List, ℕ, ◌+◌, ◌*◌, get_or}

-- "A table has M slots, M from 1 to 4,096".
abbrev pub most_slots : ℕ
most_slots = 4096

-- "The order α is 3 to 255".
abbrev pub least_order : ℕ
least_order = 3

abbrev pub greatest_order : ℕ
greatest_order = 255

-- "Words 0 to 2: α, n, root key. Then each slot: key, left, right, leader, rank, count" (01); "slots gain these two words after count" (02,
-- N4): the length and the stored correction; "a 64-bit salt .. in a new word after the root key" (02, N9).
abbrev pub header_words : ℕ
header_words = 4

abbrev pub slot_words : ℕ
slot_words = 8

abbrev pub order_word : ℕ
order_word = 0

abbrev pub size_word : ℕ
size_word = 1

abbrev pub root_word : ℕ
root_word = 2

abbrev pub salt_word : ℕ
salt_word = 3

-- A slot's words from its first on.
abbrev pub key_field : ℕ
key_field = 0

abbrev pub left_field : ℕ
left_field = 1

abbrev pub right_field : ℕ
right_field = 2

abbrev pub leader_field : ℕ
leader_field = 3

abbrev pub rank_field : ℕ
rank_field = 4

abbrev pub count_field : ℕ
count_field = 5

abbrev pub length_field : ℕ
length_field = 6

abbrev pub correction_field : ℕ
correction_field = 7

-- "Its length is 4 + 8·M" (02, N9).
abbrev pub table_words : ℕ → ℕ
table_words many = header_words + slot_words * many

-- The first word of a slot.
abbrev pub slot_start : ℕ → ℕ
slot_start slot = header_words + slot_words * slot

-- The key in a slot; zero when it is empty.
abbrev pub key_in : List ℕ → ℕ → ℕ
key_in words slot = get_or words (slot_start slot + key_field) 0
