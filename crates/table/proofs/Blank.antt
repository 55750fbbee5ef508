-- The words of a blank table: its order, its salt, and zeros. Assumes nothing.
use mathlib.Core.List.{List, [], ◌∷◌, ◌++◌, flat_map}
use mathlib.Core.Path.{◌≡◌, ap, ◌∙◌}
use Prim.Native.Nat.{ℕ, zero, suc, ◌+◌, ◌*◌}
use native.Mathlib.Omega.{arith}
use lib.ListN.{set, replicate, replicate-append-replicate}
use Rattle.treap.specs.Treap.{top}
use Rattle.treap.specs.Slots.{slots_of}
use Rattle.table.specs.Layout.{slot_words, order_word, salt_word, table_words}
use Rattle.table.specs.Contents.{Contents}
use Rattle.table.specs.Table.{header, slot_of, fresh}

empty_slots : (c : Contents) (many : ℕ) → flat_map (slot_of c) (replicate many 0) ≡ replicate (slot_words * many) 0
unfolding slot_of flat_map
empty_slots c zero = let none : 0 ≡ slot_words * 0 = omega arith in ap (λ (n : ℕ). replicate n 0) none
empty_slots c (suc many) =
    let all : slot_words + slot_words * many ≡ slot_words * suc many = omega arith in
    ap (λ (xs : List ℕ). replicate slot_words 0 ++ xs) (empty_slots c many)
    ∙ replicate-append-replicate slot_words (slot_words * many) 0
    ∙ ap (λ (n : ℕ). replicate n 0) all

pub blank_words : (many order salt : ℕ)
    → fresh many (record { order = order; salt = salt; entries = [] }) ≡ set (set (replicate (table_words many) 0) order_word order) salt_word salt
unfolding fresh header top slots_of flat_map
blank_words many order salt =
    let parts : suc (suc (suc (suc (slot_words * many)))) ≡ table_words many = omega arith in
    ap (λ (xs : List ℕ). order ∷ 0 ∷ 0 ∷ salt ∷ xs) (empty_slots (record { order = order; salt = salt; entries = [] }) many)
    ∙ ap (λ (n : ℕ). set (set (replicate n 0) order_word order) salt_word salt) parts
