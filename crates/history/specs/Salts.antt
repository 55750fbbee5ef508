-- What is claimed of salts (document 02, N9), beside the claims on histories; `proofs/Salted` proves it. Assumes nothing.
use Rattle.std.specs.Prelude.{true, false, cond, ◌≢◌, ◌≡◌, ℕ, eqb, ltb, length, take, drop, replicate}
use mathlib.Core.List.{List, [], ◌∷◌, ◌++◌, flat_map}
use Rattle.std.specs.Int.Bits.{bit_xor}
use Rattle.measure.specs.Measure.{unmeasured, stored_correction}
use Rattle.priority.specs.Priority.{priority_of, priority_with, home_of}
use Rattle.treap.specs.Treap.{outranks, top, left_link, right_link}
use Rattle.treap.specs.Levels.{rank, count, leader}
use Rattle.treap.specs.Slots.{slots_of}
use Rattle.treap.specs.Image.{little_endian, image}
use Rattle.table.specs.Layout.{slot_words}
use Rattle.table.specs.Contents.{Entry, Contents, keys_in, measure_in}
use Rattle.table.specs.Table.{home_in, slot_of, fresh}
use Rattle.image.specs.Layout.{salt_bytes, salt_at}
use Rattle.image.specs.Image.{salted_mark, image_of, is_salted, salt_shown, read_image, is_image}

-- An order and a set with salt zero.
abbrev pub saltless : ℕ → List Entry → Contents
saltless order entries = record { order = order; salt = 0; entries = entries }

-- The image of example B under salt 1: the header, with the salt last, the block and its key.
abbrev pub salted_b : List ℕ
salted_b =
    (76 ∷ 83 ∷ 3 ∷ 1 ∷ 0 ∷ 1 ∷ 0 ∷ 5 ∷ 0 ∷ 0 ∷ 0 ∷ 0 ∷ 0 ∷ 0 ∷ 0 ∷ 1 ∷ 0 ∷ 0 ∷ 0 ∷ 0 ∷ 0 ∷ 0 ∷ 0 ∷ [])
    ++ (76 ∷ 66 ∷ 5 ∷ 0 ∷ 0 ∷ 0 ∷ 0 ∷ 0 ∷ 0 ∷ 0 ∷ 0 ∷ 0 ∷ 1 ∷ 0 ∷ [])
    ++ (76 ∷ 78 ∷ 5 ∷ 0 ∷ 0 ∷ 0 ∷ 0 ∷ 0 ∷ 0 ∷ 0 ∷ 0 ∷ 0 ∷ 0 ∷ 0 ∷ 0 ∷ 0 ∷ 0 ∷ 0 ∷ 0 ∷ 0 ∷ 0 ∷ 0 ∷ 0 ∷ 0 ∷ 0 ∷ 0 ∷ 0 ∷ 0 ∷ 1 ∷ 0 ∷ [])

pub record Salts : Type 0 where
  -- "The priority of k, in its home too, becomes P of the exclusive or of k and the salt": where k is the salt itself, P(0); with salt zero, P(k)
  pub joined : (salt k : ℕ) → priority_with salt k ≡ priority_of (bit_xor k salt)
  pub in_home : (many salt k : ℕ) → home_in many salt k ≡ home_of (priority_of (bit_xor k salt)) many
  pub salt_itself : (salt : ℕ) → priority_with salt salt ≡ priority_of 0
  pub salt_zero : (k : ℕ) → priority_with 0 k ≡ priority_of k
  -- ties are still broken by the keys themselves, not by their salted forms
  pub ties : (salt a b : ℕ) → priority_with salt a ≡ priority_with salt b → outranks (priority_with salt) a b ≡ ltb a b
  -- with salt zero the table is that of document 01, with a zero word after the root key: the same keys in the same slots, and in each slot the
  -- same words
  pub zero_table : (many order : ℕ) (entries : List Entry) →
      let c = saltless order entries in
      fresh many c
      ≡ (order ∷ length (keys_in c) ∷ top priority_of (keys_in c) ∷ 0 ∷ [])
      ++ flat_map (slot_of c) (slots_of priority_of (λ k. home_of (priority_of k) many) many (keys_in c))
  pub zero_slot : (order : ℕ) (entries : List Entry) (k : ℕ) →
      let c = saltless order entries in
      slot_of c k
      ≡ cond (eqb k 0) (replicate slot_words 0)
      (k
      ∷ left_link priority_of (keys_in c) k
      ∷ right_link priority_of (keys_in c) k
      ∷ leader order priority_of (keys_in c) k
      ∷ rank order priority_of (keys_in c) k
      ∷ count order priority_of (keys_in c) k
      ∷ (measure_in entries k).length
      ∷ stored_correction (measure_in entries k)
      ∷ [])
  -- "salt zero keeps `LH`": its image is that of document 01, byte for byte
  pub zero_image : (order : ℕ) (entries : List Entry) →
      let c = saltless order entries in
      image_of c ≡ image order priority_of (measure_in entries) (keys_in c)
  -- "an image with salt other than zero opens with `LS`", and has the salt's eight bytes from byte 15 on, "after the root key"
  pub opens : (c : Contents) → c.salt ≢ 0 → take 2 (image_of c) ≡ salted_mark
  pub after_root : (c : Contents) → c.salt ≢ 0 → take salt_bytes (drop salt_at (image_of c)) ≡ little_endian salt_bytes c.salt
  -- document 01's example B, key 5 in order 3, under salt 1
  pub worked : image_of (record { order = 3; salt = 1; entries = record { key = 5; measure = unmeasured } ∷ [] }) ≡ salted_b
  -- "`LS` with zero gives 6"
  pub zero_refused : (bytes : List ℕ) → is_salted bytes ≡ true → salt_shown bytes ≡ 0 → is_image bytes ≡ false
  -- an image that opens otherwise is read with salt zero
  pub unsalted_read : (bytes : List ℕ) → is_salted bytes ≡ false → (read_image bytes).salt ≡ 0
