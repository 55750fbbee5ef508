-- The claims of `specs/Salts`. Assumes nothing.
use mathlib.Core.Bool.{true, false, cond}
use mathlib.Core.List.{List, [], ◌∷◌, ◌++◌, flat_map}
use mathlib.Core.Logic.{◌≢◌}
use mathlib.Core.Path.{◌≡◌, refl, ap, ◌∙◌}
use Prim.Native.Nat.{ℕ}
use native.Mathlib.Omega.{arith}
use lib.Bits.{bit_xor, xor_self, xor_zero_r}
use lib.Dec.{eqb, ltb}
use lib.ListN.{length, take, drop, replicate}
use borrow.Author.Tests.{le-ltb, eq-eqb, ne_eqb}
use Rattle.lists.proofs.Tests.{by_test, true_or_false}
use Rattle.measure.specs.Measure.{unmeasured, stored_correction}
use Rattle.priority.specs.Priority.{priority_of, priority_with, home_of}
use Rattle.treap.specs.Treap.{outranks, outranks_rest, top, treap, left_link, right_link}
use Rattle.treap.specs.Levels.{next_level, rank, count, leader}
use Rattle.treap.specs.Blocks.{root_rank, root_block, blocks}
use Rattle.treap.specs.Slots.{slots_of}
use Rattle.treap.specs.Image.{little_endian, header_record, block_record, node_fields, node_record, node_of, block_part, image}
use Rattle.table.specs.Layout.{slot_words}
use Rattle.table.specs.Contents.{Entry, Contents, keys_in, measure_in}
use Rattle.table.specs.Table.{home_in, header, slot_of, fresh}
use Rattle.image.specs.Layout.{salt_bytes, salt_at}
use Rattle.image.specs.Image.{salted_mark, salted, image_of, is_salted, salt_shown, read_image, is_image}
use Rattle.image.proofs.Judging.{is_image_exactly}
use Rattle.history.specs.Salts.{saltless, salted_b, Salts}

joined : (salt k : ℕ) → priority_with salt k ≡ priority_of (bit_xor k salt)
unfolding priority_with
joined salt k = refl

in_home : (many salt k : ℕ) → home_in many salt k ≡ home_of (priority_of (bit_xor k salt)) many
unfolding home_in
in_home many salt k = ap (λ (n : ℕ). home_of n many) (joined salt k)

salt_itself : (salt : ℕ) → priority_with salt salt ≡ priority_of 0
unfolding priority_with
salt_itself salt = ap priority_of (xor_self salt)

salt_zero : (k : ℕ) → priority_with 0 k ≡ priority_of k
unfolding priority_with
salt_zero k = ap priority_of (xor_zero_r k)

-- the same of all keys at once
plain : priority_with 0 ≡ priority_of
plain = λ i k. salt_zero k i

zero_table : (many order : ℕ) (entries : List Entry) →
    let c = saltless order entries in
    fresh many c
    ≡ (order ∷ length (keys_in c) ∷ top priority_of (keys_in c) ∷ 0 ∷ [])
    ++ flat_map (slot_of c) (slots_of priority_of (λ k. home_of (priority_of k) many) many (keys_in c))
unfolding fresh header home_in
zero_table many order entries =
    let c = saltless order entries in
    ap
    (λ (p : ℕ → ℕ). (order ∷ length (keys_in c) ∷ top p (keys_in c) ∷ 0 ∷ []) ++ flat_map (slot_of c) (slots_of p (λ k. home_of (p k) many) many (keys_in c)))
    plain

zero_slot : (order : ℕ) (entries : List Entry) (k : ℕ) →
    let c = saltless order entries in
    slot_of c k
    ≡ cond (eqb k 0) (replicate slot_words 0)
    (k
    ∷ left_link priority_of (keys_in c) k
    ∷ right_link priority_of (keys_in c) k
    ∷ leader order priority_of (keys_in c) k
    ∷ rank order priority_of (keys_in c) k
    ∷ count order priority_of (keys_in c) k
    ∷ (measure_in entries k).length
    ∷ stored_correction (measure_in entries k)
    ∷ [])
unfolding slot_of
zero_slot order entries k =
    let ks = keys_in (saltless order entries) in
    ap
    (λ (p : ℕ → ℕ). cond (eqb k 0) (replicate slot_words 0) (k ∷ left_link p ks k ∷ right_link p ks k ∷ leader order p ks k ∷ rank order p ks k ∷ count order p ks k ∷ (measure_in entries k).length ∷ stored_correction (measure_in entries k) ∷ []))
    plain

zero_image : (order : ℕ) (entries : List Entry) →
    let c = saltless order entries in
    image_of c ≡ image order priority_of (measure_in entries) (keys_in c)
unfolding image_of salted
zero_image order entries = ap (λ (p : ℕ → ℕ). image order p (measure_in entries) (keys_in (saltless order entries))) plain

opens : (c : Contents) → c.salt ≢ 0 → take 2 (image_of c) ≡ salted_mark
unfolding image_of salted
opens c d = rw (ne_eqb c.salt 0 d)

after_root : (c : Contents) → c.salt ≢ 0 → take salt_bytes (drop salt_at (image_of c)) ≡ little_endian salt_bytes c.salt
unfolding image_of salted image header_record
after_root c d = rw (ne_eqb c.salt 0 d)

worked : image_of (record { order = 3; salt = 1; entries = record { key = 5; measure = unmeasured } ∷ [] }) ≡ salted_b
unfolding image_of salted image header_record block_record node_fields node_record node_of block_part blocks root_block root_rank top treap outranks_rest left_link right_link rank count next_level stored_correction flat_map
worked = refl

-- the image of contents without a salt has none
unsalted : (c : Contents) → c.salt ≡ 0 → is_salted (image_of c) ≡ false
unfolding image_of salted image header_record is_salted
unsalted c e = rw (eq-eqb c.salt 0 e)

zero_refused : (bytes : List ℕ) → is_salted bytes ≡ true → salt_shown bytes ≡ 0 → is_image bytes ≡ false
unfolding read_image
zero_refused bytes marked zero =
    by_test (is_image bytes)
    (λ one. absurd (true_or_false (is_salted bytes) marked (ap is_salted (is_image_exactly bytes one) ∙ unsalted (read_image bytes) zero)))
    (λ none. none)

unsalted_read : (bytes : List ℕ) → is_salted bytes ≡ false → (read_image bytes).salt ≡ 0
unfolding read_image salt_shown
unsalted_read bytes e = rw e

ties : (salt a b : ℕ) → priority_with salt a ≡ priority_with salt b → outranks (priority_with salt) a b ≡ ltb a b
unfolding outranks
ties salt a b e =
    rw (le-ltb (priority_with salt b) (priority_with salt a) (omega arith), eq-eqb (priority_with salt a) (priority_with salt b) e)

pub salts_hold : Salts
salts_hold =
    record {
      joined = joined;
      in_home = in_home;
      salt_itself = salt_itself;
      salt_zero = salt_zero;
      ties = ties;
      zero_table = zero_table;
      zero_slot = zero_slot;
      zero_image = zero_image;
      opens = opens;
      after_root = after_root;
      worked = worked;
      zero_refused = zero_refused;
      unsalted_read = unsalted_read;
    }
