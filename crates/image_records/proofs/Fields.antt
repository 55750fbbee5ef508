-- Fields written one after the other make a record. Assumes nothing.
use mathlib.Core.List.{List, [], ◌∷◌, ◌++◌}
use mathlib.Core.Logic.{◌≢◌}
use mathlib.Core.Path.{◌≡◌, refl, ap, ◌∙◌, subst}
use Prim.Native.Nat.{ℕ, ◌+◌, ◌≤◌}
use native.Mathlib.Omega.{arith}
use lib.ListN.{length, set, drop}
use borrow.Author.Tests.{eq-eqb, ne_eqb}
use Rattle.lists.specs.Lists.{overwrite}
use Rattle.lists.proofs.Parts.{set_is, overwrite_more, overwrite_next}
use Rattle.treap.specs.Image.{little_endian, order_bytes, count_bytes, key_bytes, length_bytes, correction_bytes, header_mark, block_mark, node_mark, measured_mark, header_record, block_record, node_fields, node_record}
use Rattle.image.specs.Layout.{header_bytes, salt_bytes, head_bytes, block_bytes, node_bytes, measure_bytes, record_bytes, salt_at, length_at, correction_at}
use Rattle.image.specs.Image.{salted_mark, salted}

-- the two bytes of a mark
pub mark_written : (before : List ℕ) (at a b : ℕ) → at + 2 ≤ length before → set (set before at a) (at + 1) b ≡ overwrite before at (a ∷ b ∷ [])
mark_written before at a b h =
    ap (λ (xs : List ℕ). set xs (at + 1) b) (set_is at a before (omega arith))
    ∙ overwrite_more at (at + 1) (a ∷ []) before (omega arith) (omega arith) b (omega arith)

-- a field more, where the part written so far ends
field_written : (before : List ℕ) (at : ℕ) (part output field next : List ℕ) (i : ℕ) → length part ≡ i → at + i + length field ≤ length before
    → output ≡ overwrite before at part → next ≡ overwrite output (at + i) field → next ≡ overwrite before at (part ++ field)
field_written before at part output field next i e h o n =
    n ∙ ap (λ (xs : List ℕ). overwrite xs (at + i) field) o ∙ overwrite_next at (at + i) part before (omega arith) (omega arith) field h

-- the mark and the fields that every header has
pub head_written : (before marked ordered sized counted output : List ℕ) (at kind order size blocks root : ℕ) → at + header_bytes ≤ length before
    → marked ≡ overwrite before at (76 ∷ kind ∷ [])
    → ordered ≡ overwrite marked (at + 2) (little_endian order_bytes order)
    → sized ≡ overwrite ordered (at + 3) (little_endian count_bytes size)
    → counted ≡ overwrite sized (at + 5) (little_endian count_bytes blocks)
    → output ≡ overwrite counted (at + 7) (little_endian key_bytes root)
    → output ≡ overwrite before at ((76 ∷ kind ∷ []) ++ drop 2 (header_record order size blocks root))
unfolding header_record
head_written before marked ordered sized counted output at kind order size blocks root h m o s c r =
    let mark : List ℕ = 76 ∷ kind ∷ [] in
    let part = mark ++ little_endian order_bytes order in
    let e = field_written before at mark marked (little_endian order_bytes order) ordered 2 refl (omega arith) m o in
    let f = field_written before at part ordered (little_endian count_bytes size) sized 3 refl (omega arith) e s in
    let g = field_written before at (part ++ little_endian count_bytes size) sized (little_endian count_bytes blocks) counted 5 refl (omega arith) f c in
    field_written before at (part ++ little_endian count_bytes size ++ little_endian count_bytes blocks) counted (little_endian key_bytes root) output 7 refl (omega arith) g r

-- ---- the header, by whether it has a salt
pub unsalted_room : (at salt room : ℕ) → salt ≡ 0 → at + head_bytes salt ≤ room → at + header_bytes ≤ room
unsalted_room at salt room e fits = subst (λ (n : ℕ). at + head_bytes n ≤ room) e fits

pub salted_room : (at salt room : ℕ) → salt ≢ 0 → at + head_bytes salt ≤ room → at + header_bytes + salt_bytes ≤ room
salted_room at salt room d fits =
    let same : head_bytes salt ≡ header_bytes + salt_bytes = rw (ne_eqb salt 0 d) in
    omega arith

module _ (before output : List ℕ) (at order size blocks root salt : ℕ) where
  pub unsalted_written : salt ≡ 0 → output ≡ overwrite before at (header_mark ++ drop 2 (header_record order size blocks root))
      → output ≡ overwrite before at (salted salt (header_record order size blocks root))
  unfolding salted header_record
  unsalted_written e o = rw (eq-eqb salt 0 e) o

  pub salted_written : (common : List ℕ) → salt ≢ 0 → at + head_bytes salt ≤ length before
      → common ≡ overwrite before at (salted_mark ++ drop 2 (header_record order size blocks root))
      → output ≡ overwrite common (at + salt_at) (little_endian salt_bytes salt)
      → output ≡ overwrite before at (salted salt (header_record order size blocks root))
  unfolding salted header_record
  salted_written common d room c s =
      let part = salted_mark ++ drop 2 (header_record order size blocks root) in
      let fits = salted_room at salt (length before) d room in
      rw (ne_eqb salt 0 d) (field_written before at part common (little_endian salt_bytes salt) output salt_at refl (omega arith) c s)

pub block_written : (before marked led leveled output : List ℕ) (at leader level held : ℕ) → at + block_bytes ≤ length before
    → marked ≡ overwrite before at block_mark
    → led ≡ overwrite marked (at + 2) (little_endian key_bytes leader)
    → leveled ≡ overwrite led (at + 10) (little_endian count_bytes level)
    → output ≡ overwrite leveled (at + 12) (little_endian count_bytes held)
    → output ≡ overwrite before at (block_record leader level held)
unfolding block_record
block_written before marked led leveled output at leader level held h m l v n =
    let part = block_mark ++ little_endian key_bytes leader in
    let e = field_written before at block_mark marked (little_endian key_bytes leader) led 2 refl (omega arith) m l in
    let f = field_written before at part led (little_endian count_bytes level) leveled 10 refl (omega arith) e v in
    field_written before at (part ++ little_endian count_bytes level) leveled (little_endian count_bytes held) output 12 refl (omega arith) f n

-- the mark and the fields that the record of every key has
pub fields_written : (before marked keyed lefted righted ranked output : List ℕ) (at kind key left right rank count : ℕ) → at + node_bytes ≤ length before
    → marked ≡ overwrite before at (76 ∷ kind ∷ [])
    → keyed ≡ overwrite marked (at + 2) (little_endian key_bytes key)
    → lefted ≡ overwrite keyed (at + 10) (little_endian key_bytes left)
    → righted ≡ overwrite lefted (at + 18) (little_endian key_bytes right)
    → ranked ≡ overwrite righted (at + 26) (little_endian count_bytes rank)
    → output ≡ overwrite ranked (at + 28) (little_endian count_bytes count)
    → output ≡ overwrite before at ((76 ∷ kind ∷ []) ++ node_fields key left right rank count)
unfolding node_fields
fields_written before marked keyed lefted righted ranked output at kind key left right rank count h m k l r a n =
    let mark : List ℕ = 76 ∷ kind ∷ [] in
    let part = mark ++ little_endian key_bytes key in
    let e = field_written before at mark marked (little_endian key_bytes key) keyed 2 refl (omega arith) m k in
    let f = field_written before at part keyed (little_endian key_bytes left) lefted 10 refl (omega arith) e l in
    let part = part ++ little_endian key_bytes left in
    let g = field_written before at part lefted (little_endian key_bytes right) righted 18 refl (omega arith) f r in
    let part = part ++ little_endian key_bytes right in
    let i = field_written before at part righted (little_endian count_bytes rank) ranked 26 refl (omega arith) g a in
    field_written before at (part ++ little_endian count_bytes rank) ranked (little_endian count_bytes count) output 28 refl (omega arith) i n

-- ---- a key's record, by whether it is measured
pub plain_end : (at long : ℕ) → long ≡ 0 → at + node_bytes ≡ at + record_bytes long
plain_end at long e = rw (eq-eqb long 0 e)

pub measured_end : (at long : ℕ) → long ≢ 0 → at + node_bytes + measure_bytes ≡ at + record_bytes long
measured_end at long d = rw (ne_eqb long 0 d) (omega arith)

module _ (before output : List ℕ) (at key left right rank count long stored : ℕ) where
  pub plain_room : long ≡ 0 → at + record_bytes long ≤ length before → at + node_bytes ≤ length before
  plain_room e room = subst (λ (n : ℕ). at + record_bytes n ≤ length before) e room

  pub plain_written : long ≡ 0 → output ≡ overwrite before at (node_mark ++ node_fields key left right rank count)
      → output ≡ overwrite before at (node_record key left right rank count long stored)
  unfolding node_record
  plain_written e o = rw (eq-eqb long 0 e) o

  pub measured_room : long ≢ 0 → at + record_bytes long ≤ length before → at + node_bytes + measure_bytes ≤ length before
  measured_room d room =
      let same : record_bytes long ≡ node_bytes + measure_bytes = rw (ne_eqb long 0 d) in
      omega arith

  pub measured_written : (common lengthened : List ℕ) → long ≢ 0 → at + record_bytes long ≤ length before
      → common ≡ overwrite before at (measured_mark ++ node_fields key left right rank count)
      → lengthened ≡ overwrite common (at + length_at) (little_endian length_bytes long)
      → output ≡ overwrite lengthened (at + correction_at) (little_endian correction_bytes stored)
      → output ≡ overwrite before at (node_record key left right rank count long stored)
  unfolding node_record node_fields
  measured_written common lengthened d room c l s =
      let part = measured_mark ++ node_fields key left right rank count in
      let fits = measured_room d room in
      let e = field_written before at part common (little_endian length_bytes long) lengthened length_at refl (omega arith) c l in
      rw (ne_eqb long 0 d) (field_written before at (part ++ little_endian length_bytes long) lengthened (little_endian correction_bytes stored) output correction_at refl (omega arith) e s)
