-- The words of the slots, slot after slot: the loop's invariant of `emit`, its steps and its end. Assumes nothing.
use mathlib.Core.List.{List, [], ◌∷◌, ◌++◌, flat_map, append-nil}
use mathlib.Core.Path.{◌≡◌, refl, sym, ap, ◌∙◌}
use Prim.Native.Nat.{ℕ, suc, ◌+◌, ◌*◌, ◌<◌, ◌≤◌}
use native.Mathlib.Omega.{arith}
use lib.Dec.{eqb}
use lib.ListN.{length, get_or, set, take, drop_of_length-le}
use lib.Seq.{take-suc, take-length, length-take-le}
use Rattle.lists.specs.Lists.{overwrite}
use Rattle.lists.proofs.Tests.{by_test}
use Rattle.lists.proofs.FlatMap.{flat_map-append, length-flat_map_each}
use Rattle.lists.proofs.Overwrite.{overwrite_none, overwrite-length}
use Rattle.lists.proofs.Parts.{overwrite_next}
use Rattle.table.specs.Layout.{header_words, slot_words, slot_start, table_words}
use Rattle.treap_columns.specs.declared.Columns.{Columns}
use Rattle.table_encode.specs.Encode.{slot_at}

pub slot_length : (keys tags : List ℕ) (c : Columns) (i : ℕ) → length (slot_at keys tags c i) ≡ slot_words
unfolding slot_at
slot_length keys tags c i = by_test (eqb i 0) (λ e. rw e) (λ e. rw e)

pub slots_length : (keys tags : List ℕ) (c : Columns) (xs : List ℕ) → length (flat_map (slot_at keys tags c) xs) ≡ slot_words * length xs
slots_length keys tags c = length-flat_map_each (slot_at keys tags c) slot_words (slot_length keys tags c)

-- The table once the first so many slots are written over what it held at the start.
pub record Emitted (keys tags : List ℕ) (c : Columns) (slots start table : List ℕ) (s : ℕ) : Type 0 where
  pub upto : s ≤ length slots
  pub size : length table ≡ length start
  pub holds : table ≡ overwrite start header_words (flat_map (slot_at keys tags c) (take s slots))

module _ (keys tags : List ℕ) (c : Columns) (slots : List ℕ) (start : List ℕ) (long : length start ≡ table_words (length slots)) where
  pub emitted_start : Emitted keys tags c slots start start 0
  unfolding flat_map
  emitted_start = record { upto = omega arith; size = refl; holds = sym (overwrite_none start header_words) }

  written : (s : ℕ) → s ≤ length slots → length (flat_map (slot_at keys tags c) (take s slots)) ≡ slot_words * s
  written s h = slots_length keys tags c (take s slots) ∙ ap (λ (n : ℕ). slot_words * n) (length-take-le s slots h)

  pub emitted_next : (table : List ℕ) (s : ℕ) → Emitted keys tags c slots start table s → s < length slots → Emitted keys tags c slots start (overwrite table (slot_start s) (slot_at keys tags c (get_or slots s 0))) (suc s)
  unfolding flat_map
  emitted_next table s e h =
      let new = slot_at keys tags c (get_or slots s 0) in
      let done = flat_map (slot_at keys tags c) (take s slots) in
      let size-done = written s e.upto in
      let size-new = slot_length keys tags c (get_or slots s 0) in
      record {
        upto = h;
        size = overwrite-length table (slot_start s) new (let q = e.size in omega arith) ∙ e.size;
        holds =
            ap (λ (t : List ℕ). overwrite t (slot_start s) new) e.holds
            ∙ overwrite_next header_words (slot_start s) done start (omega arith) (omega arith) new (omega arith)
            ∙ ap (overwrite start header_words)
            (ap (λ (xs : List ℕ). done ++ xs) (sym (append-nil new)) ∙ sym (ap (flat_map (slot_at keys tags c)) (take-suc slots s 0 h) ∙ flat_map-append (slot_at keys tags c) (take s slots) (get_or slots s 0 ∷ [])));
      }

  pub emitted_end : (table : List ℕ) (s : ℕ) → Emitted keys tags c slots start table s → length slots ≤ s → table ≡ take header_words start ++ flat_map (slot_at keys tags c) slots
  unfolding overwrite
  emitted_end table s e h =
      let whole : s ≡ length slots = let u = e.upto in omega arith in
      let All-words = flat_map (slot_at keys tags c) slots in
      e.holds
      ∙ ap (overwrite start header_words) (ap (λ (n : ℕ). flat_map (slot_at keys tags c) (take n slots)) whole ∙ ap (flat_map (slot_at keys tags c)) (take-length slots))
      ∙ ap (λ (xs : List ℕ). take header_words start ++ (All-words ++ xs)) (drop_of_length-le start {i = header_words + length All-words} (omega (arith, slots_length keys tags c slots)))
      ∙ ap (λ (xs : List ℕ). take header_words start ++ xs) (append-nil All-words)

-- the header's four stores
pub header_stores : (words : List ℕ) (a b c d : ℕ) → header_words ≤ length words → take header_words (set (set (set (set words 0 a) 1 b) 2 c) 3 d) ≡ a ∷ b ∷ c ∷ d ∷ []
header_stores [] a b c d h = absurd (omega arith)
header_stores (x ∷ []) a b c d h = absurd (omega arith)
header_stores (x ∷ y ∷ []) a b c d h = absurd (omega arith)
header_stores (x ∷ y ∷ z ∷ []) a b c d h = absurd (omega arith)
header_stores (x ∷ y ∷ z ∷ w ∷ words) a b c d h = refl
