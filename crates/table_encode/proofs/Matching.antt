-- Words compared with a slot's, and a table's with those of its columns. Assumes nothing.
use mathlib.Core.Bool.{Bool, true, false, not, ◌&&◌, and-true}
use mathlib.Core.List.{List, [], ◌∷◌, ◌++◌, flat_map, append_assoc}
use mathlib.Core.Path.{◌≡◌, sym, ap, ap₂, ◌∙◌}
use Prim.Native.Nat.{ℕ, suc, ◌+◌, ◌*◌, ◌<◌, ◌≤◌}
use native.Mathlib.Omega.{arith}
use lib.Dec.{eqb}
use lib.ListN.{length, get_or, take, drop, length-append}
use lib.Seq.{split_at, take_at, drop_at, take-add, take_all, length-take-le}
use Rattle.lists.specs.Lists.{same}
use Rattle.lists.proofs.Tests.{true_or_false}
use Rattle.lists.proofs.Membership.{same_says, same_when, same_differs}
use Rattle.lists.proofs.FlatMap.{flat_map-append}
use Rattle.table.specs.Layout.{header_words, slot_words, slot_start, table_words}
use Rattle.treap_columns.specs.declared.Columns.{Columns}
use Rattle.table_encode.specs.Encode.{key_at, slot_at, words_in, words_of}
use Rattle.table_encode.specs.declared.Slot.{Slot}
use Rattle.table_encode.proofs.Emitting.{slot_length, slots_length}

-- the words of two slots, compared field by field
pub same_words : (a b : Slot) →
    same (words_in a) (words_in b)
    ≡ (eqb a.key b.key && (eqb a.left b.left && (eqb a.right b.right && (eqb a.leader b.leader && (eqb a.rank b.rank && (eqb a.count b.count && (eqb a.length b.length && eqb a.correction b.correction)))))))
same_words a b =
    ap (λ t. eqb a.key b.key && (eqb a.left b.left && (eqb a.right b.right && (eqb a.leader b.leader && (eqb a.rank b.rank && (eqb a.count b.count && (eqb a.length b.length && t)))))))
    (and-true (eqb a.correction b.correction))

pub not_turned : (differ same : Bool) → differ ≡ not same → same ≡ not differ
not_turned differ true e = sym (ap not e)
not_turned differ false e = sym (ap not e)

-- ---- a table's words from word to word
module _ (order salt : ℕ) (keys tags : List ℕ) (root : ℕ) (c : Columns) (slots : List ℕ) where
  -- the slots' words from a slot on
  rest_words : (s : ℕ) → s < length slots
      → drop (slot_start s) (words_of order salt keys tags root c slots) ≡ slot_at keys tags c (get_or slots s 0) ++ drop (slot_start (suc s)) (words_of order salt keys tags root c slots)
  unfolding words_of flat_map
  rest_words s h =
      let f = slot_at keys tags c in
      let head : List ℕ = order ∷ length keys ∷ key_at keys root ∷ salt ∷ [] in
      let front = head ++ flat_map f (take s slots) in
      let next = f (get_or slots s 0) in
      let back = flat_map f (drop (suc s) slots) in
      let size-front : length front ≡ slot_start s =
      length-append head (flat_map f (take s slots)) ∙ ap (λ (n : ℕ). header_words + n) (slots_length keys tags c (take s slots) ∙ ap (λ (n : ℕ). slot_words * n) (length-take-le s slots (omega arith)))
      in
      let whole : head ++ flat_map f slots ≡ front ++ (next ++ back) =
      ap (λ (xs : List ℕ). head ++ xs)
      (ap (flat_map f) (split_at slots s 0 h) ∙ flat_map-append f (take s slots) (get_or slots s 0 ∷ drop (suc s) slots))
      ∙ sym (append_assoc head (flat_map f (take s slots)) (next ++ back))
      in
      let size-both : length (front ++ next) ≡ slot_start (suc s) = length-append front next ∙ omega (arith, size-front, slot_length keys tags c (get_or slots s 0)) in
      ap (drop (slot_start s)) whole
      ∙ drop_at front (next ++ back) (slot_start s) size-front
      ∙ ap (λ (xs : List ℕ). next ++ xs)
      (sym (ap (drop (slot_start (suc s))) (whole ∙ sym (append_assoc front next back)) ∙ drop_at (front ++ next) back (slot_start (suc s)) size-both))

  pub slot_in_words : (s : ℕ) → s < length slots → take slot_words (drop (slot_start s) (words_of order salt keys tags root c slots)) ≡ slot_at keys tags c (get_or slots s 0)
  slot_in_words s h =
      ap (take slot_words) (rest_words s h)
      ∙ take_at (slot_at keys tags c (get_or slots s 0)) (drop (slot_start (suc s)) (words_of order salt keys tags root c slots)) slot_words (slot_length keys tags c (get_or slots s 0))

  pub words_length : length (words_of order salt keys tags root c slots) ≡ table_words (length slots)
  unfolding words_of
  words_length =
      length-append (order ∷ length keys ∷ key_at keys root ∷ salt ∷ []) (flat_map (slot_at keys tags c) slots) ∙ ap (λ (n : ℕ). header_words + n) (slots_length keys tags c slots)

  -- The loop's invariant of `matches`: the words before a slot are those of the columns.
  pub record Matched (table : List ℕ) (s : ℕ) : Type 0 where
    pub upto : s ≤ length slots
    pub so_far : take (slot_start s) table ≡ take (slot_start s) (words_of order salt keys tags root c slots)

  pub matched_next : (table : List ℕ) (s : ℕ) → Matched table s → s < length slots → length table ≡ table_words (length slots)
      → same (take slot_words (drop (slot_start s) table)) (slot_at keys tags c (get_or slots s 0)) ≡ true → Matched table (suc s)
  matched_next table s m h l e =
      let next : slot_start (suc s) ≡ slot_start s + slot_words = omega arith in
      let words = words_of order salt keys tags root c slots in
      record {
        upto = h;
        so_far =
            ap (λ (n : ℕ). take n table) next ∙ take-add (slot_start s) slot_words table
            ∙ ap₂ (λ (xs ys : List ℕ). xs ++ ys) m.so_far (same_says (take slot_words (drop (slot_start s) table)) (slot_at keys tags c (get_or slots s 0)) e ∙ sym (slot_in_words s h))
            ∙ sym (ap (λ (n : ℕ). take n words) next ∙ take-add (slot_start s) slot_words words);
      }

  pub matched_end : (table : List ℕ) (s : ℕ) → Matched table s → length slots ≤ s → length table ≡ table_words (length slots) → true ≡ same table (words_of order salt keys tags root c slots)
  matched_end table s m h l =
      let words = words_of order salt keys tags root c slots in
      let whole : slot_start s ≡ table_words (length slots) = let u = m.upto in omega arith in
      sym (same_when table words
      (sym (take_all (slot_start s) table (omega arith)) ∙ m.so_far ∙ take_all (slot_start s) words (omega (arith, words_length))))

  -- a slot, or a header word, that differs
  pub slot_differs : (table : List ℕ) (s : ℕ) → s < length slots → same (take slot_words (drop (slot_start s) table)) (slot_at keys tags c (get_or slots s 0)) ≡ false → false ≡ same table (words_of order salt keys tags root c slots)
  slot_differs table s h e =
      let words = words_of order salt keys tags root c slots in
      sym (same_differs table words
      (λ q. true_or_false (same (take slot_words (drop (slot_start s) table)) (slot_at keys tags c (get_or slots s 0)))
      (same_when (take slot_words (drop (slot_start s) table)) (slot_at keys tags c (get_or slots s 0)) (ap (λ (t : List ℕ). take slot_words (drop (slot_start s) t)) q ∙ slot_in_words s h)) e))

  pub word_differs : (table : List ℕ) (i : ℕ) → (get_or table i 0 ≡ get_or (words_of order salt keys tags root c slots) i 0 → ⊥) → false ≡ same table (words_of order salt keys tags root c slots)
  word_differs table i d = sym (same_differs table (words_of order salt keys tags root c slots) (λ q. d (ap (λ (t : List ℕ). get_or t i 0) q)))

  -- four header words that agree
  pub matched_start : (table : List ℕ) → length table ≡ table_words (length slots) → get_or table 0 0 ≡ order → get_or table 1 0 ≡ length keys → get_or table 2 0 ≡ key_at keys root → get_or table 3 0 ≡ salt → Matched table 0
  unfolding words_of
  matched_start table l a b d e = record { upto = omega arith; so_far = go table (omega arith) a b d e }
    where
      go : (t : List ℕ) → header_words ≤ length t → get_or t 0 0 ≡ order → get_or t 1 0 ≡ length keys → get_or t 2 0 ≡ key_at keys root → get_or t 3 0 ≡ salt
          → take header_words t ≡ order ∷ length keys ∷ key_at keys root ∷ salt ∷ []
      go [] h a b d e = absurd (omega arith)
      go (x ∷ []) h a b d e = absurd (omega arith)
      go (x ∷ y ∷ []) h a b d e = absurd (omega arith)
      go (x ∷ y ∷ z ∷ []) h a b d e = absurd (omega arith)
      go (x ∷ y ∷ z ∷ w ∷ t) h a b d e = λ i. a i ∷ b i ∷ d i ∷ e i ∷ []
