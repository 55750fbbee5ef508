-- A column that is filled position by position, in any order: a store of the right number leaves the others filled, and
-- a column filled at every position is the map over the positions. Assumes nothing.
use mathlib.Core.List.{List, ◌++◌, map}
use mathlib.Core.Path.{◌≡◌, refl, sym, ap, ◌∙◌, subst}
use Prim.Native.Nat.{ℕ, zero, suc, pred, ◌<◌, ◌≤◌}
use native.Mathlib.Omega.{arith}
use lib.Dec.{eqb}
use lib.ListN.{length, get_or, set, take, drop, length-set, length-map, take-append-drop}
use lib.Seq.{get_or-set_same, get_or-set_other, get_or-take, drop-set-lt, length-take-le, ext_get_or}
use borrow.Author.Tests.{eqb-true, eqb-false}
use Rattle.lists.proofs.Tests.{by_test}
use Rattle.lists.proofs.UpFrom.{up_from-length, mapped_up_from_at}
use Rattle.treap_columns.specs.Positions.{positions}

-- The column has f of the position, if it is one.
pub record Filled (f : ℕ → ℕ) (column : List ℕ) (position : ℕ) : Type 0 where
  pub at : 0 < position → get_or column (pred position) 0 ≡ f position

-- The column is as long as it was, and its entries from n on are as they were.
pub record Kept (n : ℕ) (before column : List ℕ) : Type 0 where
  pub long : length column ≡ length before
  pub rest : drop n column ≡ drop n before

pub kept_none : (n : ℕ) (before : List ℕ) → Kept n before before
kept_none n before = record { long = refl; rest = refl }

pub kept_store : (n : ℕ) (before column : List ℕ) (i x : ℕ) → i < n → Kept n before column → Kept n before (set column i x)
kept_store n before column i x h k = record { long = length-set column i x ∙ k.long; rest = drop-set-lt n column i x h ∙ k.rest }

pub kept_again : (n : ℕ) (before between column : List ℕ) → Kept n before between → Kept n between column → Kept n before column
kept_again n before between column k m = record { long = m.long ∙ k.long; rest = m.rest ∙ k.rest }

-- ---- a store
module _ (f : ℕ → ℕ) (column : List ℕ) (i x : ℕ) (right : x ≡ f (suc i)) where
  pub filled_stored : i < length column → Filled f (set column i x) (suc i)
  filled_stored h = record { at = λ _. get_or-set_same column i x 0 h ∙ right }

  pub filled_store : i < length column → (v : ℕ) → Filled f column v → Filled f (set column i x) v
  filled_store h zero q = record { at = λ none. absurd (omega arith) }
  filled_store h (suc j) q =
      by_test (eqb j i)
      (λ e. subst (λ (k : ℕ). Filled f (set column i x) (suc k)) (sym (eqb-true j i e)) (filled_stored h))
      (λ e. record { at = λ some. get_or-set_other column i j x 0 (eqb-false j i e) ∙ q.at some })

-- ---- reading
pub column_length : (f : ℕ → ℕ) (n : ℕ) → length (map f (positions n)) ≡ n
column_length f n = length-map (positions n) f ∙ up_from-length 1 n

-- the entry of a column that is a map over the positions
pub column_at : (f : ℕ → ℕ) (n : ℕ) (column : List ℕ) → take n column ≡ map f (positions n) → (i : ℕ) → i < n → get_or column i 0 ≡ f (suc i)
column_at f n column e i h =
    sym (get_or-take n column i 0 h) ∙ ap (λ (xs : List ℕ). get_or xs i 0) e ∙ mapped_up_from_at f 1 n i h ∙ ap f (omega arith)

-- ---- a column that is filled
pub filled_whole : (f : ℕ → ℕ) (n : ℕ) (before column : List ℕ) → n ≤ length before → Kept n before column
    → ((i : ℕ) → i < n → Filled f column (suc i)) → column ≡ map f (positions n) ++ drop n before
filled_whole f n before column room k filled =
    let long = k.long in
    let size : length (take n column) ≡ n = length-take-le n column (omega arith) in
    let front : take n column ≡ map f (positions n) =
    ext_get_or 0 (take n column) (map f (positions n)) (size ∙ sym (column_length f n))
    (λ i h.
    let low : i < n = omega arith in
    get_or-take n column i 0 low ∙ (filled i low).at (omega arith) ∙ sym (mapped_up_from_at f 1 n i low ∙ ap f (omega arith)))
    in
    sym (take-append-drop n column) ∙ ap (λ (xs : List ℕ). xs ++ drop n column) front ∙ ap (λ (xs : List ℕ). map f (positions n) ++ xs) k.rest
