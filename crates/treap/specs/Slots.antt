-- The slots of a table (document 01, "The table's words"), over any priority function `p`, any homes and any number of
-- slots. A slot is the key in it, zero when it is empty. Assumes nothing.
use Rattle.std.specs.Prelude.{List, [], ◌∷◌, ◌++◌, ℕ, ◌-◌, eqb, length, get_or, set, replicate}
use Rattle.lists.specs.Lists.{first, up_from, sort_by}
use Rattle.treap.specs.Treap.{outranks}

-- Slots "at or above home, slot 0 following the last": from home to the last, then from 0 to home.
unfoldable pub probes : ℕ → ℕ → List ℕ
probes many home = up_from home (many - home) ++ up_from 0 home

-- "The first empty slot at or above home, slot 0 following the last"; the number of slots where none is empty.
unfoldable pub first_empty : List ℕ → ℕ → ℕ
first_empty slots home = first (length slots) (λ i. eqb (get_or slots i 0) 0) (probes (length slots) home)

module _ (home : ℕ → ℕ) where
  -- Each key of the list in turn put into its first empty slot.
  abbrev pub place_all : List ℕ → List ℕ → List ℕ
  place_all slots [] = slots
  place_all slots (k ∷ ks) = place_all (set slots (first_empty slots (home k)) k) ks

-- "Slots are those that come of placing the keys one by one, each before all keys it outranks, in the first empty slot".
unfoldable pub slots_of : (ℕ → ℕ) → (ℕ → ℕ) → ℕ → List ℕ → List ℕ
slots_of p home many ks = place_all home (replicate many 0) (sort_by (outranks p) ks)
