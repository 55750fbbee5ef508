-- The steps by which ranks and counts are made: what a column has for a position, and the fold's standings as values. Only the
-- contracts of inner functions cite it. Assumes nothing.
use Rattle.std.specs.Prelude.{cond, List, ◌∷◌, ℕ, suc, max, ◌≤◌, ltb, get_or}
use Rattle.treap_structure.proofs.Fold.{Standing}
use Rattle.treap_columns.specs.Columns.{most_positions, largest_order}
use Rattle.treap_ranks.specs.declared.Standing.{Standing as Pair}

-- What a column has for a position; zero for none.
abbrev pub entry_at : List ℕ → ℕ → ℕ
entry_at column position = get_or (0 ∷ column) position 0

-- A pair of a rank and a count, as the fold has it.
abbrev pub standing_of : Pair → Standing
standing_of s = record { rank = s.rank; count = s.count }

-- A standing that leaves room for one rank more and for the sum of two counts.
pub record Small (s : Standing) : Type 0 where
  pub low_rank : s.rank ≤ most_positions
  pub low_count : s.count ≤ largest_order

-- The root's own rule, among n positions: one rank above its children's, or 0 where it is alone; its count is 1.
abbrev pub raise_root : ℕ → Standing → Standing → Standing
raise_root n a b = record { rank = cond (ltb 1 n) (suc (max a.rank b.rank)) 0; count = 1 }
