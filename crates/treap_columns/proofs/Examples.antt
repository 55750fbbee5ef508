-- Three positions of weights 10, 30 and 20 in a tree of order 2 meet what the contracts require, and their columns are
-- those that one writes down: the middle position is the root, of rank 1, and leads the others. Assumes nothing.
use mathlib.Core.List.{List, [], ◌∷◌}
use mathlib.Core.Path.{◌≡◌, refl}
use Prim.Native.Nat.{ℕ}
use native.Mathlib.Omega.{arith}
use Rattle.treap.specs.Treap.{outranks, outranks_rest, top, treap, left_link, right_link}
use Rattle.treap.specs.Levels.{next_level, rank, count, leader}
use Rattle.treap_columns.specs.Positions.{InOrder}
use Rattle.treap_columns.specs.Columns.{rank_column, count_column, leader_column, Ready}

abbrev weights : List ℕ
weights = 10 ∷ 30 ∷ 20 ∷ []

-- indices in falling order of weights
abbrev order : List ℕ
order = 1 ∷ 2 ∷ 0 ∷ []

in_order_lem : InOrder weights order
unfolding outranks
in_order_lem = record { many = refl; indices = omega arith; complete = (refl, (refl, (refl, tt))); ranked = ((refl, (refl, tt)), ((refl, tt), (tt, tt))) }

is_ready : Ready weights 2 3 order (0 ∷ 1 ∷ 0 ∷ []) (0 ∷ 3 ∷ 0 ∷ [])
unfolding outranks outranks_rest top treap left_link right_link
is_ready = record {
  wide = omega arith;
  narrow = omega arith;
  whole = refl;
  few = omega arith;
  order_room = omega arith;
  left_room = omega arith;
  right_room = omega arith;
  in_order = in_order_lem;
  lefts = refl;
  rights = refl;
}

ranks : rank_column 2 weights 3 ≡ 0 ∷ 1 ∷ 0 ∷ []
unfolding outranks outranks_rest top treap next_level rank
ranks = refl

counts : count_column 2 weights 3 ≡ 1 ∷ 1 ∷ 1 ∷ []
unfolding outranks outranks_rest top treap next_level rank count
counts = refl

leaders : leader_column 2 weights 3 ≡ 2 ∷ 0 ∷ 2 ∷ []
unfolding outranks outranks_rest top treap next_level rank leader
leaders = refl
