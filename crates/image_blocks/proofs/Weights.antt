-- The levels, leaders and weights of blocks, by index: what the tests of the code yield, and their bounds. Assumes nothing.
use mathlib.Core.List.{List, [], ◌∷◌, ◌++◌, map, map-append}
use mathlib.Core.Path.{◌≡◌, sym, ap, ap₂, ◌∙◌}
use Prim.Native.Nat.{ℕ, suc, ◌+◌, ◌<◌, ◌≤◌}
use native.Mathlib.Nat.{zero-add}
use native.Mathlib.Numerals.{add-one}
use native.Mathlib.Omega.{arith}
use lib.Dec.{eqb}
use lib.ListN.{length, get_or, set, length-map}
use borrow.Author.Tests.{eq-eqb, ne_eqb}
use Rattle.lists.specs.Lists.{up_from, overwrite}
use Rattle.lists.proofs.Tests.{by_test}
use Rattle.lists.proofs.UpFrom.{up_from-length, up_from_end}
use Rattle.lists.proofs.Start.{overwrite_start_next}
use Rattle.table.specs.Layout.{most_slots}
use Rattle.image_blocks.specs.Naming.{level_at, leader_at, name_weight, block_weight, Ranked}

module _ (root : ℕ) (column : List ℕ) (i : ℕ) where
  pub level_of_root : i + 1 ≡ root → get_or column i 0 ≡ level_at root column i
  unfolding level_at
  level_of_root e = rw (eq-eqb (suc i) root (sym (add-one i) ∙ e))

  pub level_of_other : (i + 1 ≡ root → ⊥) → get_or column i 0 + 1 ≡ level_at root column i
  unfolding level_at
  level_of_other d = rw (ne_eqb (suc i) root (λ e. d (add-one i ∙ e))) (add-one (get_or column i 0))

  pub leader_of_root : i + 1 ≡ root → root ≡ leader_at root column i
  unfolding leader_at
  leader_of_root e = rw (eq-eqb (suc i) root (sym (add-one i) ∙ e))

  pub leader_of_other : (i + 1 ≡ root → ⊥) → get_or column i 0 ≡ leader_at root column i
  unfolding leader_at
  leader_of_other d = rw (ne_eqb (suc i) root (λ e. d (add-one i ∙ e)))

-- ---- bounds
module _ (n root : ℕ) (rank leader : List ℕ) (ranked : Ranked n root rank leader) (i : ℕ) (h : i < n) where
  pub level_bound : level_at root rank i ≤ suc most_slots
  unfolding level_at
  level_bound =
      let low = ranked.rank_low i h in
      let few = ranked.few in
      by_test (eqb (suc i) root) (λ e. rw e (omega arith)) (λ e. rw e (omega arith))

  pub leader_bound : leader_at root leader i ≤ n
  unfolding leader_at
  leader_bound =
      let low = ranked.leader_low i h in
      let within = ranked.root_within in
      by_test (eqb (suc i) root) (λ e. rw e (omega arith)) (λ e. rw e (omega arith))

pub weight_is : (root : ℕ) (rank leader : List ℕ) (i level position : ℕ) → level ≡ level_at root rank i → position ≡ leader_at root leader i
    → name_weight level position ≡ block_weight root rank leader i
unfolding block_weight
weight_is root rank leader i level position e f = ap₂ name_weight e f

-- ---- a list's start filled entry by entry
pub mapped_next : (f : ℕ → ℕ) (before : List ℕ) (i : ℕ) → i < length before
    → set (overwrite before 0 (map f (up_from 0 i))) i (f i) ≡ overwrite before 0 (map f (up_from 0 (suc i)))
mapped_next f before i h =
    let done = map f (up_from 0 i) in
    let many : length done ≡ i = length-map (up_from 0 i) f ∙ up_from-length 0 i in
    ap (λ (j : ℕ). set (overwrite before 0 done) j (f i)) (sym many)
    ∙ overwrite_start_next before done (f i) (omega arith)
    ∙ ap (overwrite before 0)
    (ap (λ (j : ℕ). done ++ (f j ∷ [])) (sym (zero-add i)) ∙ sym (ap (map f) (up_from_end 0 i) ∙ map-append f (up_from 0 i) ((0 + i) ∷ [])))
