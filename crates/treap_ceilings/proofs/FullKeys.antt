-- Keys that fill a block, for every order of at least 2: those from 1 to 2α − 1, of which α comes first, fill a root block; with 2α before
-- all of them, they fill another. Assumes an order of at least 2.
use mathlib.Core.Bool.{true, cond}
use mathlib.Core.List.{[], ◌∷◌}
use mathlib.Core.Logic.{◌≢◌, inl}
use mathlib.Core.Path.{◌≡◌, refl, sym, ◌∙◌, subst}
use Prim.Native.Nat.{ℕ, suc, ◌+◌, ◌*◌, ◌-◌, ◌<◌, ◌≤◌}
use native.Mathlib.Omega.{arith}
use lib.Dec.{eqb}
use borrow.Author.Tests.{ne_eqb}
use Rattle.lists.specs.Lists.{All, up_from}
use Rattle.lists.proofs.Keep.{all_map, all_append}
use Rattle.lists.proofs.Membership.{eqb_same}
use Rattle.lists.proofs.UpFrom.{up_from-length, up_from_within, up_from_rising}
use Rattle.treap.specs.Treap.{Tree, keys, outranks, treap}
use Rattle.treap.specs.Treap.Tree.{leaf, node}
use Rattle.treap_structure.proofs.Outranking.{Outranks, outranks_when}
use Rattle.treap_structure.proofs.Shape.{size, Lesser, Greater, Good, good_rising, treap_unique, treap_keys, treap_good, treap_size}
use Rattle.treap_ceilings.specs.BlockClaims.{Sizes}
use Rattle.treap_ceilings.proofs.FullBlocks.{root_full, other_full}

module _ (α : ℕ) (wide : 2 ≤ α) where
  -- 2α comes first, α next, then all others.
  unfoldable p : ℕ → ℕ
  p x = cond (eqb x (2 * α)) 2 (cond (eqb x α) 1 0)

  first_is : p (2 * α) ≡ 2
  unfolding p
  first_is = rw (eqb_same (2 * α)) refl

  next_is : p α ≡ 1
  unfolding p
  next_is = rw (ne_eqb α (2 * α) (λ e. omega arith), eqb_same α) refl

  other_is : (x : ℕ) → x ≢ 2 * α → x ≢ α → p x ≡ 0
  unfolding p
  other_is x d e = rw (ne_eqb x (2 * α) d, ne_eqb x α e) refl

  before : (a b : ℕ) → p b < p a → outranks p a b ≡ true
  unfolding Outranks
  before a b h = outranks_when p a b (inl h)

  -- ---- α − 1 keys in a row
  abbrev part : ℕ → Tree
  part from = treap p (up_from from (α - 1))

  part_good : (from : ℕ) → Good p (part from)
  part_good from = treap_good p (up_from from (α - 1)) (up_from_rising from (α - 1))

  part_size : (from : ℕ) → size (part from) ≡ α - 1
  part_size from = treap_size p (up_from from (α - 1)) (up_from_rising from (α - 1)) ∙ up_from-length from (α - 1)

  part_all : (P : ℕ → Type 0) (from : ℕ) → ((x : ℕ) → from ≤ x → x < from + (α - 1) → P x) → All P (keys (part from))
  part_all P from h =
      subst (All P) (sym (treap_keys p (up_from from (α - 1)) (up_from_rising from (α - 1))))
      (all_map (λ x. (from ≤ x) × (x < from + (α - 1))) P (λ x b. h x b.0 b.1) (up_from from (α - 1)) (up_from_within from (α - 1)))

  -- ---- α between two of them
  abbrev middle : Tree
  middle = node (part 1) α (part (suc α))

  middle_good : Good p middle
  middle_good = (
    part_all (Lesser p α) 1 (λ x h k. (omega arith, before α x (omega (arith, next_is, other_is x (λ e. omega arith) (λ e. omega arith))))),
    part_all (Greater p α) (suc α) (λ x h k. (omega arith, before α x (omega (arith, next_is, other_is x (λ e. omega arith) (λ e. omega arith))))),
    part_good 1,
    part_good (suc α),
  )

  pub fills_root : Sizes α ((2 * α - 1) ∷ [])
  fills_root =
      let rising = good_rising p middle middle_good in
      record {
        priorities = p;
        keys = keys middle;
        rise = rising;
        held = root_full α wide p (keys middle) rising (part 1) α (part (suc α)) (treap_unique p middle middle_good) (part_size 1) (part_size (suc α));
      }

  -- ---- and 2α above them
  abbrev whole : Tree
  whole = node middle (2 * α) leaf

  under : (x : ℕ) → x ≢ 2 * α → x ≢ α → x < 2 * α → Lesser p (2 * α) x
  under x d e h = (h, before (2 * α) x (omega (arith, first_is, other_is x d e)))

  whole_good : Good p whole
  whole_good = (
    all_append (Lesser p (2 * α)) (keys (part 1)) (α ∷ keys (part (suc α))) (part_all (Lesser p (2 * α)) 1 (λ x h k. under x (λ e. omega arith) (λ e. omega arith) (omega arith)))
        ((omega arith, before (2 * α) α (omega (arith, first_is, next_is))), part_all (Lesser p (2 * α)) (suc α) (λ x h k. under x (λ e. omega arith) (λ e. omega arith) (omega arith))),
    tt,
    middle_good,
    tt,
  )

  pub fills_other : Sizes α (2 ∷ (2 * α - 2) ∷ [])
  fills_other =
      let rising = good_rising p whole whole_good in
      record {
        priorities = p;
        keys = keys whole;
        rise = rising;
        held = other_full α wide p (keys whole) rising (part 1) α (part (suc α)) (2 * α) (treap_unique p whole whole_good) (part_size 1) (part_size (suc α));
      }
