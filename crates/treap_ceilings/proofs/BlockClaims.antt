-- The claims of how many keys blocks hold, and of the fill. Assumes what each claim says.
use mathlib.Core.List.{List}
use mathlib.Core.Path.{◌≡◌, refl, sym, ap, ◌∙◌}
use Prim.Native.Nat.{ℕ, suc, ◌*◌, ◌/◌, ◌<◌, ◌≤◌}
use native.Mathlib.Nat.{suc-mul, le_of_mul-le-mul_right, zero-div, div-mul-le_self, lt-div-mul-add}
use native.Mathlib.Omega.{arith}
use lib.Dec.{eqb}
use lib.ListN.{length}
use borrow.Author.Tests.{eqb-true}
use Rattle.lists.specs.Lists.{Rising}
use Rattle.lists.proofs.Tests.{by_test}
use Rattle.treap.specs.Blocks.{blocks, room, fill}
use Rattle.treap_structure.proofs.Blocks.{one_root_block}
use Rattle.treap_structure.proofs.BlockSizes.{blocks_bounded, keys_have_room}
use Rattle.treap_ceilings.specs.BlockClaims.{WithinCeilings, BlockCeilings}
use Rattle.treap_ceilings.proofs.FullKeys.{fills_root, fills_other}

some_room : (α b : ℕ) → 1 ≤ α → 1 ≤ room α b
unfolding room
some_room α b h = omega arith

-- without keys the quotient is 0 by itself
fill_is : (α n b : ℕ) → fill α n b ≡ 100 * n / room α b
unfolding fill
fill_is α n b =
    by_test (eqb n 0)
    (λ e. rw e (sym (ap (λ (m : ℕ). 100 * m / room α b) (eqb-true n 0 e) ∙ zero-div (room α b))))
    (λ e. rw e)

fill_enough : (α n b : ℕ) → fill α n b * room α b ≤ 100 * n
fill_enough α n b = rw (fill_is α n b) (div-mul-le_self (100 * n) (room α b))

fill_greatest : (α n b : ℕ) → 1 ≤ α → 100 * n < suc (fill α n b) * room α b
fill_greatest α n b h = rw (fill_is α n b) (omega (arith, suc-mul (100 * n / room α b) (room α b), lt-div-mul-add {a = 100 * n} {b = room α b} (some_room α b h)))

fill_percent : (α n b : ℕ) → 1 ≤ α → n ≤ room α b → fill α n b ≤ 100
fill_percent α n b h few = le_of_mul-le-mul_right {m = fill α n b} {n = 100} {k = room α b} (omega (arith, fill_enough α n b)) (some_room α b h)

fill_full : (α n b : ℕ) → n ≤ room α b → fill α n b ≡ 100 → n ≡ room α b
fill_full α n b few all = omega (arith, fill_enough α n b, ap (λ (f : ℕ). f * room α b) all)

fill_empty : (α b : ℕ) → fill α 0 b ≡ 0
unfolding fill
fill_empty α b = refl

held : (α : ℕ) → 2 ≤ α → (p : ℕ → ℕ) (ks : List ℕ) → Rising ks → WithinCeilings α p ks
held α wide p ks rising =
    let few = keys_have_room α p wide ks rising in
    record {
      at_most = blocks_bounded α p wide ks rising;
      one_root = one_root_block α p ks;
      has_room = few;
      percent = fill_percent α (length ks) (length (blocks α p ks)) (omega arith) few;
      full = λ e. fill_full α (length ks) (length (blocks α p ks)) few e;
    }

pub block_ceilings_hold : BlockCeilings
block_ceilings_hold =
    record {
      every_set = held;
      root_reached = fills_root;
      other_reached = fills_other;
      enough = fill_enough;
      greatest = fill_greatest;
      empty = fill_empty;
    }
