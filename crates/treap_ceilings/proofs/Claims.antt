-- The claims of the ceilings. Assumes an order of at least 2.
use mathlib.Core.Bool.{true}
use mathlib.Core.List.{List}
use mathlib.Core.Logic.{inl, inr, ⊎_elim}
use mathlib.Core.Path.{◌≡◌, refl, ap, ◌∙◌}
use Prim.Native.Nat.{ℕ, zero, suc, ◌+◌, ◌*◌, ◌-◌, ◌<◌, ◌≤◌}
use native.Mathlib.Nat.{suc-mul, mul-le-mul_left}
use native.Mathlib.Omega.{arith}
use lib.Dec.{eqb}
use lib.ListN.{length}
use borrow.Author.Tests.{eqb-true, eqb-false}
use Rattle.lists.specs.Lists.{rounded_up, member, Pairwise, Rising, up_from}
use Rattle.lists.proofs.Tests.{by_test}
use Rattle.lists.proofs.Rounding.{rounded_enough, rounded_least, rounded_none}
use Rattle.lists.proofs.Keep.{all_map}
use Rattle.lists.proofs.Membership.{all_member}
use Rattle.lists.proofs.UpFrom.{up_from-length, up_from_within, up_from_rising}
use Rattle.treap.specs.Blocks.{root_rank, blocks, blocks_met}
use Rattle.treap_ceilings.specs.Ceiling.{rank_ceiling, blocks_ceiling}
use Rattle.treap_ceilings.specs.Claims.{Chain, WorstKeys, Ceilings, TreapCeilings}
use Rattle.treap_ceilings.proofs.Worked.{d_worked, e_worked, most_worked}
use Rattle.treap_ceilings.proofs.RootRank.{root_below_ceiling, root_rank_some}
use Rattle.treap_ceilings.proofs.LevelsMet.{met_at_most}
use Rattle.treap_ceilings.proofs.Unbranched.{Falls, Climbs, chain_reaches}
use Rattle.treap_ceilings.proofs.Subsequences.{Chosen, some_chosen}

module _ (α : ℕ) (wide : 2 ≤ α) (p : ℕ → ℕ) where
  met_below_ceiling : (ks : List ℕ) → Rising ks → 1 ≤ length ks → (v : ℕ) → blocks_met α p ks v ≤ blocks_ceiling α (length ks) (root_rank α p ks)
  unfolding blocks_ceiling
  met_below_ceiling ks rising some v =
      let few = met_at_most α p wide ks rising v in
      by_test (eqb (root_rank α p ks) 0)
      (λ e. rw e (let z = eqb-true (root_rank α p ks) 0 e in omega arith))
      (λ e. rw e (let d = eqb-false (root_rank α p ks) 0 e in omega (arith, root_below_ceiling α p wide ks rising some)))

  lone_root : (ks : List ℕ) → Rising ks → length ks ≡ 1 → root_rank α p ks ≡ 0
  unfolding rank_ceiling
  lone_root ks rising one =
      let none : rounded_up (length ks - 1) (α - 1) ≡ 0 = ap (λ (n : ℕ). rounded_up (n - 1) (α - 1)) one ∙ rounded_none (α - 1) (omega arith) in
      omega (arith, root_below_ceiling α p wide ks rising (omega arith))

  -- n keys of a chain among those up to n · n
  chosen_worst : (R : ℕ → ℕ → Type 0) (n : ℕ) → 1 ≤ n → Chosen R (up_from 1 (n * n)) n → ((ks : List ℕ) → Pairwise R ks → Chain p ks) → WorstKeys α p n
  chosen_worst R n some c chain =
      let many = c.many in
      record {
        keys = c.part;
        rise = c.rise;
        small =
            all_map (λ k. member k (up_from 1 (n * n)) ≡ true) (λ k. (1 ≤ k) × (k ≤ n * n))
            (λ k m. let bounds = all_member (λ z. (1 ≤ z) × (z < 1 + n * n)) (up_from 1 (n * n)) k (up_from_within 1 (n * n)) m in (omega arith, omega arith)) c.part c.from;
        many = many;
        reach = chain_reaches p α wide c.part c.rise (omega arith) (chain c.part c.related);
      }

  some_worst : (n : ℕ) → 1 ≤ n → WorstKeys α p n
  some_worst zero some = absurd (omega arith)
  some_worst (suc m) some =
      ⊎_elim
      (λ c. chosen_worst (Falls p) (suc m) some c (λ ks h. inl h))
      (λ c. chosen_worst (Climbs p) (suc m) some c (λ ks h. inr h))
      (some_chosen p m m (up_from 1 (suc m * suc m)) (up_from_rising 1 (suc m * suc m))
      (omega (arith, up_from-length 1 (suc m * suc m), suc-mul m (suc m), mul-le-mul_left {m = m} {n = suc m} m (omega arith))))

ceilings : (α : ℕ) → 2 ≤ α → (p : ℕ → ℕ) → Ceilings α p
unfolding blocks_met blocks
ceilings α wide p =
    record {
      root_rank_lem = root_below_ceiling α p wide;
      blocks_met_lem = met_below_ceiling α wide p;
      blocks_by_rank = met_at_most α p wide;
      one_key = lone_root α wide p;
      more_keys = root_rank_some α p wide;
      no_key = λ v. refl;
      chains = chain_reaches p α wide;
      reached = some_worst α wide p;
    }

pub ceilings_hold : TreapCeilings
ceilings_hold =
    record {
      every_order = ceilings;
      enough = rounded_enough;
      least = rounded_least;
      example_d = d_worked;
      example_e = e_worked;
      worked = most_worked;
    }
