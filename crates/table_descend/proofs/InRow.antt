-- Lookups of rising keys in a row: the blocks that all of them meet are those that the earlier ones met and those that the last one meets newly,
-- for which its two predecessors tell. Assumes an order of at least 2, and rising keys none of which is zero.
use mathlib.Core.Bool.{Bool, true, false, not, ◌&&◌, ◌||◌, and-true, or-false}
use mathlib.Core.List.{List, [], ◌∷◌}
use mathlib.Core.Logic.{⊎_elim}
use mathlib.Core.Path.{◌≡◌, refl, sym, ap, ◌∙◌}
use Prim.Native.Nat.{ℕ, ◌+◌, ◌<◌, ◌≤◌}
use lib.ListN.{length}
use Rattle.lists.specs.Lists.{keep, some, All, Pairwise, Rising}
use Rattle.lists.proofs.Tests.{by_test, same_test, or_true_cases, or_true_left, or_true_right}
use Rattle.lists.proofs.Keep.{all_map, all_always, keep_same, keep_none, length-keep_apart}
use Rattle.lists.proofs.Membership.{all_member, some_says}
use Rattle.treap.specs.Blocks.{Block, blocks, meets, blocks_met, blocks_met_by_all}
use Rattle.treap_structure.proofs.Blocks.{Formed, blocks_formed}
use Rattle.treap_structure.proofs.MetBetween.{met_by_two}
use Rattle.table.specs.Contents.{Contents, keys_in, priority_in}
use Rattle.table_descend.specs.Lookup.{standing_if, looked_up, earlier, newly_met, looked_up_after}
use Rattle.table_descend.proofs.Earlier.{none_earlier, one_earlier, two_earlier}

-- The keys looked up, the last one first, each above those before it.
abbrev pub Falling : List ℕ → Type 0
Falling asked = Pairwise (λ x y. y < x) asked

-- The last one's key, and that of the one before; zero for none.
abbrev pub last_of : List ℕ → ℕ
last_of [] = 0
last_of (x ∷ xs) = x

abbrev pub before_of : List ℕ → ℕ
before_of [] = 0
before_of (x ∷ xs) = last_of xs

module _ (c : Contents) where
  -- A search for a key meets a block of what the table holds.
  abbrev met : Block → ℕ → Bool
  met b k = meets c.order (priority_in c) (keys_in c) k b

  abbrev all_blocks : List Block
  all_blocks = blocks c.order (priority_in c) (keys_in c)

  -- a lookup after none finds what one on its own finds
  pub first_lookup : (key : ℕ) → looked_up_after c (earlier 0 0) key ≡ looked_up c key
  unfolding looked_up_after looked_up newly_met blocks_met earlier
  first_lookup key =
      ap (λ (n : ℕ). record { standing = standing_if c key; blocks = n })
      (ap length (keep_same (λ b. met b key && true) (λ b. met b key) all_blocks (all_always (λ b. (met b key && true) ≡ met b key) (λ b. and-true (met b key)) all_blocks)))

  -- no lookup meets no block, and one alone meets its own
  pub none_met : blocks_met_by_all c.order (priority_in c) (keys_in c) [] ≡ 0
  unfolding blocks_met_by_all
  none_met = ap length (keep_none (λ b. some (met b) []) all_blocks (all_always (λ b. some (met b) [] ≡ false) (λ b. refl) all_blocks))

  pub alone_met : (key : ℕ) → blocks_met_by_all c.order (priority_in c) (keys_in c) (key ∷ []) ≡ blocks_met c.order (priority_in c) (keys_in c) key
  unfolding blocks_met_by_all blocks_met
  alone_met key =
      ap length
      (keep_same (λ b. met b key || false) (λ b. met b key) all_blocks (all_always (λ b. (met b key || false) ≡ met b key) (λ b. or-false (met b key)) all_blocks))

module _ (c : Contents) (wide : 2 ≤ c.order) (rising : Rising (keys_in c)) (positive : All (λ k. 1 ≤ k) (keys_in c)) where
  -- a block that the new lookup meets was met before when one of the last two met it
  two_tell : (asked : List ℕ) (key : ℕ) → Falling (key ∷ asked) → All (λ k. 1 ≤ k) asked → (b : Block) → Formed c.order (priority_in c) (keys_in c) b → met c b key ≡ true
      → some (met c b) (earlier (last_of asked) (before_of asked)) ≡ some (met c b) asked
  two_tell [] key falls low b formed m = none_earlier (met c b) 0 0 refl refl
  two_tell (x ∷ []) key falls low b formed m = one_earlier (met c b) x 0 low.0 refl
  two_tell (x ∷ y ∷ zs) key falls low b formed m =
      two_earlier (met c b) x y low.0 low.1.0
      ∙ same_test (met c b x || (met c b y || false)) (met c b x || (met c b y || some (met c b) zs))
      (λ e.
      ⊎_elim (λ f. or_true_left (met c b x) (met c b y || some (met c b) zs) f)
      (λ f. or_true_right (met c b x) (met c b y || some (met c b) zs) (or_true_left (met c b y) (some (met c b) zs) (sym (or-false (met c b y)) ∙ f)))
      (or_true_cases (met c b x) (met c b y || false) e))
      (λ e.
      ⊎_elim (λ f. or_true_left (met c b x) (met c b y || false) f)
      (λ f.
      ⊎_elim (λ g. or_true_right (met c b x) (met c b y || false) (or-false (met c b y) ∙ g))
      (λ g.
      let (q, i, n) = some_says (met c b) zs g in
      let under : q < y = all_member (λ z. z < y) zs q falls.1.1.0 i in
      ap (λ d. met c b x || d) (or-false (met c b y)) ∙ met_by_two c.order (priority_in c) wide (keys_in c) rising positive b formed q y x key under falls.1.0.0 falls.0.0 n m)
      (or_true_cases (met c b y) (some (met c b) zs) f))
      (or_true_cases (met c b x) (met c b y || some (met c b) zs) e))

  pub one_more : (asked : List ℕ) (key : ℕ) → Falling (key ∷ asked) → All (λ k. 1 ≤ k) asked
      → blocks_met_by_all c.order (priority_in c) (keys_in c) (key ∷ asked) ≡ blocks_met_by_all c.order (priority_in c) (keys_in c) asked + newly_met c (earlier (last_of asked) (before_of asked)) key
  unfolding blocks_met_by_all newly_met
  one_more asked key falls low =
      ap length (keep_same (λ b. met c b key || some (met c b) asked) (λ b. some (met c b) asked || (met c b key && not (some (met c b) asked))) (all_blocks c) (all_always _ (λ b. apart (met c b key) (some (met c b) asked)) (all_blocks c)))
      ∙ length-keep_apart (λ b. some (met c b) asked) (λ b. met c b key && not (some (met c b) asked)) (all_blocks c) (all_always _ (λ b. not_both (met c b key) (some (met c b) asked)) (all_blocks c))
      ∙ ap (λ (bs : List Block). length (keep (λ b. some (met c b) asked) (all_blocks c)) + length bs)
      (keep_same (λ b. met c b key && not (some (met c b) asked)) (λ b. met c b key && not (some (met c b) (earlier (last_of asked) (before_of asked)))) (all_blocks c)
      (all_map (Formed c.order (priority_in c) (keys_in c)) (λ b. (met c b key && not (some (met c b) asked)) ≡ (met c b key && not (some (met c b) (earlier (last_of asked) (before_of asked))))) same (all_blocks c) (blocks_formed c.order (priority_in c) (keys_in c))))
    where
      apart : (a s : Bool) → (a || s) ≡ (s || (a && not s))
      apart true true = refl
      apart true false = refl
      apart false true = refl
      apart false false = refl

      not_both : (a s : Bool) → s ≡ true → (a && not s) ≡ false
      not_both true s e = ap not e
      not_both false s e = refl

      same : (b : Block) → Formed c.order (priority_in c) (keys_in c) b → (met c b key && not (some (met c b) asked)) ≡ (met c b key && not (some (met c b) (earlier (last_of asked) (before_of asked))))
      same b formed = by_test (met c b key) (λ m. rw m (ap not (sym (two_tell asked key falls low b formed m)))) (λ m. rw m refl)
