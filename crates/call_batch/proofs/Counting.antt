-- The lines of a batch over a sound table, one after the other: each can be answered, and the blocks counted are those that all of them meet.
-- Assumes a sound table.
use mathlib.Core.Bool.{Bool, true, ◌||◌, or-false, or_assoc, or_comm}
use mathlib.Core.List.{List, [], ◌∷◌}
use mathlib.Core.Path.{◌≡◌, refl, sym, ap, ap₂, ◌∙◌}
use Prim.Native.Nat.{ℕ, pred, ◌+◌, ◌<◌, ◌≤◌}
use native.Mathlib.Omega.{arith}
use lib.Dec.{ltb}
use lib.ListN.{length}
use borrow.Author.Tests.{ltb-true}
use Rattle.lists.specs.Lists.{keep, some, All, Rising}
use Rattle.lists.proofs.Tests.{and_left, and_right}
use Rattle.lists.proofs.Keep.{all_map, all_always, keep_same, length-keep}
use Rattle.treap.specs.Blocks.{Block, blocks, meets, blocks_met_by_all}
use Rattle.table.specs.Layout.{most_slots}
use Rattle.table.specs.Contents.{Contents, keys_in, priority_in}
use Rattle.table.proofs.Soundness.{shown_fit, shown_nonzero}
use Rattle.table_limits.specs.Lengths.{slots_for}
use Rattle.table_limits.proofs.Lengths.{slots_for_some}
use Rattle.table_judge.specs.Judge.{is_sound}
use Rattle.table_judge.proofs.Decides.{some_slots}
use Rattle.table_descend.specs.Lookup.{earlier, newly_met}
use Rattle.table_descend.proofs.InRow.{Falling, last_of, before_of, none_met, one_more}
use Rattle.image.proofs.ImageOrder.{blocks_few}
use Rattle.call_meaning.specs.Reasons.{shown}
use Rattle.call_meaning.proofs.Lookups.{shown_wide, shown_rises}
use Rattle.call_batch.specs.Answering.{nothing_asked, line_after, progress, Ready, Askable}
use Rattle.call_batch.specs.declared.Progress.{Progress}
use Rattle.call_batch.proofs.KeysRise.{rises}

module _ (words : List ℕ) (sound : is_sound words ≡ true) where
  abbrev c : Contents
  c = shown words

  abbrev wide : 2 ≤ c.order
  wide = shown_wide words sound

  abbrev rising : Rising (keys_in c)
  rising = shown_rises words sound

  positive : All (λ k. 1 ≤ k) (keys_in c)
  unfolding shown
  positive = shown_nonzero (slots_for (length words)) words

  abbrev all_blocks : List Block
  all_blocks = blocks c.order (priority_in c) (keys_in c)

  pub blocks_most : length (blocks (shown words).order (priority_in (shown words)) (keys_in (shown words))) ≤ most_slots
  unfolding shown
  blocks_most =
      omega (
        arith,
        blocks_few c.order (priority_in c) wide (keys_in c) rising,
        shown_fit (slots_for (length words)) words,
        (slots_for_some (length words) (some_slots words sound)).within,
      )

  -- Where the lines of these keys, the last first, have come to.
  record Reached (asked : List ℕ) (so : Progress) : Type 0 where
    last_is : so.key ≡ last_of asked
    before_is : so.before ≡ before_of asked
    met : so.blocks ≡ blocks_met_by_all c.order (priority_in c) (keys_in c) asked
    falls : Falling asked
    low : All (λ k. 1 ≤ k) asked

  reached_none : Reached [] nothing_asked
  reached_none = record { last_is = refl; before_is = refl; met = sym (none_met c); falls = tt; low = tt }

  all_below : (asked : List ℕ) (key : ℕ) → Falling asked → last_of asked < key → All (λ k. k < key) asked
  all_below [] key falls h = tt
  all_below (x ∷ xs) key falls h = (h, all_map (λ k. k < x) (λ k. k < key) (λ k (l : k < x). omega arith) xs falls.0)

  one_under : (asked : List ℕ) → Falling asked → before_of asked ≤ pred (last_of asked)
  one_under [] falls = omega arith
  one_under (x ∷ []) falls = omega arith
  one_under (x ∷ y ∷ zs) falls = omega (arith, falls.0.0)

  met_few : (asked : List ℕ) → blocks_met_by_all c.order (priority_in c) (keys_in c) asked ≤ most_slots
  unfolding blocks_met_by_all
  met_few asked = omega (arith, length-keep (λ b. some (λ k. meets c.order (priority_in c) (keys_in c) k b) asked) all_blocks, blocks_most)

  module _ (asked : List ℕ) (so : Progress) (here : Reached asked so) (key : ℕ) (above : so.key < key) where
    on_top : Falling (key ∷ asked)
    on_top = (all_below asked key here.falls (omega (arith, here.last_is)), here.falls)

    reached_on : Reached (key ∷ asked) (line_after words so key)
    unfolding line_after
    reached_on =
        record {
          last_is = refl;
          before_is = here.last_is;
          met =
              ap₂ (λ (n m : ℕ). n + m) here.met (ap₂ (λ (l b : ℕ). newly_met c (earlier l b) key) here.last_is here.before_is)
              ∙ sym (one_more c wide rising positive asked key on_top here.low);
          falls = on_top;
          low = (omega arith, here.low);
        }

    ready : Ready so key
    ready =
        record {
          above = above;
          rising = omega (arith, one_under asked here.falls, here.last_is, here.before_is);
          few = omega (arith, here.met, met_few asked);
        }

  -- ---- all lines
  abbrev met_by : List ℕ → Block → Bool
  met_by keys b = some (λ k. meets c.order (priority_in c) (keys_in c) k b) keys

  lines : (keys asked : List ℕ) (so : Progress) → Reached asked so → rises so.key keys ≡ true
      → Askable words so keys × ((progress words so keys).blocks ≡ length (keep (λ b. met_by keys b || met_by asked b) all_blocks))
  unfolding blocks_met_by_all line_after
  lines [] asked so here up = (tt, here.met)
  lines (key ∷ keys) asked so here up =
      let above = ltb-true so.key key (and_left (ltb so.key key) (rises key keys) up) in
      let (more, count) = lines keys (key ∷ asked) (line_after words so key) (reached_on asked so here key above) (and_right (ltb so.key key) (rises key keys) up) in (
        (ready asked so here key above, more),
        count
            ∙ ap length
            (keep_same (λ b. met_by keys b || met_by (key ∷ asked) b) (λ b. met_by (key ∷ keys) b || met_by asked b) all_blocks
            (all_always (λ b. (met_by keys b || met_by (key ∷ asked) b) ≡ (met_by (key ∷ keys) b || met_by asked b)) (λ b. turned (met_by keys b) (meets c.order (priority_in c) (keys_in c) key b) (met_by asked b)) all_blocks)),
      )
    where
      turned : (k m a : Bool) → (k || (m || a)) ≡ ((m || k) || a)
      turned k m a = sym (or_assoc k m a) ∙ ap (λ b. b || a) (or_comm k m)

  pub can_ask : (keys : List ℕ) → rises 0 keys ≡ true → Askable words nothing_asked keys
  can_ask keys up = (lines keys [] nothing_asked reached_none up).0

  pub blocks_are : (keys : List ℕ) → rises 0 keys ≡ true → (progress words nothing_asked keys).blocks ≡ blocks_met_by_all (shown words).order (priority_in (shown words)) (keys_in (shown words)) keys
  unfolding blocks_met_by_all
  blocks_are keys up =
      (lines keys [] nothing_asked reached_none up).1
      ∙ ap length (keep_same (λ b. met_by keys b || met_by [] b) (met_by keys) all_blocks (all_always (λ b. (met_by keys b || met_by [] b) ≡ met_by keys b) (λ b. or-false (met_by keys b)) all_blocks))
