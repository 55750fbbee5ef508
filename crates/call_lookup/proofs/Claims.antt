-- The claims of lookups, from those of the treap of any keys. Assumes nothing.
use mathlib.Core.Bool.{true}
use mathlib.Core.List.{List, [], ◌∷◌}
use mathlib.Core.Logic.{◌≢◌}
use mathlib.Core.Path.{◌≡◌, refl, sym, ap, ap₂, ◌∙◌, subst}
use Prim.Native.Nat.{ℕ, max, ◌*◌, ◌≤◌}
use native.Mathlib.Nat.{mul-le-mul}
use native.Mathlib.Omega.{arith}
use lib.Dec.{eqb}
use lib.ListN.{length}
use borrow.Author.Tests.{eqb-true, eqb-false}
use Rattle.lists.specs.Lists.{member, All, Rising}
use Rattle.lists.proofs.Tests.{by_test}
use Rattle.lists.proofs.Keep.{all_map}
use Rattle.lists.proofs.Membership.{all_member}
use Rattle.priority.specs.Priority.{priority_with}
use Rattle.treap.specs.Blocks.{root_rank, blocks_met}
use Rattle.treap_ceilings.specs.Ceiling.{rank_ceiling, blocks_ceiling}
use Rattle.treap_ceilings.specs.Claims.{WorstKeys, Ceilings}
use Rattle.treap_ceilings.proofs.Claims.{ceilings_hold}
use Rattle.table.specs.Layout.{most_slots}
use Rattle.table.specs.Contents.{Contents, keys_in, priority_in, entries_with, table_order, IsKey, Valid, IsSalt}
use Rattle.table.specs.Table.{fresh, Sound}
use Rattle.table.proofs.Orders.{order_wide}
use Rattle.table.proofs.Entries.{with_keys, with_right}
use Rattle.table_judge.specs.Judge.{is_sound}
use Rattle.call_meaning.specs.Reasons.{shown}
use Rattle.call_meaning.specs.Calls.{lookup_reply, blocks_told}
use Rattle.call_meaning.proofs.Shows.{sound_shows}
use Rattle.call_meaning.proofs.Lookups.{shown_wide, shown_rises, accepted_sound}
use Rattle.call_lookup.specs.Claims.{key_count, root_rank_in, CeilingsIn, WorstTable, LookupCeiling}
use Rattle.call_lookup.proofs.Told.{any_accepted, told_met, told_none}

-- ---- of a table that is judged sound
module _ (words : List ℕ) (sound : is_sound words ≡ true) where
  abbrev c : Contents
  c = shown words

  abbrev rise : Rising (keys_in c)
  rise = shown_rises words sound

  abbrev promised : Ceilings c.order (priority_in c)
  promised = ceilings_hold.every_order c.order (shown_wide words sound) (priority_in c)

  -- what a search meets at most, a lookup tells at most
  told_at_most : (key most : ℕ) → blocks_met c.order (priority_in c) (keys_in c) key ≤ most → blocks_told (lookup_reply words key) ≤ most
  told_at_most key most h =
      by_test (eqb key 0)
      (λ e. omega (arith, told_none words sound key (eqb-true key 0 e)))
      (λ e. omega (arith, told_met words sound key (eqb-false key 0 e)))

  empty_meets : key_count c ≡ 0 → (key : ℕ) → blocks_told (lookup_reply words key) ≡ 0
  empty_meets none key = omega (arith, told_at_most key 0 (go (keys_in c) none))
    where
      go : (ks : List ℕ) → length ks ≡ 0 → blocks_met c.order (priority_in c) ks key ≤ 0
      go [] e = omega (arith, promised.no_key key)
      go (k ∷ ks) e = absurd (omega arith)

  in_shown : CeilingsIn words c
  in_shown =
      record {
        root_rank_lem = promised.root_rank_lem (keys_in c) rise;
        blocks_met_lem = λ some key. told_at_most key (blocks_ceiling c.order (key_count c) (root_rank_in c)) (promised.blocks_met_lem (keys_in c) rise some key);
        blocks_by_rank = λ key. told_at_most key (max 1 (root_rank_in c)) (promised.blocks_by_rank (keys_in c) rise key);
        none_met = empty_meets;
        one_key = promised.one_key (keys_in c) rise;
        more_keys = promised.more_keys (keys_in c) rise;
        accepted = any_accepted words sound;
        told = told_met words sound;
      }

in_table : (words : List ℕ) (sound : Sound words) → CeilingsIn words sound.contents
in_table words sound = let s = sound_shows words sound in subst (CeilingsIn words) s.holds (in_shown words s.sound)

in_accepted : (words : List ℕ) (key : ℕ) → (lookup_reply words key).refusal ≡ 0 → CeilingsIn words (shown words)
unfolding lookup_reply
in_accepted words key accepted = in_shown words (accepted_sound words key accepted)

-- ---- a table of the worst keys
module _ (order salt n : ℕ) (right : table_order order ≡ true) (fits : IsSalt salt) (some : 1 ≤ n) (most : n ≤ most_slots) where
  worst : WorstKeys order (priority_with salt) n
  worst = (ceilings_hold.every_order order (order_wide order right) (priority_with salt)).reached n some

  contents : Contents
  contents = record { order = order; salt = salt; entries = entries_with worst.keys [] }

  keys_are : keys_in contents ≡ worst.keys
  unfolding contents
  keys_are = with_keys worst.keys []

  worst_valid : Valid n contents
  unfolding contents
  worst_valid =
      let many = worst.many in
      let square = mul-le-mul most most in
      record {
        order_right = right;
        salt_right = fits;
        keys_right =
            subst (All IsKey) (sym keys_are)
            (all_map (λ k. (1 ≤ k) × (k ≤ n * n)) IsKey (λ k h. omega arith) worst.keys worst.small);
        keys_rise = subst Rising (sym keys_are) worst.rise;
        keys_fit = omega (arith, ap length keys_are);
        measures_right = with_right worst.keys [] tt;
      }

  worst_sound : Sound (fresh n contents)
  worst_sound = record { many = n; contents = contents; some = some; most = most; valid = worst_valid; exactly = refl }

  worst_table : WorstTable order salt n
  unfolding contents worst_sound
  worst_table =
      let reach = worst.reach in
      let many = worst.many in
      let positive : reach.sought ≢ 0 = λ e. let bounds = all_member (λ k. (1 ≤ k) × (k ≤ n * n)) worst.keys reach.sought worst.small reach.held in omega arith in
      record {
        words = fresh n contents;
        sound = worst_sound;
        of_order = refl;
        of_salt = refl;
        of_keys = ap length keys_are ∙ many;
        root = ap (root_rank order (priority_with salt)) keys_are ∙ reach.root ∙ ap (rank_ceiling order) many;
        key = reach.sought;
        held = ap (member reach.sought) keys_are ∙ reach.held;
        accepted = (in_table (fresh n contents) worst_sound).accepted reach.sought positive;
        met =
            (in_table (fresh n contents) worst_sound).told reach.sought positive
            ∙ ap (λ (ks : List ℕ). blocks_met order (priority_with salt) ks reach.sought) keys_are
            ∙ reach.met
            ∙ ap₂ (blocks_ceiling order) many (sym (ap (root_rank order (priority_with salt)) keys_are));
      }

pub lookup_ceiling_holds : LookupCeiling
lookup_ceiling_holds = record { every_table = in_table; every_accepted = in_accepted; reached = worst_table }
