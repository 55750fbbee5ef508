-- The keys of a rising list by their indices: links, ranks, counts, levels and leaders are what the columns say, measures what the tags
-- say, and the image's order is that of the blocks' weights. Assumes an order of at least 2, rising keys, none of them zero, tags beside
-- them, and columns as their definitions say.
use mathlib.Core.Bool.{Bool, true, cond, ◌||◌, ◌&&◌}
use mathlib.Core.List.{List, map}
use mathlib.Core.Path.{◌≡◌, sym, ap, ap₂, ◌∙◌, subst}
use Prim.Native.Nat.{ℕ, zero, suc, ◌+◌, ◌<◌, ◌≤◌}
use native.Mathlib.Nat.{zero-add}
use native.Mathlib.Omega.{arith}
use lib.Dec.{eqb, ltb, leb-suc-suc}
use lib.ListN.{length, get_or}
use borrow.Author.Tests.{eqb-true}
use Rattle.lists.specs.Lists.{member, up_from, sort_by, All, Rising}
use Rattle.lists.proofs.Tests.{by_test}
use Rattle.lists.proofs.Keep.{all_at, all_map}
use Rattle.lists.proofs.Membership.{all_of_members}
use Rattle.lists.proofs.UpFrom.{up_from_rising, up_from-member, up_from_within, mapped_up_from_at, mapped_up_from_all}
use Rattle.priority.specs.Priority.{priority_with}
use Rattle.sorting.specs.ByWeight.{heavier, by_weight}
use Rattle.measure.specs.Tag.{is_tag}
use Rattle.measure.proofs.Tags.{length_at, stored_at}
use Rattle.table.specs.Layout.{most_slots}
use Rattle.table.specs.Contents.{measure_in}
use Rattle.table.specs.Tags.{entries_tagged, Beside}
use Rattle.treap.specs.Treap.{top, left_link, right_link}
use Rattle.treap.specs.Levels.{rank, count, leader}
use Rattle.treap.specs.Blocks.{root_rank}
use Rattle.treap.specs.Image.{node_of}
use Rattle.treap_structure.proofs.Relabel.{Renames, renamed_top, renamed_left, renamed_right, renamed_ranks, renamed_counts, renamed_leader}
use Rattle.lists.proofs.Renamed.{sort_renamed}
use Rattle.treap_structure.proofs.Blocks.{block_level}
use Rattle.image.proofs.Weights.{weigh, precedes_by_weight, agree_by_weight}
use Rattle.image.proofs.ImageOrder.{block_leader, before, same_block, block_leader_is}
use Rattle.treap_columns.specs.Positions.{positions, weight_at}
use Rattle.treap_columns.specs.declared.Columns.{Columns}
use Rattle.table_encode.specs.Encode.{key_at}
use Rattle.table_encode.proofs.Renaming.{key_at_suc, measure_at_suc, key_at_zero, keys_of_positions, keys_rename}
use Rattle.table_encode.proofs.Fresh.{Right, linked, numbered}
use Rattle.image_blocks.specs.Naming.{level_at, leader_at, block_weight, block_weights, same_weight, Ranked}
use Rattle.image_parts.specs.Parts.{node_at}
use Rattle.image_blocks.proofs.Weights.{leader_bound}
use Rattle.image_write.proofs.Arranging.{weights_length}
use Rattle.image_write.proofs.RunsRenamed.{renamed_less, renamed_same, precedes_renamed, agree_renamed}

-- The key at an index.
abbrev pub key_of : List ℕ → ℕ → ℕ
key_of keys i = key_at keys (suc i)

module _ (order salt : ℕ) (wide : 2 ≤ order) (keys : List ℕ) (rising : Rising keys) (some : All (λ k. 1 ≤ k) keys) where
  abbrev n : ℕ
  n = length keys

  abbrev q : ℕ → ℕ
  q = weight_at (map (priority_with salt) keys)

  abbrev is : List ℕ
  is = positions n

  rename : Renames (key_at keys) (priority_with salt) q is
  rename = keys_rename (priority_with salt) keys rising

  rise : Rising is
  rise = up_from_rising 1 n

  -- positions rise to keys, from no key on
  key_rises : (i j : ℕ) → i < j → j ≤ n → key_at keys i < key_at keys j
  key_rises i zero h k = absurd (omega arith)
  key_rises zero (suc j) h k = omega (arith, key_at_zero keys, key_at_suc keys j, all_at (λ x. 1 ≤ x) keys j 0 some k)
  key_rises (suc i) (suc j) h k =
      rename.rises (suc i) (suc j) (up_from-member 1 n (suc i) (omega arith) (omega arith)) (up_from-member 1 n (suc j) (omega arith) (omega arith)) h

  key_member : (i : ℕ) → i < n → member (key_of keys i) keys ≡ true
  key_member i h =
      subst (λ (k : ℕ). member k keys ≡ true) (sym (key_at_suc keys i))
      (all_at (λ k. member k keys ≡ true) keys i 0 (all_of_members (λ k. member k keys ≡ true) keys (λ k m. m)) h)

  pub keys_by_index : map (key_of keys) (up_from 0 n) ≡ keys
  keys_by_index = mapped_up_from_all (key_of keys) keys 0 0 (λ i h. ap (key_of keys) (zero-add i) ∙ key_at_suc keys i)

  module _ (c : Columns) (right : Right order salt keys c) (root : ℕ) (root_is : root ≡ top q is) (ranked : Ranked n root c.rank c.leader) where
    pub top_is : top (priority_with salt) keys ≡ key_at keys root
    top_is = ap (top (priority_with salt)) (sym (keys_of_positions keys)) ∙ renamed_top (key_at keys) (priority_with salt) q is rename rise ∙ ap (key_at keys) (sym root_is)

    -- ---- the record of a key
    rank_is : (i : ℕ) → i < n → rank order (priority_with salt) keys (key_of keys i) ≡ get_or c.rank i 0
    rank_is = numbered order salt wide keys rising some c right (rank order) c.rank (renamed_ranks (key_at keys) (priority_with salt) q is rename rise order wide) right.ranks

    pub node_by_index : (tags : List ℕ) → Beside keys tags → (i : ℕ) → i < n
        → node_of order (priority_with salt) (measure_in (entries_tagged keys tags)) keys (key_of keys i) ≡ node_at keys tags c i
    unfolding node_of node_at
    node_by_index tags beside i h =
        let tag = get_or tags i 0 in
        let many = beside.as_many in
        rw (
          measure_at_suc keys tags rising i h,
          stored_at tag (all_at (λ t. is_tag t ≡ true) tags i 0 beside.right (omega arith)),
          length_at tag,
          linked order salt wide keys rising some c right left_link c.left (renamed_left (key_at keys) (priority_with salt) q is rename rise) right.lefts i h,
          linked order salt wide keys rising some c right right_link c.right (renamed_right (key_at keys) (priority_with salt) q is rename rise) right.rights i h,
          rank_is i h,
          numbered order salt wide keys rising some c right (count order) c.count (renamed_counts (key_at keys) (priority_with salt) q is rename rise order wide) right.counts i h,
          key_at_suc keys i,
        )

    -- ---- the name of its block
    is_root : (i : ℕ) → i < n → eqb (key_of keys i) (top (priority_with salt) keys) ≡ eqb (suc i) root
    is_root i h = ap (eqb (key_of keys i)) top_is ∙ renamed_same (key_at keys) n key_rises (suc i) root h ranked.root_within

    pub level_by_index : (i : ℕ) → i < n → block_level order (priority_with salt) keys (key_of keys i) ≡ level_at root c.rank i
    unfolding block_level level_at root_rank
    level_by_index i h =
        ap (λ (b : Bool). cond b (rank order (priority_with salt) keys (top (priority_with salt) keys)) (suc (rank order (priority_with salt) keys (key_of keys i)))) (is_root i h)
        ∙ by_test (eqb (suc i) root)
        (λ e. rw e (ap (rank order (priority_with salt) keys) (top_is ∙ ap (key_at keys) (sym (eqb-true (suc i) root e))) ∙ rank_is i h))
        (λ e. rw e (ap suc (rank_is i h)))

    pub leader_by_index : (i : ℕ) → i < n → block_leader order (priority_with salt) keys (key_of keys i) ≡ key_at keys (leader_at root c.leader i)
    unfolding leader_at
    leader_by_index i h =
        block_leader_is order (priority_with salt) wide keys rising (key_of keys i) (key_member i h)
        ∙ ap (λ (b : Bool). cond b (top (priority_with salt) keys) (leader order (priority_with salt) keys (key_of keys i))) (is_root i h)
        ∙ by_test (eqb (suc i) root)
        (λ e. rw e top_is)
        (λ e. rw e (linked order salt wide keys rising some c right (leader order) c.leader (renamed_leader (key_at keys) (priority_with salt) q is rename rise order wide) right.leaders i h))

    -- ---- the order and the blocks by weight
    abbrev weights : List ℕ
    weights = block_weights root c.rank c.leader n

    low : (i : ℕ) → i < n → leader_at root c.leader i ≤ n
    low i h = leader_bound n root c.rank c.leader ranked i h

    small : (i : ℕ) → i < n → leader_at root c.leader i < suc most_slots
    small i h = let few = ranked.few in omega (arith, low i h)

    weight_by_index : (i : ℕ) → i < n → weigh (suc most_slots) (level_at root c.rank i) (leader_at root c.leader i) ≡ get_or weights i 0
    unfolding weigh block_weights block_weight
    weight_by_index i h = sym (mapped_up_from_at (block_weight root c.rank c.leader) 0 n i h ∙ ap (block_weight root c.rank c.leader) (zero-add i))

    module _ (i j : ℕ) (h : i < n) (k : j < n) where
      same_leaders : eqb (block_leader order (priority_with salt) keys (key_of keys i)) (block_leader order (priority_with salt) keys (key_of keys j)) ≡ eqb (leader_at root c.leader i) (leader_at root c.leader j)
      same_leaders = ap₂ eqb (leader_by_index i h) (leader_by_index j k) ∙ renamed_same (key_at keys) n key_rises (leader_at root c.leader i) (leader_at root c.leader j) (low i h) (low j k)

      less_leaders : ltb (block_leader order (priority_with salt) keys (key_of keys i)) (block_leader order (priority_with salt) keys (key_of keys j)) ≡ ltb (leader_at root c.leader i) (leader_at root c.leader j)
      less_leaders = ap₂ ltb (leader_by_index i h) (leader_by_index j k) ∙ renamed_less (key_at keys) n key_rises (leader_at root c.leader i) (leader_at root c.leader j) (low i h) (low j k)

      pub before_by_weight : before order (priority_with salt) keys (key_of keys i) (key_of keys j) ≡ heavier weights i j
      unfolding before heavier
      before_by_weight =
          precedes_renamed (block_level order (priority_with salt) keys) (block_leader order (priority_with salt) keys) (level_at root c.rank) (leader_at root c.leader) (key_of keys i) (key_of keys j) i j
          (level_by_index i h) (level_by_index j k) same_leaders less_leaders
          (renamed_less (key_at keys) n key_rises (suc i) (suc j) h k ∙ leb-suc-suc (suc i) j)
          ∙ precedes_by_weight (level_at root c.rank) (leader_at root c.leader) (leader_at root c.leader) (suc most_slots) i j (small i h) (small j k) (record { below = λ l. l; equal = λ e. e; above = λ l. l })
          ∙ ap₂ (λ (a b : ℕ). ltb b a || (eqb a b && ltb i j)) (weight_by_index i h) (weight_by_index j k)

      pub block_by_weight : same_block order (priority_with salt) keys (key_of keys i) (key_of keys j) ≡ same_weight weights i j
      unfolding same_block same_weight
      block_by_weight =
          agree_renamed (block_level order (priority_with salt) keys) (block_leader order (priority_with salt) keys) (level_at root c.rank) (leader_at root c.leader) (key_of keys i) (key_of keys j) i j
          (level_by_index i h) (level_by_index j k) same_leaders
          ∙ agree_by_weight (level_at root c.rank) (leader_at root c.leader) (leader_at root c.leader) (suc most_slots) i j (small i h) (small j k) (record { below = λ l. l; equal = λ e. e; above = λ l. l })
          ∙ ap₂ eqb (weight_by_index i h) (weight_by_index j k)

    -- the keys in the image's order are those at the sorted indices
    pub sorted_by_weight : sort_by (before order (priority_with salt) keys) keys ≡ map (key_of keys) (by_weight weights)
    unfolding by_weight
    sorted_by_weight =
        ap (sort_by (before order (priority_with salt) keys)) (sym keys_by_index)
        ∙ sort_renamed (key_of keys) (before order (priority_with salt) keys) (heavier weights) (λ i. i < n) (λ i j h k. before_by_weight i j h k) (up_from 0 n)
        (all_map (λ i. (0 ≤ i) × (i < 0 + n)) (λ i. i < n) (λ i h. omega arith) (up_from 0 n) (up_from_within 0 n))
        ∙ ap (λ (m : ℕ). map (key_of keys) (sort_by (heavier weights) (up_from 0 m))) (sym (weights_length root c.rank c.leader n))
