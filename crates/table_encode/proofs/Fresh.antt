-- The words from the columns of a rising list of keys, and the tags beside them, are those of the fresh table. Assumes an order of at least
-- 2, rising keys, none of them zero, and columns by position as their definitions say.
use mathlib.Core.Bool.{true}
use mathlib.Core.List.Permᴰ
use mathlib.Core.List.{List, [], ◌∷◌, ◌++◌, map, flat_map, map-map}
use mathlib.Core.Logic.{◌≢◌}
use mathlib.Core.Path.{◌≡◌, sym, ap, ap₂, ◌∙◌, subst}
use Prim.Native.Nat.{ℕ, zero, suc, ◌+◌, ◌<◌, ◌≤◌}
use native.Mathlib.Omega.{arith}
use lib.ListN.{length, get_or, take, replicate}
use borrow.Author.Tests.{ne_eqb}
use Rattle.lists.specs.Lists.{sort_by, All, Rising}
use Rattle.lists.proofs.Keep.{all_map, all_at, all_replicate}
use Rattle.lists.proofs.Membership.{all_member, all_of_members}
use Rattle.lists.proofs.FlatMap.{flat_map-same, flat_map_mapped}
use Rattle.lists.proofs.Sorting.{all_permuted, sort_by_permutes}
use Rattle.lists.proofs.UpFrom.{up_from-member, up_from_rising, up_from_within}
use Rattle.measure.specs.Measure.{Measure, stored_correction}
use Rattle.measure.specs.Tag.{is_tag}
use Rattle.measure.proofs.Tags.{length_at, stored_at}
use Rattle.priority.specs.Priority.{priority_with, home_of}
use Rattle.treap.specs.Treap.{top, outranks, left_link, right_link}
use Rattle.treap.specs.Levels.{rank, count, leader}
use Rattle.treap.specs.Slots.{slots_of}
use Rattle.treap_structure.proofs.Relabel.{Renames, renamed_top, renamed_left, renamed_right, renamed_ranks, renamed_counts, renamed_leader}
use Rattle.table_slots.proofs.RelabelSlots.{renamed_slots}
use Rattle.treap_columns.specs.Positions.{positions, weight_at}
use Rattle.treap_columns.specs.Columns.{left_column, right_column, rank_column, count_column, leader_column}
use Rattle.treap_columns.proofs.Filled.{column_at}
use Rattle.table.specs.Contents.{Contents}
use Rattle.table.specs.Tags.{tagged, Beside}
use Rattle.table.specs.Table.{home_in, header, slot_of, fresh}
use Rattle.table.proofs.Tagged.{tagged_keys}
use Rattle.treap_columns.specs.declared.Columns.{Columns}
use Rattle.table_encode.specs.Encode.{key_at, slot_at, words_of}
use Rattle.table_encode.proofs.Renaming.{maps_agree, measure_at_suc, key_at_zero, keys_of_positions, keys_rename, keys_apart, place_home, all_placed}

-- Columns that begin with those of the definitions, over the priorities of the keys under a salt.
pub record Right (order salt : ℕ) (keys : List ℕ) (c : Columns) : Type 0 where
  pub lefts : take (length keys) c.left ≡ left_column (map (priority_with salt) keys) (length keys)
  pub rights : take (length keys) c.right ≡ right_column (map (priority_with salt) keys) (length keys)
  pub leaders : take (length keys) c.leader ≡ leader_column order (map (priority_with salt) keys) (length keys)
  pub ranks : take (length keys) c.rank ≡ rank_column order (map (priority_with salt) keys) (length keys)
  pub counts : take (length keys) c.count ≡ count_column order (map (priority_with salt) keys) (length keys)

module _ (order salt : ℕ) (wide : 2 ≤ order) (keys : List ℕ) (rising : Rising keys) (some : All (λ k. 1 ≤ k) keys) where
  abbrev n : ℕ
  n = length keys

  abbrev q : ℕ → ℕ
  q = weight_at (map (priority_with salt) keys)

  abbrev is : List ℕ
  is = positions n

  abbrev f : ℕ → ℕ
  f = key_at keys

  -- what is said of the keys, said of the positions
  of_position : (g h : ℕ → ℕ) → map g (map f is) ≡ map h is → (i : ℕ) → i < n → g (f (suc i)) ≡ h (suc i)
  of_position g h e i b =
      all_member (λ j. g (f j) ≡ h j) is (suc i) (maps_agree (λ j. g (f j)) h is (sym (map-map g f is) ∙ e)) (up_from-member 1 n (suc i) (omega arith) (omega arith))

  over_keys : (g : List ℕ → ℕ → ℕ) (ys : List ℕ) → map (g (map f is)) (map f is) ≡ ys → map (g keys) (map f is) ≡ ys
  over_keys g ys e = subst (λ (ks : List ℕ). map (g ks) (map f is) ≡ ys) (keys_of_positions keys) e

  rename : Renames f (priority_with salt) q is
  rename = keys_rename (priority_with salt) keys rising

  rise : Rising is
  rise = up_from_rising 1 n

  module _ (c : Columns) (right : Right order salt keys c) where
    -- a link or leader of the key is the key of the position's
    pub linked : (g : (ℕ → ℕ) → List ℕ → ℕ → ℕ) (column : List ℕ) → map (g (priority_with salt) (map f is)) (map f is) ≡ map f (map (g q is) is) → take n column ≡ map (g q is) is
        → (i : ℕ) → i < n → g (priority_with salt) keys (f (suc i)) ≡ f (get_or column i 0)
    linked g column e t i h =
        of_position (g (priority_with salt) keys) (λ j. f (g q is j)) (over_keys (g (priority_with salt)) (map f (map (g q is) is)) e ∙ map-map f (g q is) is) i h
        ∙ ap f (sym (column_at (g q is) n column t i h))

    pub numbered : (g : (ℕ → ℕ) → List ℕ → ℕ → ℕ) (column : List ℕ) → map (g (priority_with salt) (map f is)) (map f is) ≡ map (g q is) is → take n column ≡ map (g q is) is
        → (i : ℕ) → i < n → g (priority_with salt) keys (f (suc i)) ≡ get_or column i 0
    numbered g column e t i h =
        of_position (g (priority_with salt) keys) (g q is) (over_keys (g (priority_with salt)) (map (g q is) is) e) i h ∙ sym (column_at (g q is) n column t i h)

    slot_right : (tags : List ℕ) → Beside keys tags → (i : ℕ) → i ≤ n → slot_of (tagged order salt keys tags) (f i) ≡ slot_at keys tags c i
    unfolding slot_of slot_at
    slot_right tags beside zero h = rw (key_at_zero keys)
    slot_right tags beside (suc i) h =
        let apart = all_member (λ j. (j ≢ 0) × (f j ≢ 0)) is (suc i) (keys_apart keys some) (up_from-member 1 n (suc i) (omega arith) (omega arith)) in
        let tag = get_or tags i 0 in
        let tag_right : is_tag tag ≡ true = all_at (λ t. is_tag t ≡ true) tags i 0 beside.right (omega (arith, beside.as_many)) in
        rw (
          tagged_keys keys tags,
          ne_eqb (f (suc i)) 0 apart.1,
          ne_eqb (suc i) 0 apart.0,
          linked left_link c.left (renamed_left f (priority_with salt) q is rename rise) right.lefts i h,
          linked right_link c.right (renamed_right f (priority_with salt) q is rename rise) right.rights i h,
          linked (leader order) c.leader (renamed_leader f (priority_with salt) q is rename rise order wide) right.leaders i h,
          numbered (rank order) c.rank (renamed_ranks f (priority_with salt) q is rename rise order wide) right.ranks i h,
          numbered (count order) c.count (renamed_counts f (priority_with salt) q is rename rise order wide) right.counts i h,
          ap (λ (m : Measure). m.length) (measure_at_suc keys tags rising i h) ∙ length_at tag,
          ap stored_correction (measure_at_suc keys tags rising i h) ∙ stored_at tag tag_right,
        )

    -- ---- the slots
    positions_within : All (λ i. i ≤ n) (sort_by (outranks q) is)
    positions_within =
        all_permuted (λ i. i ≤ n) (Permᴰ.symm (sort_by_permutes (outranks q) is)) (all_map (λ i. (1 ≤ i) × (i < 1 + n)) (λ i. i ≤ n) (λ i h. omega arith) is (up_from_within 1 n))

    pub slots_within : (many : ℕ) → All (λ i. i ≤ n) (slots_of q (λ i. home_of (q i) many) many is)
    unfolding slots_of
    slots_within many = all_placed (λ i. i ≤ n) (λ i. home_of (q i) many) (replicate many 0) (sort_by (outranks q) is) (all_replicate (λ i. i ≤ n) many 0 (omega arith)) positions_within

    homes : (many : ℕ) → slots_of q (λ i. home_in many salt (f i)) many is ≡ slots_of q (λ i. home_of (q i) many) many is
    unfolding slots_of home_in
    homes many =
        place_home (λ i. home_in many salt (f i)) (λ i. home_of (q i) many) (replicate many 0) (sort_by (outranks q) is)
        (all_permuted (λ i. home_in many salt (f i) ≡ home_of (q i) many) (Permᴰ.symm (sort_by_permutes (outranks q) is))
        (all_of_members (λ i. home_in many salt (f i) ≡ home_of (q i) many) is (λ i m. ap (λ (z : ℕ). home_of z many) (rename.keeps i m))))

    pub words_are_fresh : (tags : List ℕ) → Beside keys tags → (many : ℕ)
        → words_of order salt keys tags (top q is) c (slots_of q (λ i. home_of (q i) many) many is) ≡ fresh many (tagged order salt keys tags)
    unfolding words_of fresh header
    words_are_fresh tags beside many =
        let contents : Contents = tagged order salt keys tags in
        let placed = slots_of q (λ i. home_of (q i) many) many is in
        let slots_here : slots_of (priority_with salt) (home_in many salt) many keys ≡ map f placed =
        ap (slots_of (priority_with salt) (home_in many salt) many) (sym (keys_of_positions keys))
        ∙ renamed_slots f (home_in many salt) (key_at_zero keys) (priority_with salt) q is rename rise (keys_apart keys some) many ∙ ap (map f) (homes many)
        in
        let root-here : top (priority_with salt) keys ≡ f (top q is) = ap (top (priority_with salt)) (sym (keys_of_positions keys)) ∙ renamed_top f (priority_with salt) q is rename rise in
        sym
        (rw (tagged_keys keys tags)
        (ap₂ (λ (z : ℕ) (xs : List ℕ). (order ∷ n ∷ z ∷ salt ∷ []) ++ xs) root-here
        (ap (flat_map (slot_of contents)) slots_here
        ∙ flat_map_mapped (slot_of contents) f placed
        ∙ flat_map-same (λ i. slot_of contents (f i)) (slot_at keys tags c) placed
        (all_map (λ i. i ≤ n) (λ i. slot_of contents (f i) ≡ slot_at keys tags c i) (λ i h. slot_right tags beside i h) placed (slots_within many)))))
