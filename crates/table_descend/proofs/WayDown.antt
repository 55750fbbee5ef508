-- The way down the treap of a table after earlier lookups: where it starts, how it goes on, and what it has found at its end.
-- Assumes valid contents.
use mathlib.Core.Bool.{Bool, true, false, cond, not, ◌&&◌}
use mathlib.Core.List.{List, [], ◌∷◌}
use mathlib.Core.Logic.{◌≢◌}
use mathlib.Core.Path.{◌≡◌, refl, sym, ap, ◌∙◌, subst}
use Prim.Native.Nat.{ℕ, suc, pred, ◌+◌, ◌<◌, ◌≤◌}
use native.Mathlib.Omega.{arith}
use lib.Dec.{eqb, ltb}
use lib.ListN.{length}
use borrow.Author.Tests.{eqb-true, eqb-false, eq-eqb, ltb-true, ltb-false, lt-ltb, le-ltb}
use Rattle.std.specs.Prelude.{Some, None}
use Rattle.lists.specs.Lists.{nonzero, some, member, All, Rising}
use Rattle.lists.proofs.Tests.{by_test, same_test, or_true_left, nonzero_when, and_both}
use Rattle.lists.proofs.Keep.{all_map}
use Rattle.lists.proofs.Membership.{all_member}
use Rattle.lists.proofs.Changes.{new, changes, changes_same, Counted, counted_on, counted_most}
use Rattle.treap.specs.Treap.{Tree, keys, root_key, subtree, path, top, treap}
use Rattle.treap.specs.Treap.Tree.{leaf}
use Rattle.treap.specs.Levels.{leader}
use Rattle.treap.specs.Blocks.{Block, root_rank, root_block, block, blocks, meets}
use Rattle.treap_structure.proofs.Shape.{size, top_member, treap_keys, treap_good, treap_size}
use Rattle.treap_structure.proofs.Subtrees.{good_subtree, root_subtree}
use Rattle.treap_structure.proofs.Blocks.{top_is_root, block_level, block_of, level_of_root}
use Rattle.treap_structure.proofs.Descent.{zero_subtree, side, path_begins, path_here, path_on, side_smaller, member_on}
use Rattle.treap_structure.proofs.Children.{child, positive_in_tree, has_root, some_root, own_path, side_is, child_key, goes_by, comes_by}
use Rattle.treap_structure.proofs.Entrances.{of_level}
use Rattle.treap_structure.proofs.MetBetween.{root_met}
use Rattle.treap_structure.proofs.NewBlocks.{new_blocks_change}
use Rattle.table.specs.Contents.{Contents, IsKey, Valid, keys_in, priority_in}
use Rattle.table.proofs.Orders.{order_wide}
use Rattle.table_entries.specs.Steps.{next_key}
use Rattle.table_descend.specs.Lookup.{standing_of, earlier, newly_met, looked_up_after}
use Rattle.table_descend.specs.Entering.{first_block, other_than, new_block, low_after}
use Rattle.table_descend.proofs.Links.{next_is_side}
use Rattle.table_descend.proofs.Earlier.{none_earlier, last_earlier, met_before}

-- The subtree in which the search goes on from a key.
abbrev pub rest : Contents → ℕ → Tree
rest c at = subtree at (treap (priority_in c) (keys_in c))

-- None of the earlier lookups met a block.
abbrev unmet : Contents → ℕ → ℕ → Block → Bool
unmet c last before b = not (some (λ k. meets c.order (priority_in c) (keys_in c) k b) (earlier last before))

-- Nor the block that holds a key.
abbrev pub passes : Contents → ℕ → ℕ → ℕ → Bool
passes c last before x = unmet c last before (block_of c.order (priority_in c) (keys_in c) x)

-- The blocks still to be counted, on from a key of this level.
abbrev pub ahead : Contents → ℕ → ℕ → ℕ → List ℕ → ℕ
ahead c last before level xs = changes (block_level c.order (priority_in c) (keys_in c)) (passes c last before) level xs

-- Before the key `at`, of a block of this level, is compared with the one sought, with so many blocks counted.
pub record Searching (c : Contents) (key last before at level low met : ℕ) : Type 0 where
  pub held_here : member at (keys_in c) ≡ true
  pub level_is : level ≡ block_level c.order (priority_in c) (keys_in c) at
  -- the key is held when it is in what is left
  pub held : member key (keys (rest c at)) ≡ member key (keys_in c)
  -- the searches for lesser keys that come by `at` are those for keys above `low`
  pub along : (q : ℕ) → 1 ≤ q → q ≤ pred key → member at (path q (treap (priority_in c) (keys_in c))) ≡ ltb low q
  -- every block that is entered from here on and was not met before counts
  pub counted : met + ahead c last before level (path key (rest c at)) ≡ newly_met c (earlier last before) key
  -- no more blocks than keys
  pub few : met + size (rest c at) ≤ suc (length (keys_in c))

-- A key with the level of its block is of that level.
pub on_its_level : (c : Contents) (next below : ℕ) → next ≢ 0 → below ≡ block_level c.order (priority_in c) (keys_in c) next
    → of_level c.order (priority_in c) (keys_in c) below next ≡ true
unfolding of_level
on_its_level c next below some its =
    let level = block_level c.order (priority_in c) (keys_in c) next in
    and_both (nonzero next) (eqb level below) (nonzero_when next (omega arith)) (eq-eqb level below (sym its))

module _ (many : ℕ) (c : Contents) (valid : Valid many c) where
  abbrev α : ℕ
  α = c.order

  abbrev p : ℕ → ℕ
  p = priority_in c

  abbrev ks : List ℕ
  ks = keys_in c

  abbrev t : Tree
  t = treap (priority_in c) (keys_in c)

  wide : 2 ≤ c.order
  wide = order_wide c.order valid.order_right

  rising : Rising ks
  rising = valid.keys_rise

  positive : All (λ k. 1 ≤ k) ks
  positive = all_map IsKey (λ k. 1 ≤ k) (λ k h. h.0) ks valid.keys_right

  -- a link of a key is a key, where it is not zero
  pub link_held : (at : ℕ) → member at ks ≡ true → (q there : ℕ) → there ≡ next_key c at q → there ≢ 0 → member there ks ≡ true
  link_held at m q there e d =
      let here : there ≡ child p ks at q = e ∙ next_is_side c at q (has_root α p wide ks rising positive at m) in
      ap (λ (k : ℕ). member k ks) here ∙ child_key α p wide ks rising positive at m q (λ z. d (here ∙ z))

  -- ---- the start
  -- no root, no key, no block
  no_root : top p ks ≡ 0 → ks ≡ []
  no_root e = go ks positive e
    where
      go : (xs : List ℕ) → All (λ k. 1 ≤ k) xs → top p xs ≡ 0 → xs ≡ []
      go [] h q = refl
      go (x ∷ xs) h q = absurd (omega (arith, q, all_member (λ k. 1 ≤ k) (x ∷ xs) (top p (x ∷ xs)) h (top_member p x xs)))

  pub none_held : (key last before : ℕ) → top p ks ≡ 0 → record { standing = None; blocks = 0 } ≡ looked_up_after c (earlier last before) key
  unfolding looked_up_after newly_met blocks
  none_held key last before e = rw (no_root e) refl

  pub root_held : (root : ℕ) → root ≡ top p ks → root ≢ 0 → member root ks ≡ true
  unfolding top
  root_held root e d = go ks e
    where
      go : (xs : List ℕ) → root ≡ top p xs → member root xs ≡ true
      go [] q = absurd (d q)
      go (x ∷ xs) q = ap (λ (k : ℕ). member k (x ∷ xs)) q ∙ top_member p x xs

  module _ (key last before : ℕ) (first : before ≤ pred last) (second : last ≤ pred key) where
    -- the root's block is new to the first lookup alone
    root_passes : (root : ℕ) → root ≡ top p ks → member root ks ≡ true → cond (passes c last before root) 1 0 ≡ first_block last
    unfolding first_block block_of
    root_passes root e m =
        let level = level_of_root α p ks wide rising root e in
        by_test (eqb last 0)
        (λ z. let o = eqb-true last 0 z in rw z (ap (λ b. cond (not b) 1 0) (none_earlier (λ k. meets α p ks k (block_of α p ks root)) last before o (omega arith))))
        (λ z.
        let o : last ≢ 0 = eqb-false last 0 z in
        rw z
        (ap (λ b. cond (not b) 1 0)
        (last_earlier (λ k. meets α p ks k (block_of α p ks root)) last before (omega arith)
        (ap (λ b. meets α p ks last (cond b (root_block α p ks) (block α p ks (block_level α p ks root) (leader α p ks root)))) (eq-eqb (block_level α p ks root) (root_rank α p ks) level)
        ∙ root_met α p wide ks rising positive last root m))))

    pub starts : (root level : ℕ) → root ≡ top p ks → root ≢ 0 → level ≡ block_level α p ks root → Searching c key last before root level 0 (first_block last)
    unfolding newly_met first_block
    starts root level e d l =
        let m = root_held root e d in
        let at_top : root ≡ root_key t = e ∙ top_is_root p ks rising root m in
        let whole : rest c root ≡ t = ap (λ (k : ℕ). subtree k t) at_top ∙ root_subtree t in
        let some : root_key t ≢ 0 = λ q. d (at_top ∙ q) in
        record {
          held_here = m;
          level_is = l;
          held = ap (λ z. member key (keys z)) whole ∙ ap (member key) (treap_keys p ks rising);
          along = λ q h k. ap (member root) (path_begins t q some).1 ∙ or_true_left (eqb root (root_key t)) _ (eq-eqb root (root_key t) at_top) ∙ sym (lt-ltb 0 q h);
          counted = begun (path_begins t key some);
          few = omega (arith, at_most (eqb last 0), ap size whole, treap_size p ks rising);
        }
      where
        at_most : (b : Bool) → cond b 1 0 ≤ 1
        at_most true = omega arith
        at_most false = omega arith

        begun : (xs : List ℕ) × (path key t ≡ root_key t ∷ xs) → first_block last + ahead c last before level (path key (rest c root)) ≡ newly_met c (earlier last before) key
        begun (xs, begins) =
            let at_top : root ≡ root_key t = e ∙ top_is_root p ks rising root (root_held root e d) in
            let whole : rest c root ≡ t = ap (λ (k : ℕ). subtree k t) at_top ∙ root_subtree t in
            let same : block_level α p ks (root_key t) ≡ level = ap (block_level α p ks) (sym at_top) ∙ sym l in
            ap (λ (z : Tree). first_block last + ahead c last before level (path key z)) whole
            ∙ ap (λ (ys : List ℕ). first_block last + ahead c last before level ys) begins
            ∙ ap (λ (n : ℕ). first_block last + n) (changes_same (block_level α p ks) (passes c last before) level (root_key t) xs same)
            ∙ ap (λ (n : ℕ). n + ahead c last before (block_level α p ks (root_key t)) xs)
            (sym (root_passes (root_key t) (sym at_top ∙ e) (ap (λ (k : ℕ). member k ks) (sym at_top) ∙ root_held root e d)))
            ∙ sym (new_blocks_change α p wide ks rising (unmet c last before) key (root_key t) xs begins)

    -- ---- a key compared
    module _ {at level low met : ℕ} (now : Searching c key last before at level low met) where
      abbrev here : member at ks ≡ true
      here = now.held_here

      root_is : root_key (rest c at) ≡ at
      root_is = has_root α p wide ks rising positive at here

      some_left : root_key (rest c at) ≢ 0
      some_left = some_root α p wide ks rising positive at here

      -- one more block can be met
      pub room : met < suc (length ks)
      room = omega (arith, now.few, side_smaller (rest c at) key some_left)

      -- the key `at` itself is counted already
      passed : (xs : List ℕ) → path key (rest c at) ≡ root_key (rest c at) ∷ xs → met + ahead c last before level xs ≡ newly_met c (earlier last before) key
      passed xs e =
          let same : block_level α p ks (root_key (rest c at)) ≡ level = ap (block_level α p ks) root_is ∙ sym now.level_is in
          ap (λ (n : ℕ). met + ahead c last before n xs) (sym same)
          ∙ ap (λ (n : ℕ). met + n) (sym (changes_same (block_level α p ks) (passes c last before) level (root_key (rest c at)) xs same))
          ∙ ap (λ (ys : List ℕ). met + ahead c last before level ys) (sym e)
          ∙ now.counted

      pub found : at ≡ key → record { standing = Some (standing_of c at); blocks = met } ≡ looked_up_after c (earlier last before) key
      unfolding looked_up_after
      found e =
          let all : met ≡ newly_met c (earlier last before) key = omega (arith, passed [] (path_here (rest c at) key some_left (sym e ∙ sym root_is))) in
          rw (ap (λ (k : ℕ). member k ks) (sym e) ∙ here, e, all)

      module _ (other : at ≢ key) where
        not_root : key ≢ root_key (rest c at)
        not_root e = other (sym root_is ∙ sym e)

        on : path key (rest c at) ≡ root_key (rest c at) ∷ path key (side key (rest c at))
        on = path_on (rest c at) key some_left not_root

        held_on : member key (keys (side key (rest c at))) ≡ member key ks
        held_on = member_on p (rest c at) key (good_subtree p at t (treap_good p ks rising)) some_left not_root ∙ now.held

        link_is : (q : ℕ) → next_key c at q ≡ child p ks at q
        link_is q = next_is_side c at q root_is

        -- no key left
        pub ends : next_key c at key ≡ 0 → record { standing = None; blocks = met } ≡ looked_up_after c (earlier last before) key
        unfolding looked_up_after
        ends e =
            let none : side key (rest c at) ≡ leaf =
            sym (side_is α p wide ks rising positive at here key)
            ∙ ap (λ (k : ℕ). subtree k t) (sym (link_is key) ∙ e)
            ∙ zero_subtree t (positive_in_tree α p wide ks rising positive)
            in
            let all : met ≡ newly_met c (earlier last before) key = omega (arith, passed [] (on ∙ ap (λ (z : Tree). root_key (rest c at) ∷ path key z) none)) in
            rw (sym held_on ∙ ap (λ (z : Tree). member key (keys z)) none, all)

        -- ---- the key that is compared next
        module _ (next : ℕ) (link : next ≡ next_key c at key) (linked : next ≢ 0) where
          is_child : next ≡ child p ks at key
          is_child = link ∙ link_is key

          some_child : child p ks at key ≢ 0
          some_child e = linked (is_child ∙ e)

          pub next_held : member next ks ≡ true
          next_held = link_held at here key next link linked

          beyond : rest c next ≡ side key (rest c at)
          beyond = ap (λ (k : ℕ). subtree k t) is_child ∙ side_is α p wide ks rising positive at here key

          pub smaller : size (rest c next) < size (rest c at)
          smaller = rw beyond (side_smaller (rest c at) key some_left)

          -- the searches that come by it
          along_on : (q : ℕ) → 1 ≤ q → q ≤ pred key → member next (path q t) ≡ ltb (low_after low at key) q
          unfolding low_after
          along_on q h k =
              let by : member next (path q t) ≡ member (child p ks at key) (path q t) = ap (λ (x : ℕ). member x (path q t)) is_child in
              by_test (ltb at key)
              (λ f.
              let less : at < key = ltb-true at key f in
              let under : low < at = ltb-true low at (sym (now.along at (all_member (λ x. 1 ≤ x) ks at positive here) (omega arith)) ∙ own_path α p wide ks rising positive at here) in
              rw f
              (by
              ∙ same_test (member (child p ks at key) (path q t)) (ltb at q)
              (λ e.
              let (_, d, s) = comes_by α p wide ks rising positive at here key some_child q e in
              let high = ltb-false q at (s ∙ le-ltb key at (omega arith)) in
              lt-ltb at q (omega (arith, d)))
              (λ e.
              let high = ltb-true at q e in
              goes_by α p wide ks rising positive at here key some_child q (now.along q h k ∙ lt-ltb low q (omega arith)) (λ z. omega arith)
              (le-ltb q at (omega arith) ∙ sym (le-ltb key at (omega arith))))))
              (λ f.
              let high : key < at = let z = ltb-false at key f in omega (arith, other) in
              rw f
              (by
              ∙ same_test (member (child p ks at key) (path q t)) (ltb low q)
              (λ e. sym (now.along q h k) ∙ (comes_by α p wide ks rising positive at here key some_child q e).0)
              (λ e.
              goes_by α p wide ks rising positive at here key some_child q (now.along q h k ∙ e) (λ z. omega arith)
              (lt-ltb q at (omega arith) ∙ sym (lt-ltb key at high)))))

          module _ (below : ℕ) (its : below ≡ block_level α p ks next) where
            -- it is in a block that counts where the code says so
            decides : new_block c at low (other_than at last before) level below ≡ new (block_level α p ks) (passes c last before) level next
            unfolding new_block
            decides =
                by_test (eqb below level)
                (λ e. rw (e, sym its, e) refl)
                (λ e.
                rw (e, sym its, e)
                (ap not
                (ap (λ (x : ℕ). ltb low (other_than at last before) && of_level α p ks below x) (link_is (other_than at last before))
                ∙ sym
                (met_before α p wide ks rising positive at here below key last before low (ap (of_level α p ks below) (sym is_child) ∙ on_its_level c next below linked its) first second now.along some_child (its ∙ ap (block_level α p ks) is_child)
                (λ z. eqb-false below level e (z ∙ sym now.level_is)))
                ∙ ap (λ (x : ℕ). some (λ k. meets α p ks k (block_of α p ks x)) (earlier last before)) (sym is_child))))

            pub goes_on : (more : ℕ) → Counted (new_block c at low (other_than at last before) level below) met more
                → Searching c key last before next below (low_after low at key) more
            goes_on more count =
                record {
                  held_here = next_held;
                  level_is = its;
                  held = ap (λ (z : Tree). member key (keys z)) beyond ∙ held_on;
                  along = along_on;
                  counted = counted_next more (subst (λ b. Counted b met more) decides count) (path_begins (side key (rest c at)) key some_child);
                  few = omega (arith, smaller, now.few, counted_most (new_block c at low (other_than at last before) level below) met more count);
                }
              where
                counted_next : (more : ℕ) → Counted (new (block_level α p ks) (passes c last before) level next) met more → (zs : List ℕ) × (path key (side key (rest c at)) ≡ child p ks at key ∷ zs)
                    → more + ahead c last before below (path key (rest c next)) ≡ newly_met c (earlier last before) key
                counted_next more count (zs, begins) =
                    let way : path key (side key (rest c at)) ≡ next ∷ zs = begins ∙ ap (λ (x : ℕ). x ∷ zs) (sym is_child) in
                    ap (λ (z : Tree). more + ahead c last before below (path key z)) beyond
                    ∙ ap (λ (ys : List ℕ). more + ahead c last before below ys) way
                    ∙ ap (λ (n : ℕ). more + n) (changes_same (block_level α p ks) (passes c last before) below next zs (sym its))
                    ∙ counted_on (block_level α p ks) (passes c last before) level next met more zs count
                    ∙ ap (λ (ys : List ℕ). met + ahead c last before level ys) (sym way)
                    ∙ passed (path key (side key (rest c at))) on
