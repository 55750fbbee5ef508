-- The blocks are the runs of the keys in the image's order: neighbours whose blocks have the same name are in the same block.
-- Assumes an order of at least 2 and rising keys.
use mathlib.Core.Bool.{true, false}
use mathlib.Core.List.{List, [], ◌∷◌, ◌++◌, map}
use mathlib.Core.Path.{◌≡◌, refl, sym, ap, ap₂, ◌∙◌}
use Prim.Native.Nat.{ℕ, ◌<◌, ◌≤◌}
use native.Mathlib.Omega.{arith}
use lib.ListN.{length, get_or}
use Rattle.lists.specs.Lists.{All, Pairwise, Rising, sort_by, runs}
use Rattle.lists.proofs.Keep.{all_map, all_mapped, all_both}
use Rattle.lists.proofs.Pairwise.{pairwise_map, pairwise_mapped}
use Rattle.lists.proofs.FlatMap.{flat_map_mapped}
use Rattle.lists.proofs.Runs.{Alike, Apart, AllApart, NotFirst, runs_of_parts, runs_next}
use Rattle.treap.specs.Blocks.{Block, blocks}
use Rattle.treap_structure.proofs.Blocks.{block_level}
use Rattle.lists.proofs.Precedence.{agree_when, agree_similar, agree_differs}
use Rattle.image.proofs.ImageOrder.{block_leader, before, same_block, Named, NameBefore, blocks_named, blocks_ordered, blocks_some, image_order}
use Rattle.image.proofs.ImageOrder.NameBefore.{higher, lesser}

-- The block that holds these keys, named by the first of them.
unfoldable pub block_from : ℕ → (ℕ → ℕ) → List ℕ → List ℕ → Block
block_from α p ks run = record { leader_key = block_leader α p ks (get_or run 0 0); level = block_level α p ks (get_or run 0 0); held = run }

module _ (α : ℕ) (p : ℕ → ℕ) (ks : List ℕ) where
  -- what is in the same block as a key is in the same blocks with any other
  pub same_block_similar : (x y z : ℕ) → Alike (same_block α p ks) x y → same_block α p ks x z ≡ same_block α p ks y z
  unfolding same_block
  same_block_similar = agree_similar (block_level α p ks) (block_leader α p ks)

  pub same_block_when : (x y : ℕ) → block_level α p ks x ≡ block_level α p ks y → block_leader α p ks x ≡ block_leader α p ks y → same_block α p ks x y ≡ true
  unfolding same_block
  same_block_when = agree_when (block_level α p ks) (block_leader α p ks)

  pub same_block_differs : (x y : ℕ) → (block_level α p ks x ≡ block_level α p ks y → block_leader α p ks x ≡ block_leader α p ks y → ⊥) → same_block α p ks x y ≡ false
  unfolding same_block
  same_block_differs = agree_differs (block_level α p ks) (block_leader α p ks)

  -- as long as keys are in the block of the run's first, they belong to its run
  pub runs_of_block : (x : ℕ) (xs ys : List ℕ) → All (Alike (same_block α p ks) x) xs → NotFirst (same_block α p ks) x ys
      → runs (same_block α p ks) ((x ∷ xs) ++ ys) ≡ (x ∷ xs) ∷ runs (same_block α p ks) ys
  runs_of_block = runs_next (same_block α p ks) same_block_similar

  -- a block that holds keys with its name is the one that they make
  block_again : (b : Block) → 0 < length b.held → All (Named α p ks b) b.held → block_from α p ks b.held ≡ b
  unfolding block_from
  block_again b some named = go b.held refl some named
    where
      go : (xs : List ℕ) → b.held ≡ xs → 0 < length xs → All (Named α p ks b) xs → block_from α p ks b.held ≡ b
      go [] e h n = absurd (omega arith)
      go (x ∷ xs) e h n =
          let at : get_or b.held 0 0 ≡ x = ap (λ (ys : List ℕ). get_or ys 0 0) e in
          let same-leader : block_leader α p ks (get_or b.held 0 0) ≡ b.leader_key = ap (block_leader α p ks) at ∙ n.0.with_leader in
          let same_level : block_level α p ks (get_or b.held 0 0) ≡ b.level = ap (block_level α p ks) at ∙ n.0.at_level in
          λ i. record { leader_key = same-leader i; level = same_level i; held = b.held }

  module _ (wide : 2 ≤ α) (rising : Rising ks) where
    held_alike : All (Pairwise (Alike (same_block α p ks))) (map (λ b. b.held) (blocks α p ks))
    held_alike =
        all_mapped (Pairwise (Alike (same_block α p ks))) (λ b. b.held) (blocks α p ks)
        (all_map (λ b. All (Named α p ks b) b.held) (λ b. Pairwise (Alike (same_block α p ks)) b.held) (λ b n. alike b b.held n) (blocks α p ks) (blocks_named α p wide ks rising))
      where
        alike : (b : Block) (xs : List ℕ) → All (Named α p ks b) xs → Pairwise (Alike (same_block α p ks)) xs
        alike b [] n = tt
        alike b (x ∷ xs) n = (
          all_map (Named α p ks b) (Alike (same_block α p ks) x) (λ y m. same_block_when x y (n.0.at_level ∙ sym m.at_level) (n.0.with_leader ∙ sym m.with_leader)) xs n.1,
          alike b xs n.1,
        )

    blocks_apart : Pairwise (AllApart (same_block α p ks)) (map (λ b. b.held) (blocks α p ks))
    blocks_apart =
        pairwise_mapped (AllApart (same_block α p ks)) (λ b. b.held) (blocks α p ks)
        (pairwise_map (λ b. All (Named α p ks b) b.held) NameBefore (λ b c. AllApart (same_block α p ks) b.held c.held)
        (λ b c n m l.
        all_map (Named α p ks b) (λ x. All (Apart (same_block α p ks) x) c.held)
        (λ x q. all_map (Named α p ks c) (Apart (same_block α p ks) x) (λ y r. apart b c x y l q r) c.held m) b.held n)
        (blocks α p ks) (blocks_named α p wide ks rising) (blocks_ordered α p wide ks rising))
      where
        apart : (b c : Block) (x y : ℕ) → NameBefore b c → Named α p ks b x → Named α p ks c y → same_block α p ks x y ≡ false
        apart b c x y (higher l) q r = same_block_differs x y (λ e i. omega arith)
        apart b c x y (lesser d l) q r = same_block_differs x y (λ e i. omega arith)

    pub held_runs : runs (same_block α p ks) (sort_by (before α p ks) ks) ≡ map (λ b. b.held) (blocks α p ks)
    held_runs =
        ap (runs (same_block α p ks)) (sym (image_order α p wide ks rising) ∙ sym (flat_map_mapped (λ r. r) (λ b. b.held) (blocks α p ks)))
        ∙ runs_of_parts (same_block α p ks) (map (λ b. b.held) (blocks α p ks))
        (all_mapped (λ r. 0 < length r) (λ b. b.held) (blocks α p ks) (blocks_some α p wide ks rising)) held_alike blocks_apart

    pub blocks_are_runs : blocks α p ks ≡ map (block_from α p ks) (runs (same_block α p ks) (sort_by (before α p ks) ks))
    blocks_are_runs =
        sym
        (ap (map (block_from α p ks)) held_runs
        ∙ again (blocks α p ks) (all_both (λ b. 0 < length b.held) (λ b. All (Named α p ks b) b.held) (blocks α p ks) (blocks_some α p wide ks rising) (blocks_named α p wide ks rising)))
      where
        again : (bs : List Block) → All (λ b. (0 < length b.held) × All (Named α p ks b) b.held) bs → map (block_from α p ks) (map (λ b. b.held) bs) ≡ bs
        again [] h = refl
        again (b ∷ bs) h = ap₂ (λ (c : Block) (cs : List Block). c ∷ cs) (block_again b h.0.0 h.0.1) (again bs h.1)
