-- The whole image from its header and its blocks: its length, and that it is written once they are. Assumes nothing.
use mathlib.Core.Bool.{Bool, true, false, cond}
use mathlib.Core.List.{List, [], ◌∷◌, ◌++◌, flat_map}
use mathlib.Core.Path.{◌≡◌, refl, ap, ap₂, ◌∙◌}
use Prim.Native.Nat.{ℕ, suc, ◌+◌, ◌*◌, ◌≤◌}
use native.Mathlib.Omega.{arith}
use lib.ListN.{length, get_or, length-append}
use Rattle.lists.specs.Lists.{keep, overwrite, join_run, runs}
use Rattle.lists.proofs.Keep.{length-keep}
use Rattle.lists.proofs.Parts.{overwrite_next}
use Rattle.measure.specs.Tag.{length_in}
use Rattle.treap.specs.Image.{header_record}
use Rattle.lists.proofs.FlatMap.{length-flat_map_headed}
use Rattle.image.specs.Layout.{head_bytes, block_bytes, node_bytes, measure_bytes}
use Rattle.treap_columns.specs.declared.Columns.{Columns}
use Rattle.table_encode.specs.Encode.{key_at}
use Rattle.image.specs.Image.{salted}
use Rattle.image.proofs.PartLengths.{nodes_length}
use Rattle.image.proofs.Records.{header_length}
use Rattle.image_blocks.specs.Naming.{same_weight}
use Rattle.image_parts.specs.Parts.{node_at, measured_at, block_at, blocks_at, image_at}
use Rattle.image_parts.proofs.Nodes.{node_at_length, block_at_length}

-- ---- runs: together they are the list, and they are no more than its elements
module _ (alike : ℕ → ℕ → Bool) where
  joined_whole : (x : ℕ) (rs : List (List ℕ)) → flat_map (λ r. r) (join_run alike x rs) ≡ x ∷ flat_map (λ r. r) rs
  unfolding flat_map
  joined_whole x [] = refl
  joined_whole x ([] ∷ rs) = refl
  joined_whole x ((y ∷ r) ∷ rs) = by (alike x y)
    where
      by : (b : Bool) → flat_map (λ s. s) (cond b ((x ∷ y ∷ r) ∷ rs) ((x ∷ []) ∷ (y ∷ r) ∷ rs)) ≡ x ∷ (y ∷ r) ++ flat_map (λ s. s) rs
      by true = refl
      by false = refl

  pub runs_whole : (xs : List ℕ) → flat_map (λ r. r) (runs alike xs) ≡ xs
  unfolding flat_map
  runs_whole [] = refl
  runs_whole (x ∷ xs) = joined_whole x (runs alike xs) ∙ ap (λ (ys : List ℕ). x ∷ ys) (runs_whole xs)

  joined_few : (x : ℕ) (rs : List (List ℕ)) → length (join_run alike x rs) ≤ suc (length rs)
  joined_few x [] = omega arith
  joined_few x ([] ∷ rs) = omega arith
  joined_few x ((y ∷ r) ∷ rs) = by (alike x y)
    where
      by : (b : Bool) → length (cond b ((x ∷ y ∷ r) ∷ rs) ((x ∷ []) ∷ (y ∷ r) ∷ rs)) ≤ suc (suc (length rs))
      by true = omega arith
      by false = omega arith

  pub runs_few : (xs : List ℕ) → length (runs alike xs) ≤ length xs
  runs_few [] = omega arith
  runs_few (x ∷ xs) = omega (arith, joined_few x (runs alike xs), runs_few xs)

module _ (order salt : ℕ) (keys tags : List ℕ) (root : ℕ) (c : Columns) (weights sorted : List ℕ) where
  abbrev node : ℕ → List ℕ
  node = node_at keys tags c

  -- ---- lengths
  blocks_length : length (blocks_at keys tags root c weights sorted)
      ≡ block_bytes * length (runs (same_weight weights) sorted) + node_bytes * length sorted + measure_bytes * length (keep (measured_at tags) sorted)
  unfolding blocks_at measured_at
  blocks_length =
      omega (
        arith,
        length-flat_map_headed node block_bytes (block_at keys tags root c) (λ r. r) (block_at_length keys tags root c) (runs (same_weight weights) sorted),
        ap (λ (xs : List ℕ). length (flat_map node xs)) (runs_whole (same_weight weights) sorted),
        nodes_length node (λ i. length_in (get_or tags i 0)) (node_at_length keys tags c) sorted,
      )

  module _ (head blocks measured : ℕ) (headed-by : head ≡ head_bytes salt) (counted : blocks ≡ length (runs (same_weight weights) sorted)) (found : measured ≡ length (keep (measured_at tags) sorted)) (all : length sorted ≡ length keys) where
    abbrev size : ℕ
    size = head + block_bytes * blocks + node_bytes * length keys + measure_bytes * measured

    pub image_at_length : size ≡ length (image_at order salt keys tags root c weights sorted)
    unfolding image_at
    image_at_length =
        let part = salted salt (header_record order (length keys) (length (runs (same_weight weights) sorted)) (key_at keys root)) in
        omega (arith, blocks_length, length-append part (blocks_at keys tags root c weights sorted), header_length salt order (length keys) (length (runs (same_weight weights) sorted)) (key_at keys root))

    pub blocks_few : blocks ≤ length keys
    blocks_few = omega (arith, runs_few (same_weight weights) sorted)

    pub measured_few : measured ≤ length keys
    measured_few = omega (arith, length-keep (measured_at tags) sorted)

    -- the blocks have room behind the header
    pub blocks_fit : (room : ℕ) → size ≤ room → head + length (blocks_at keys tags root c weights sorted) ≤ room
    blocks_fit room h = omega (arith, blocks_length)

    -- ---- the header, then the blocks
    pub image_written : (before headed output : List ℕ) (top : ℕ) → top ≡ key_at keys root → size ≤ length before
        → headed ≡ overwrite before 0 (salted salt (header_record order (length keys) blocks top))
        → output ≡ overwrite headed head (blocks_at keys tags root c weights sorted)
        → output ≡ overwrite before 0 (image_at order salt keys tags root c weights sorted)
    unfolding image_at
    image_written before headed output top e room h o =
        let part = salted salt (header_record order (length keys) blocks top) in
        let rest = blocks_at keys tags root c weights sorted in
        o
        ∙ ap (λ (xs : List ℕ). overwrite xs head rest) h
        ∙ overwrite_next 0 head part before (omega (arith, header_length salt order (length keys) blocks top)) (omega arith) rest (omega (arith, blocks_length))
        ∙ ap₂ (λ (b r : ℕ). overwrite before 0 (salted salt (header_record order (length keys) b r) ++ rest)) counted e
