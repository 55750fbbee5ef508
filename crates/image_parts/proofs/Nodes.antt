-- The records of keys, one after the other, and the part of a block: the invariant of `put_keys`, its steps and its end.
-- Assumes nothing.
use mathlib.Core.List.{List, [], ◌∷◌, ◌++◌, flat_map, append-nil}
use mathlib.Core.Path.{◌≡◌, refl, sym, ap, ap₂, ◌∙◌}
use Prim.Native.Nat.{ℕ, ◌+◌, ◌<◌, ◌≤◌}
use native.Mathlib.Numerals.{add-one}
use native.Mathlib.Omega.{arith}
use lib.ListN.{length, get_or, take, drop, length-append}
use lib.Seq.{take_all, take-suc}
use Rattle.std.proofs.lemmas.List.{take-append-drop}
use Rattle.lists.specs.Lists.{overwrite}
use Rattle.lists.proofs.FlatMap.{flat_map-append}
use Rattle.lists.proofs.Overwrite.{overwrite_none, overwrite-length}
use Rattle.lists.proofs.Parts.{overwrite_next}
use Rattle.measure.specs.Tag.{length_in, stored_in}
use Rattle.treap.specs.Image.{block_record, node_record}
use Rattle.image.specs.Layout.{block_bytes, record_bytes}
use Rattle.treap_columns.specs.declared.Columns.{Columns}
use Rattle.table_encode.specs.Encode.{key_at}
use Rattle.image.proofs.Records.{block_length, node_length}
use Rattle.image_blocks.specs.Naming.{level_at, leader_at}
use Rattle.image_parts.specs.Parts.{node_at, block_at}

-- The record of the key at an index, from the links and the parts of its tag that were looked up.
pub node_is : (keys tags : List ℕ) (c : Columns) (i l r long stored : ℕ) → l ≡ key_at keys (get_or c.left i 0) → r ≡ key_at keys (get_or c.right i 0)
    → long ≡ length_in (get_or tags i 0) → stored ≡ stored_in (get_or tags i 0)
    → node_record (get_or keys i 0) l r (get_or c.rank i 0) (get_or c.count i 0) long stored ≡ node_at keys tags c i
unfolding node_at
node_is keys tags c i l r long stored e f g h =
    ap₂ (λ (x y : ℕ). node_record (get_or keys i 0) x y (get_or c.rank i 0) (get_or c.count i 0) long stored) e f
    ∙ ap₂ (λ (x y : ℕ). node_record (get_or keys i 0) (key_at keys (get_or c.left i 0)) (key_at keys (get_or c.right i 0)) (get_or c.rank i 0) (get_or c.count i 0) x y) g h

module _ (keys tags : List ℕ) (c : Columns) where
  abbrev node : ℕ → List ℕ
  node = node_at keys tags c

  pub node_at_length : (i : ℕ) → length (node i) ≡ record_bytes (length_in (get_or tags i 0))
  unfolding node_at
  node_at_length i =
      node_length (get_or keys i 0) (key_at keys (get_or c.left i 0)) (key_at keys (get_or c.right i 0)) (get_or c.rank i 0) (get_or c.count i 0) (length_in (get_or tags i 0)) (stored_in (get_or tags i 0))

  -- the same from a length that was looked up
  pub node_bytes_are : (i long : ℕ) → long ≡ length_in (get_or tags i 0) → record_bytes long ≡ length (node i)
  node_bytes_are i long e = ap record_bytes e ∙ sym (node_at_length i)

  -- The output once the records of the first j keys of a run are written, up to byte `next`.
  pub record KeysPut (run before : List ℕ) (at : ℕ) (output : List ℕ) (next j : ℕ) : Type 0 where
    pub size : length output ≡ length before
    pub here : next ≡ at + length (flat_map (node_at keys tags c) (take j run))
    pub holds : output ≡ overwrite before at (flat_map (node_at keys tags c) (take j run))

  module _ (run before : List ℕ) (at : ℕ) where
    abbrev done : ℕ → List ℕ
    done j = flat_map node (take j run)

    pub keys_none : KeysPut run before at before at 0
    unfolding flat_map
    keys_none = record { size = refl; here = omega arith; holds = sym (overwrite_none before at) }

    module _ (output : List ℕ) (next j : ℕ) (put : KeysPut run before at output next j) where
      module _ (h : j < length run) where
        done_more : done (j + 1) ≡ done j ++ node (get_or run j 0)
        unfolding flat_map
        done_more =
            ap (λ (i : ℕ). flat_map node (take i run)) (add-one j)
            ∙ ap (flat_map node) (take-suc run j 0 h)
            ∙ flat_map-append node (take j run) (get_or run j 0 ∷ [])
            ∙ ap (λ (xs : List ℕ). done j ++ xs) (append-nil (node (get_or run j 0)))

        -- the next record ends before all do
        pub keys_room : next + length (node (get_or run j 0)) ≤ at + length (flat_map node run)
        keys_room =
            let here = put.here in
            let rest = flat_map node (drop (j + 1) run) in
            let parts : flat_map node run ≡ done (j + 1) ++ rest =
            ap (flat_map node) (sym (take-append-drop (j + 1) run)) ∙ flat_map-append node (take (j + 1) run) (drop (j + 1) run)
            in
            omega (arith, ap length parts, length-append (done (j + 1)) rest, ap length done_more, length-append (done j) (node (get_or run j 0)))

        pub keys_more : at + length (flat_map node run) ≤ length before
            → KeysPut run before at (overwrite output next (node (get_or run j 0))) (next + length (node (get_or run j 0))) (j + 1)
        keys_more room =
            let here = put.here in
            let same = put.size in
            let new = node (get_or run j 0) in
            let fits = keys_room in
            record {
              size = overwrite-length output next new (omega arith) ∙ same;
              here = omega (arith, ap length done_more, length-append (done j) new);
              holds =
                  ap (λ (xs : List ℕ). overwrite xs next new) put.holds
                  ∙ overwrite_next at next (done j) before (omega arith) (omega arith) new (omega arith)
                  ∙ ap (overwrite before at) (sym done_more);
            }

      pub keys_all : length run ≤ j → (next ≡ at + length (flat_map node run)) × (output ≡ overwrite before at (flat_map node run))
      keys_all h =
          let whole : flat_map node (take j run) ≡ flat_map node run = ap (flat_map node) (take_all j run h) in
          (put.here ∙ ap (λ (xs : List ℕ). at + length xs) whole, put.holds ∙ ap (overwrite before at) whole)

-- ---- a block's record and those of its keys
module _ (keys tags : List ℕ) (root : ℕ) (c : Columns) where
  abbrev nodes : List ℕ → List ℕ
  nodes run = flat_map (node_at keys tags c) run

  pub block_at_length : (run : List ℕ) → length (block_at keys tags root c run) ≡ block_bytes + length (nodes run)
  unfolding block_at
  block_at_length run =
      let first = get_or run 0 0 in
      let name = key_at keys (leader_at root c.leader first) in
      length-append (block_record name (level_at root c.rank first) (length run)) (nodes run)
      ∙ omega (arith, block_length name (level_at root c.rank first) (length run))

  pub part_written : (run before named output : List ℕ) (at name level : ℕ)
      → at + length (block_at keys tags root c run) ≤ length before
      → level ≡ level_at root c.rank (get_or run 0 0)
      → name ≡ key_at keys (leader_at root c.leader (get_or run 0 0))
      → named ≡ overwrite before at (block_record name level (length run))
      → output ≡ overwrite named (at + block_bytes) (nodes run)
      → output ≡ overwrite before at (block_at keys tags root c run)
  unfolding block_at
  part_written run before named output at name level room el en n o =
      let block_long = block_length name level (length run) in
      let long = block_at_length run in
      o
      ∙ ap (λ (xs : List ℕ). overwrite xs (at + block_bytes) (nodes run)) n
      ∙ overwrite_next at (at + block_bytes) (block_record name level (length run)) before (omega arith) (omega arith) (nodes run) (omega arith)
      ∙ ap₂ (λ (x y : ℕ). overwrite before at (block_record x y (length run) ++ nodes run)) en el
