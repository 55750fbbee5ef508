-- Walking the blocks of an image: the entries of the blocks passed are collected, and those to come are read from here on. Assumes
-- nothing.
use mathlib.Core.Bool.{Bool, true, false, ◌&&◌}
use mathlib.Core.List.{List, [], ◌++◌, map, map-append, append_assoc, append-nil}
use mathlib.Core.Path.{◌≡◌, refl, sym, ap, ap₂, ◌∙◌}
use Prim.Native.Nat.{ℕ, suc, ◌+◌, ◌-◌, ◌<◌, ◌≤◌}
use native.Mathlib.Omega.{arith}
use Rattle.std.proofs.Common.{Some, None}
use lib.Dec.{leb}
use lib.ListN.{length, drop, length-append, length-drop, length-map}
use lib.Seq.{drop-drop}
use borrow.Author.Tests.{le-leb, lt-leb}
use Rattle.lists.specs.Lists.{overwrite}
use Rattle.lists.proofs.Tests.{true_or_false, and_false_right, and_both}
use Rattle.lists.proofs.Overwrite.{overwrite_none, overwrite-length}
use Rattle.lists.proofs.Parts.{overwrite_next}
use Rattle.measure.specs.Tag.{tag_of}
use Rattle.treap.specs.Image.{count_bytes}
use Rattle.table.specs.Contents.{Entry, entry_keys}
use Rattle.table.specs.Tags.{entry_tags}
use Rattle.image.specs.Layout.{block_bytes, held_at}
use Rattle.image.specs.Image.{header_span, field_at, node_entries, nodes_span, block_entries}
use Rattle.image_collect.specs.Reading.{are_nodes, intact, blocks_of, entries_of, readable, collected}
use Rattle.image_collect.proofs.Nodes.{entries_number, nodes_inside}
use Rattle.image_collect.proofs.Passing.{field_from}

-- a block's entries written down after those of the blocks before it
written_next : (f : Entry → ℕ) (before list : List ℕ) (n : ℕ) (done : List Entry) → list ≡ overwrite before 0 (map f done) → n ≡ length done
    → (new : List Entry) → n + length new ≤ length before → (after : List ℕ) → after ≡ overwrite list n (map f new)
    → after ≡ overwrite before 0 (map f (done ++ new))
written_next f before list n done holds many new fits after e =
    let first = length-map done f in
    let second = length-map new f in
    e
    ∙ ap (λ (l : List ℕ). overwrite l n (map f new)) holds
    ∙ overwrite_next 0 n (map f done) before (omega arith) (omega arith) (map f new) (omega arith)
    ∙ ap (overwrite before 0) (sym (map-append f done new))

module _ (bytes keys-before tags-before : List ℕ) where
  -- The entries of the first `j` blocks stand in `keys` and `tags`, `n` of them; the next block begins at byte `at`.
  pub record Walked (keys tags : List ℕ) (at n j : ℕ) : Type 0 where
    pub done : List Entry
    pub upto : j ≤ blocks_of bytes
    pub within : at ≤ length bytes
    pub count : n ≡ length done
    pub fits : n ≤ length keys-before
    pub entries_rest : entries_of bytes ≡ done ++ block_entries (blocks_of bytes - j) (drop at bytes)
    pub intact_rest : intact (blocks_of bytes) (drop (header_span bytes) bytes) ≡ intact (blocks_of bytes - j) (drop at bytes)
    pub keys_hold : keys ≡ overwrite keys-before 0 (entry_keys done)
    pub tags_hold : tags ≡ overwrite tags-before 0 (entry_tags done)

  -- ---- what is answered of records that cannot be read
  pub broken : readable (length keys-before) bytes ≡ false → None ≡ collected (length keys-before) bytes
  unfolding collected
  broken e = rw e

  pub claims_nothing : readable (length keys-before) bytes ≡ false → {P : Type 0} → readable (length keys-before) bytes ≡ true → P
  claims_nothing e t = absurd (true_or_false (readable (length keys-before) bytes) t e)

  pub no_header : length bytes < header_span bytes → readable (length keys-before) bytes ≡ false
  unfolding readable
  no_header h = rw (lt-leb (header_span bytes) (length bytes) h)

  not_intact : header_span bytes ≤ length bytes → intact (blocks_of bytes) (drop (header_span bytes) bytes) ≡ false → readable (length keys-before) bytes ≡ false
  unfolding readable
  not_intact h e = rw (le-leb (header_span bytes) (length bytes) h, e)

  module _ (header : header_span bytes ≤ length bytes) (as_long : length tags-before ≡ length keys-before) where
    pub walked_none : (at : ℕ) → at ≡ header_span bytes → Walked keys-before tags-before at 0 0
    unfolding entries_of
    walked_none at e =
        let all : blocks_of bytes - 0 ≡ blocks_of bytes = omega arith in
        record {
          done = [];
          upto = omega arith;
          within = omega (arith, header);
          count = refl;
          fits = omega arith;
          entries_rest = ap₂ (λ (m from : ℕ). block_entries m (drop from bytes)) (sym all) (sym e);
          intact_rest = ap₂ (λ (m from : ℕ). intact m (drop from bytes)) (sym all) (sym e);
          keys_hold = sym (overwrite_none keys-before 0);
          tags_hold = sym (overwrite_none tags-before 0);
        }

    module _ {keys tags : List ℕ} {at n j : ℕ} (s : Walked keys tags at n j) where
      pub keys_size : length keys ≡ length keys-before
      keys_size = ap length s.keys_hold ∙ overwrite-length keys-before 0 (entry_keys s.done) (omega (arith, s.count, s.fits, length-map s.done (λ e. e.key)))

      pub tags_size : length tags ≡ length tags-before
      tags_size = ap length s.tags_hold ∙ overwrite-length tags-before 0 (entry_tags s.done) (omega (arith, s.count, s.fits, length-map s.done (λ e. tag_of e.measure)))

      -- ---- a block more
      module _ (more : j < blocks_of bytes) (held : ℕ) (held_is : held ≡ field_at (at + held_at) count_bytes bytes) where
        left : ℕ
        left = blocks_of bytes - suc j

        rest_blocks : blocks_of bytes - j ≡ suc left
        unfolding left
        rest_blocks = omega arith

        here : field_at held_at count_bytes (drop at bytes) ≡ held
        here = field_from at held_at count_bytes bytes ∙ sym held_is

        -- the block's node records, and what comes after them
        abbrev nodes : List ℕ
        nodes = drop (at + block_bytes) bytes

        abbrev later : List ℕ
        later = drop (at + block_bytes + nodes_span held nodes) bytes

        to_nodes : drop block_bytes (drop at bytes) ≡ nodes
        to_nodes = drop-drop block_bytes at bytes

        to_later : drop (nodes_span held nodes) nodes ≡ later
        to_later = drop-drop (nodes_span held nodes) (at + block_bytes) bytes

        rest_entries : block_entries (blocks_of bytes - j) (drop at bytes) ≡ node_entries held nodes ++ block_entries left later
        rest_entries =
            ap (λ (m : ℕ). block_entries m (drop at bytes)) rest_blocks
            ∙ ap₂ (λ (m : ℕ) (l : List ℕ). node_entries m l ++ block_entries left (drop (nodes_span m l) l)) here to_nodes
            ∙ ap (λ (l : List ℕ). node_entries held nodes ++ block_entries left l) to_later

        rest_intact : intact (blocks_of bytes) (drop (header_span bytes) bytes) ≡ (leb block_bytes (length (drop at bytes)) && (are_nodes held nodes && intact left later))
        rest_intact =
            s.intact_rest
            ∙ ap (λ (m : ℕ). intact m (drop at bytes)) rest_blocks
            ∙ ap₂ (λ (m : ℕ) (l : List ℕ). leb block_bytes (length (drop at bytes)) && (are_nodes m l && intact left (drop (nodes_span m l) l))) here to_nodes
            ∙ ap (λ (l : List ℕ). leb block_bytes (length (drop at bytes)) && (are_nodes held nodes && intact left l)) to_later

        pub short : length bytes - at < block_bytes → readable (length keys-before) bytes ≡ false
        short h =
            not_intact header
            (rest_intact ∙ ap (λ (b : Bool). b && (are_nodes held nodes && intact left later)) (lt-leb block_bytes (length (drop at bytes)) (omega (arith, length-drop at bytes))))

        pub no_nodes : are_nodes held nodes ≡ false → readable (length keys-before) bytes ≡ false
        no_nodes e =
            not_intact header
            (rest_intact ∙ and_false_right (leb block_bytes (length (drop at bytes))) _ (ap (λ (b : Bool). b && intact left later) e))

        pub too_many : length keys-before - n < held → readable (length keys-before) bytes ≡ false
        unfolding readable
        too_many h =
            let these = node_entries held nodes in
            let others = block_entries left later in
            let many : length (entries_of bytes) ≡ length s.done + (length these + length others) =
            ap length (s.entries_rest ∙ ap (λ (es : List Entry). s.done ++ es) rest_entries)
            ∙ length-append s.done (these ++ others)
            ∙ ap (λ (m : ℕ). length s.done + m) (length-append these others)
            in
            and_false_right (leb (header_span bytes) (length bytes)) _
            (and_false_right (intact (blocks_of bytes) (drop (header_span bytes) bytes)) (leb (length (entries_of bytes)) (length keys-before))
            (lt-leb (length (entries_of bytes)) (length keys-before) (omega (arith, many, s.count, s.fits, entries_number held nodes))))

        pub walked_more : block_bytes ≤ length bytes - at → held ≤ length keys-before - n → are_nodes held nodes ≡ true
            → (keys-after tags-after : List ℕ) → keys-after ≡ overwrite keys n (entry_keys (node_entries held nodes)) → tags-after ≡ overwrite tags n (entry_tags (node_entries held nodes))
            → (span : ℕ) → span ≡ nodes_span held nodes → Walked keys-after tags-after (at + block_bytes + span) (n + held) (suc j)
        unfolding left
        walked_more inside room right keys-after tags-after keys_are tags_are span ends =
            let these = node_entries held nodes in
            let many = entries_number held nodes in
            let both = length-append s.done these in
            let end : later ≡ drop (at + block_bytes + span) bytes = ap (λ (m : ℕ). drop (at + block_bytes + m) bytes) (sym ends) in
            record {
              done = s.done ++ these;
              upto = more;
              within = omega (arith, s.within, ends, nodes_inside held nodes right, length-drop (at + block_bytes) bytes);
              count = omega (arith, s.count);
              fits = omega (arith, s.fits);
              entries_rest =
                  s.entries_rest
                  ∙ ap (λ (es : List Entry). s.done ++ es) rest_entries
                  ∙ sym (append_assoc s.done these (block_entries left later))
                  ∙ ap (λ (l : List ℕ). (s.done ++ these) ++ block_entries left l) end;
              intact_rest =
                  rest_intact
                  ∙ ap₂ (λ (b d : Bool). b && (d && intact left later)) (le-leb block_bytes (length (drop at bytes)) (omega (arith, length-drop at bytes))) right
                  ∙ ap (intact left) end;
              keys_hold = written_next (λ e. e.key) keys-before keys n s.done s.keys_hold s.count these (omega (arith, s.fits)) keys-after keys_are;
              tags_hold = written_next (λ e. tag_of e.measure) tags-before tags n s.done s.tags_hold s.count these (omega (arith, s.fits)) tags-after tags_are;
            }

      -- ---- no block more
      module _ (end : blocks_of bytes ≤ j) where
        none_left : blocks_of bytes - j ≡ 0
        none_left = omega (arith, s.upto)

        all_done : entries_of bytes ≡ s.done
        all_done = s.entries_rest ∙ ap (λ (m : ℕ). s.done ++ block_entries m (drop at bytes)) none_left ∙ append-nil s.done

        can_be_read : readable (length keys-before) bytes ≡ true
        unfolding readable
        can_be_read =
            and_both (leb (header_span bytes) (length bytes)) _ (le-leb (header_span bytes) (length bytes) header)
            (and_both (intact (blocks_of bytes) (drop (header_span bytes) bytes)) (leb (length (entries_of bytes)) (length keys-before))
            (s.intact_rest ∙ ap (λ (m : ℕ). intact m (drop at bytes)) none_left)
            (le-leb (length (entries_of bytes)) (length keys-before) (omega (arith, ap length all_done, s.count, s.fits))))

        pub all_collected : (Some n ≡ collected (length keys-before) bytes) × (keys ≡ overwrite keys-before 0 (entry_keys (entries_of bytes))) × (tags ≡ overwrite tags-before 0 (entry_tags (entries_of bytes)))
        unfolding collected
        all_collected = (
          rw can_be_read (ap Some (s.count ∙ sym (ap length all_done))),
          s.keys_hold ∙ ap (λ (es : List Entry). overwrite keys-before 0 (entry_keys es)) (sym all_done),
          s.tags_hold ∙ ap (λ (es : List Entry). overwrite tags-before 0 (entry_tags es)) (sym all_done),
        )
