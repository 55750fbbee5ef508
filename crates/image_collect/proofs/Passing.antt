-- Passing the node records of a block one by one: those passed are written down, and those to come are read from here on. Assumes
-- nothing.
use mathlib.Core.Bool.{Bool, true, false, cond, ◌&&◌}
use mathlib.Core.List.{List, [], ◌∷◌, ◌++◌, append_assoc, append-nil}
use mathlib.Core.Path.{◌≡◌, refl, sym, ap, ap₂, ◌∙◌}
use Prim.Native.Nat.{ℕ, suc, ◌+◌, ◌-◌, ◌<◌, ◌≤◌}
use native.Mathlib.Omega.{arith}
use Rattle.std.proofs.Common.{Some, None}
use Rattle.std.proofs.lemmas.Option.{cond_some}
use lib.ListN.{length, take, drop, set, length-append, length-drop, length-map}
use lib.Seq.{drop-drop, take_all}
use Rattle.lists.specs.Lists.{overwrite}
use Rattle.lists.proofs.Tests.{true_or_false}
use Rattle.lists.proofs.Overwrite.{overwrite_none, overwrite-length}
use Rattle.lists.proofs.Parts.{written_more}
use Rattle.measure.specs.Tag.{tag_of}
use Rattle.treap.specs.Image.{key_bytes}
use Rattle.table.specs.Contents.{Entry, entry_keys}
use Rattle.table.specs.Tags.{entry_tags}
use Rattle.image.specs.Layout.{key_at}
use Rattle.image.specs.Image.{header_span, number_of, field_at, node_span, entry_shown, node_entries, nodes_span}
use Rattle.image_collect.specs.Reading.{is_node, are_nodes, checked}
use Rattle.image_collect.proofs.Nodes.{node_inside}

-- ---- bytes from an index on
pub from_index : (at : ℕ) (bytes : List ℕ) → take (length bytes - at) (drop at bytes) ≡ drop at bytes
from_index at bytes = take_all (length bytes - at) (drop at bytes) (omega (arith, length-drop at bytes))

-- what follows the header, handed on as a part
pub from_header : (bytes : List ℕ) (head : ℕ) → head ≡ header_span bytes → take (length bytes - head) (drop head bytes) ≡ drop (header_span bytes) bytes
from_header bytes head e = from_index head bytes ∙ ap (λ (n : ℕ). drop n bytes) e

pub field_from : (from at width : ℕ) (bytes : List ℕ) → field_at at width (drop from bytes) ≡ field_at (from + at) width bytes
unfolding field_at
field_from from at width bytes = ap (λ (l : List ℕ). number_of (take width l)) (drop-drop at from bytes)

pub key_shown : (at : ℕ) (bytes : List ℕ) → field_at (at + key_at) key_bytes bytes ≡ (entry_shown (drop at bytes)).key
unfolding entry_shown
key_shown at bytes = sym (field_from at key_at key_bytes bytes)

-- ---- the loop
module _ (records : List ℕ) (keys-before tags-before : List ℕ) (held from : ℕ) where
  -- The first `i` records, of `held`, are passed and their keys and tags stand from index `from` on; the next record begins at byte `at`.
  pub record Passed (keys tags : List ℕ) (at i : ℕ) : Type 0 where
    pub done : List Entry
    pub upto : i ≤ held
    pub within : at ≤ length records
    pub count : length done ≡ i
    pub entries_rest : node_entries held records ≡ done ++ node_entries (held - i) (drop at records)
    pub nodes_rest : are_nodes held records ≡ are_nodes (held - i) (drop at records)
    pub span_rest : nodes_span held records ≡ at + nodes_span (held - i) (drop at records)
    pub keys_hold : keys ≡ overwrite keys-before from (entry_keys done)
    pub tags_hold : tags ≡ overwrite tags-before from (entry_tags done)

  pub passed_none : Passed keys-before tags-before 0 0
  passed_none =
      let all : held - 0 ≡ held = omega arith in
      record {
        done = [];
        upto = omega arith;
        within = omega arith;
        count = refl;
        entries_rest = ap (λ (m : ℕ). node_entries m records) (sym all);
        nodes_rest = ap (λ (m : ℕ). are_nodes m records) (sym all);
        span_rest = ap (λ (m : ℕ). nodes_span m records) (sym all) ∙ omega arith;
        keys_hold = sym (overwrite_none keys-before from);
        tags_hold = sym (overwrite_none tags-before from);
      }

  module _ (room : from + held ≤ length keys-before) (as_long : length tags-before ≡ length keys-before) where
    module _ {keys tags : List ℕ} {at i : ℕ} (s : Passed keys tags at i) where
      pub keys_size : length keys ≡ length keys-before
      keys_size = ap length s.keys_hold ∙ overwrite-length keys-before from (entry_keys s.done) (omega (arith, s.count, s.upto, length-map s.done (λ e. e.key)))

      pub tags_size : length tags ≡ length tags-before
      tags_size = ap length s.tags_hold ∙ overwrite-length tags-before from (entry_tags s.done) (omega (arith, s.count, s.upto, length-map s.done (λ e. tag_of e.measure)))

      -- ---- a record more
      module _ (more : i < held) where
        left : ℕ
        left = held - suc i

        rest_many : held - i ≡ suc left
        unfolding left
        rest_many = omega arith

        rest_nodes : are_nodes held records ≡ (is_node (drop at records) && are_nodes left (drop (at + node_span (drop at records)) records))
        rest_nodes =
            s.nodes_rest
            ∙ ap (λ (m : ℕ). are_nodes m (drop at records)) rest_many
            ∙ ap (λ (bytes : List ℕ). is_node (drop at records) && are_nodes left bytes) (drop-drop (node_span (drop at records)) at records)

        pub stops : is_node (drop at records) ≡ false → are_nodes held records ≡ false
        stops e = rest_nodes ∙ ap (λ (b : Bool). b && are_nodes left (drop (at + node_span (drop at records)) records)) e

        pub passed_more : is_node (drop at records) ≡ true → (key tag span : ℕ) → key ≡ (entry_shown (drop at records)).key → tag ≡ tag_of (entry_shown (drop at records)).measure
            → span ≡ node_span (drop at records) → Passed (set keys (from + i) key) (set tags (from + i) tag) (at + span) (suc i)
        unfolding left
        passed_more right key tag span key-is tag_is span-is =
            let here = drop at records in
            let shown = entry_shown here in
            let ends : at + node_span here ≡ at + span = ap (λ (n : ℕ). at + n) (sym span-is) in
            let next : drop (node_span here) here ≡ drop (at + span) records = drop-drop (node_span here) at records ∙ ap (λ (n : ℕ). drop n records) ends in
            record {
              done = s.done ++ (shown ∷ []);
              upto = more;
              within = omega (arith, node_inside here right, span-is, s.within, length-drop at records);
              count = length-append s.done (shown ∷ []) ∙ omega (arith, s.count);
              entries_rest =
                  s.entries_rest
                  ∙ ap (λ (m : ℕ). s.done ++ node_entries m here) rest_many
                  ∙ ap (λ (bytes : List ℕ). s.done ++ (shown ∷ node_entries left bytes)) next
                  ∙ sym (append_assoc s.done (shown ∷ []) (node_entries left (drop (at + span) records)));
              nodes_rest = rest_nodes ∙ ap₂ (λ (b : Bool) (n : ℕ). b && are_nodes left (drop n records)) right ends;
              span_rest =
                  s.span_rest
                  ∙ ap (λ (m : ℕ). at + nodes_span m here) rest_many
                  ∙ ap (λ (bytes : List ℕ). at + (node_span here + nodes_span left bytes)) next
                  ∙ omega (arith, span-is);
              keys_hold = written_more (λ e. e.key) keys-before keys from (from + i) s.done s.keys_hold (omega (arith, s.count)) (omega arith) shown key key-is;
              tags_hold = written_more (λ e. tag_of e.measure) tags-before tags from (from + i) s.done s.tags_hold (omega (arith, s.count)) (omega arith) shown tag tag_is;
            }

      -- ---- no record more
      module _ (end : held ≤ i) where
        none_left : held - i ≡ 0
        none_left = omega (arith, s.upto)

        all_done : node_entries held records ≡ s.done
        all_done = s.entries_rest ∙ ap (λ (m : ℕ). s.done ++ node_entries m (drop at records)) none_left ∙ append-nil s.done

        all_nodes : are_nodes held records ≡ true
        all_nodes = s.nodes_rest ∙ ap (λ (m : ℕ). are_nodes m (drop at records)) none_left

        all_span : nodes_span held records ≡ at
        all_span = s.span_rest ∙ ap (λ (m : ℕ). at + nodes_span m (drop at records)) none_left ∙ omega arith

        pub ends_here : Some at ≡ checked held records
        unfolding checked
        ends_here = rw all_nodes (ap Some (sym all_span))

-- ---- what an answer says of the records
pub broken : (held : ℕ) (records : List ℕ) → are_nodes held records ≡ false → None ≡ checked held records
unfolding checked
broken held records e = rw e

pub claims_nothing : (held : ℕ) (records : List ℕ) → are_nodes held records ≡ false → {P : Type 0} → are_nodes held records ≡ true → P
claims_nothing held records e t = absurd (true_or_false (are_nodes held records) t e)

-- an answer that is a number where a test passes, and none where it does not
pub cond_none : {A : Type 0} (b : Bool) (x : A) → cond b (Some x) None ≡ None → b ≡ false
cond_none true x e = cc
cond_none false x e = refl

module _ (held : ℕ) (records : List ℕ) where
  pub told_end : (n : ℕ) → checked held records ≡ Some n → (are_nodes held records ≡ true) × (nodes_span held records ≡ n)
  unfolding checked
  told_end n e = cond_some (are_nodes held records) (nodes_span held records) n e

  pub told_broken : checked held records ≡ None → are_nodes held records ≡ false
  unfolding checked
  told_broken e = cond_none (are_nodes held records) (nodes_span held records) e
