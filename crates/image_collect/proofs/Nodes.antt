-- The marks at the start of bytes, and the node records there: how long they are, and what they show. Assumes nothing.
use mathlib.Core.Bool.{Bool, true, false, ◌&&◌}
use mathlib.Core.List.{List, [], ◌∷◌}
use mathlib.Core.Logic.{◌≢◌}
use mathlib.Core.Path.{◌≡◌, refl, sym, ap, ◌∙◌}
use Prim.Native.Nat.{ℕ, zero, suc, ◌+◌, ◌*◌, ◌<◌, ◌≤◌}
use native.Mathlib.Omega.{arith}
use lib.Dec.{eqb, leb}
use lib.ListN.{length, get_or, take, drop, length-drop}
use borrow.Author.Tests.{eq-eqb, ne_eqb, le-leb, lt-leb, leb-true}
use Rattle.lists.specs.Lists.{All, same}
use Rattle.lists.proofs.Tests.{by_test, and_left, and_right}
use Rattle.measure.specs.Measure.{unmeasured, is_measure, measure_from}
use Rattle.measure.specs.Tag.{is_stored, tag_from, tag_of}
use Rattle.measure.proofs.Stored.{stored_measures, unmeasured_right}
use Rattle.measure.proofs.Tags.{tag_from_stored, unmeasured_tag}
use Rattle.treap.specs.Image.{length_bytes, correction_bytes, node_mark}
use Rattle.table.specs.Contents.{right_measure}
use Rattle.image.specs.Layout.{node_bytes, measure_bytes, length_at, correction_at}
use Rattle.image.specs.Image.{field_at, is_measured, node_span, entry_shown, node_entries, nodes_span}
use Rattle.image_collect.specs.Reading.{is_node, are_nodes}

-- ---- a mark, by its two bytes
mark_bytes : (second : ℕ) (bytes : List ℕ) → 2 ≤ length bytes → same (take 2 bytes) (76 ∷ second ∷ []) ≡ (eqb (get_or bytes 0 0) 76 && eqb (get_or bytes 1 0) second)
mark_bytes second [] h = absurd (omega arith)
mark_bytes second (a ∷ []) h = absurd (omega arith)
mark_bytes second (a ∷ b ∷ bytes) h = by_test (eqb b second) (λ e. rw e) (λ e. rw e)

pub mark_short : (second : ℕ) (bytes : List ℕ) → length bytes < 2 → false ≡ same (take 2 bytes) (76 ∷ second ∷ [])
mark_short second [] h = refl
mark_short second (a ∷ []) h = by_test (eqb a 76) (λ e. rw e) (λ e. rw e)
mark_short second (a ∷ b ∷ bytes) h = absurd (omega arith)

module _ (second : ℕ) (bytes : List ℕ) (long : 2 ≤ length bytes) where
  pub mark_first : get_or bytes 0 0 ≢ 76 → false ≡ same (take 2 bytes) (76 ∷ second ∷ [])
  mark_first d = sym (mark_bytes second bytes long ∙ ap (λ (b : Bool). b && eqb (get_or bytes 1 0) second) (ne_eqb (get_or bytes 0 0) 76 d))

  pub mark_second : get_or bytes 0 0 ≡ 76 → eqb (get_or bytes 1 0) second ≡ same (take 2 bytes) (76 ∷ second ∷ [])
  mark_second e = sym (mark_bytes second bytes long ∙ ap (λ (b : Bool). b && eqb (get_or bytes 1 0) second) (eq-eqb (get_or bytes 0 0) 76 e))

-- ---- one record
module _ (bytes : List ℕ) where
  -- The length and the stored correction in its last fields.
  abbrev pub long_read : ℕ
  long_read = field_at length_at length_bytes bytes

  abbrev pub stored_read : ℕ
  stored_read = field_at correction_at correction_bytes bytes

  pub span_measured : is_measured bytes ≡ true → node_span bytes ≡ node_bytes + measure_bytes
  unfolding node_span
  span_measured e = rw e

  pub span_plain : is_measured bytes ≡ false → node_span bytes ≡ node_bytes
  unfolding node_span
  span_plain e = rw e

  pub span_least : node_bytes ≤ node_span bytes
  span_least = by_test (is_measured bytes) (λ e. omega (arith, span_measured e)) (λ e. omega (arith, span_plain e))

  -- what the tests say of it
  pub node_short : length bytes < node_span bytes → false ≡ is_node bytes
  unfolding is_node
  node_short h = rw (lt-leb (node_span bytes) (length bytes) h)

  pub node_plain : node_bytes ≤ length bytes → is_measured bytes ≡ false → same (take 2 bytes) node_mark ≡ is_node bytes
  unfolding is_node
  node_plain h e = rw (le-leb (node_span bytes) (length bytes) (omega (arith, span_plain e)), e)

  pub node_measured : node_bytes + measure_bytes ≤ length bytes → is_measured bytes ≡ true → is_stored long_read stored_read ≡ is_node bytes
  unfolding is_node
  node_measured h e = rw (le-leb (node_span bytes) (length bytes) (omega (arith, span_measured e)), e)

  module _ (right : is_node bytes ≡ true) where
    pub node_inside : node_span bytes ≤ length bytes
    unfolding is_node
    node_inside = leb-true (node_span bytes) (length bytes) (and_left (leb (node_span bytes) (length bytes)) _ right)

    pub node_long : node_bytes ≤ length bytes
    node_long = omega (arith, node_inside, span_least)

    pub node_stored : is_measured bytes ≡ true → is_stored long_read stored_read ≡ true
    node_stored e = node_measured (omega (arith, node_inside, span_measured e)) e ∙ right

  -- and what it shows
  shown_plain : is_measured bytes ≡ false → (entry_shown bytes).measure ≡ unmeasured
  unfolding entry_shown
  shown_plain e = rw e

  shown_measured : is_measured bytes ≡ true → (entry_shown bytes).measure ≡ measure_from long_read stored_read
  unfolding entry_shown
  shown_measured e = rw e

  pub tag_plain : is_measured bytes ≡ false → 0 ≡ tag_of (entry_shown bytes).measure
  tag_plain e = sym (ap tag_of (shown_plain e) ∙ unmeasured_tag)

  pub tag_measured : is_node bytes ≡ true → is_measured bytes ≡ true → tag_from long_read stored_read ≡ tag_of (entry_shown bytes).measure
  tag_measured right e = tag_from_stored long_read stored_read (node_stored right e) ∙ ap tag_of (sym (shown_measured e))

  node_right : is_node bytes ≡ true → is_measure (entry_shown bytes).measure ≡ true
  node_right right =
      by_test (is_measured bytes)
      (λ e. ap is_measure (shown_measured e) ∙ stored_measures long_read stored_read (node_stored right e))
      (λ e. ap is_measure (shown_plain e) ∙ unmeasured_right)

-- ---- so many records
pub entries_number : (many : ℕ) (bytes : List ℕ) → length (node_entries many bytes) ≡ many
entries_number zero bytes = refl
entries_number (suc many) bytes = ap suc (entries_number many (drop (node_span bytes) bytes))

pub nodes_inside : (many : ℕ) (bytes : List ℕ) → are_nodes many bytes ≡ true → nodes_span many bytes ≤ length bytes
nodes_inside zero bytes h = omega arith
nodes_inside (suc many) bytes h =
    let rest = drop (node_span bytes) bytes in
    omega (
      arith,
      node_inside bytes (and_left (is_node bytes) (are_nodes many rest) h),
      nodes_inside many rest (and_right (is_node bytes) (are_nodes many rest) h),
      length-drop (node_span bytes) bytes,
    )

pub nodes_least : (many : ℕ) (bytes : List ℕ) → node_bytes * many ≤ nodes_span many bytes
nodes_least zero bytes = omega arith
nodes_least (suc many) bytes = omega (arith, span_least bytes, nodes_least many (drop (node_span bytes) bytes))

pub nodes_right : (many : ℕ) (bytes : List ℕ) → are_nodes many bytes ≡ true → All (λ e. right_measure e ≡ true) (node_entries many bytes)
nodes_right zero bytes h = tt
nodes_right (suc many) bytes h =
    let rest = drop (node_span bytes) bytes in
    (node_right bytes (and_left (is_node bytes) (are_nodes many rest) h), nodes_right many rest (and_right (is_node bytes) (are_nodes many rest) h))
