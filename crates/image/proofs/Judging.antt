-- `is_image` decides whether bytes are an image: exactly the bytes of the contents that they show, which are valid. Assumes bytes,
-- or valid contents, where it says so.
use mathlib.Core.Bool.{Bool, true, ◌&&◌}
use mathlib.Core.List.Permᴰ
use mathlib.Core.List.{List}
use mathlib.Core.Path.{◌≡◌, refl, ap, ◌∙◌}
use Prim.Native.Nat.{ℕ, zero, suc, ◌^◌, ◌≤◌, ◌<◌}
use native.Mathlib.Omega.{arith}
use lib.Dec.{leb}
use lib.ListN.{length, drop}
use borrow.Author.Tests.{leb-true, le-leb}
use Rattle.lists.specs.Lists.{All, nonzero, every, same, rises_b, sort_by}
use Rattle.lists.proofs.Tests.{by_test, nonzero_says, nonzero_when, and_left, and_right, and_both}
use Rattle.lists.proofs.Keep.{all_map, all_both, all_mapped, all_append, every_says, every_when}
use Rattle.lists.proofs.Membership.{same_says, same_when}
use Rattle.lists.proofs.Rising.{rises_says, rises_when}
use Rattle.lists.proofs.Sorting.{all_permuted, sort_by_permutes}
use Rattle.treap.specs.Image.{count_bytes, key_bytes}
use Rattle.table.specs.Layout.{most_slots}
use Rattle.table.specs.Contents.{Contents, IsKey, IsSalt, Valid, table_order, keys_in, key_below, right_measure}
use Rattle.image.specs.Layout.{salt_bytes, block_bytes, blocks_at, salt_at, held_at, key_at, IsByte}
use Rattle.image.specs.Image.{image_of, is_salted, header_span, salt_shown, field_at, node_span, entry_shown, node_entries, nodes_span, block_entries, read_image, is_image}
use Rattle.image.proofs.Bytes.{all_drop, field_fits}
use Rattle.image.proofs.Reading.{read_of_image}

-- ---- the keys that bytes show are 64-bit numbers
pub entry_shown_sized : (bytes : List ℕ) → All IsByte bytes → (entry_shown bytes).key < 2 ^ 64
unfolding entry_shown
entry_shown_sized bytes a = field_fits key_at key_bytes bytes a

pub node_entries_sized : (many : ℕ) (bytes : List ℕ) → All IsByte bytes → All (λ e. e.key < 2 ^ 64) (node_entries many bytes)
node_entries_sized zero bytes a = tt
node_entries_sized (suc many) bytes a = (
  entry_shown_sized bytes a,
  node_entries_sized many (drop (node_span bytes) bytes) (all_drop IsByte (node_span bytes) bytes a),
)

pub block_entries_sized : (many : ℕ) (bytes : List ℕ) → All IsByte bytes → All (λ e. e.key < 2 ^ 64) (block_entries many bytes)
block_entries_sized zero bytes a = tt
block_entries_sized (suc many) bytes a =
    let held = field_at held_at count_bytes bytes in
    let nodes = drop block_bytes bytes in
    let left = drop (nodes_span held nodes) nodes in
    let inside = all_drop IsByte block_bytes bytes a in
    all_append (λ e. e.key < 2 ^ 64) (node_entries held nodes) (block_entries many left) (node_entries_sized held nodes inside)
    (block_entries_sized many left (all_drop IsByte (nodes_span held nodes) nodes inside))

pub shown_sized : (bytes : List ℕ) → All IsByte bytes → All (λ k. k < 2 ^ 64) (keys_in (read_image bytes))
unfolding read_image
shown_sized bytes a =
    let shown = block_entries (field_at blocks_at count_bytes bytes) (drop (header_span bytes) bytes) in
    all_mapped (λ k. k < 2 ^ 64) (λ e. e.key) (sort_by key_below shown)
    (all_permuted (λ e. e.key < 2 ^ 64) (Permᴰ.symm (sort_by_permutes key_below shown))
    (block_entries_sized (field_at blocks_at count_bytes bytes) (drop (header_span bytes) bytes) (all_drop IsByte (header_span bytes) bytes a)))

salt_sized : (bytes : List ℕ) → All IsByte bytes → IsSalt (read_image bytes).salt
unfolding read_image salt_shown
salt_sized bytes a = by_test (is_salted bytes) (λ e. rw e (field_fits salt_at salt_bytes bytes a)) (λ e. rw e (omega arith))

-- ---- the test
module _ (bytes : List ℕ) (passed : is_image bytes ≡ true) where
  abbrev exactly : Bool
  exactly = every right_measure (read_image bytes).entries && same bytes (image_of (read_image bytes))

  after_order : (rises_b (keys_in (read_image bytes)) && (every nonzero (keys_in (read_image bytes)) && (leb (length (keys_in (read_image bytes))) most_slots && exactly))) ≡ true
  unfolding is_image
  after_order = and_right (table_order (read_image bytes).order) _ passed

  after_rising : (every nonzero (keys_in (read_image bytes)) && (leb (length (keys_in (read_image bytes))) most_slots && exactly)) ≡ true
  after_rising = and_right (rises_b (keys_in (read_image bytes))) _ after_order

  after_nonzero : (leb (length (keys_in (read_image bytes))) most_slots && exactly) ≡ true
  after_nonzero = and_right (every nonzero (keys_in (read_image bytes))) _ after_rising

  after_size : exactly ≡ true
  after_size = and_right (leb (length (keys_in (read_image bytes))) most_slots) _ after_nonzero

  pub is_image_exactly : bytes ≡ image_of (read_image bytes)
  is_image_exactly = same_says bytes (image_of (read_image bytes)) (and_right (every right_measure (read_image bytes).entries) _ after_size)

  pub is_image_valid : All IsByte bytes → Valid most_slots (read_image bytes)
  unfolding is_image
  is_image_valid a =
      record {
        order_right = and_left (table_order (read_image bytes).order) _ passed;
        salt_right = salt_sized bytes a;
        keys_right = all_both (λ k. 1 ≤ k) (λ k. k < 2 ^ 64) (keys_in (read_image bytes))
            (all_map (λ k. nonzero k ≡ true) (λ k. 1 ≤ k) nonzero_says (keys_in (read_image bytes)) (every_says nonzero (keys_in (read_image bytes)) (and_left (every nonzero (keys_in (read_image bytes))) _ after_rising)))
            (shown_sized bytes a);
        keys_rise = rises_says (keys_in (read_image bytes)) (and_left (rises_b (keys_in (read_image bytes))) _ after_order);
        keys_fit = leb-true (length (keys_in (read_image bytes))) most_slots (and_left (leb (length (keys_in (read_image bytes))) most_slots) _ after_nonzero);
        measures_right = every_says right_measure (read_image bytes).entries (and_left (every right_measure (read_image bytes).entries) _ after_size);
      }

  -- bytes that pass are the image of valid contents, those that they show
  pub is_image_says : All IsByte bytes → Valid most_slots (read_image bytes) × (bytes ≡ image_of (read_image bytes))
  is_image_says a = (is_image_valid a, is_image_exactly)

pub image_passes : (c : Contents) → Valid most_slots c → is_image (image_of c) ≡ true
unfolding is_image
image_passes c valid =
    rw (read_of_image c valid)
    (and_both (table_order c.order) _ valid.order_right
    (and_both (rises_b (keys_in c)) _ (rises_when (keys_in c) valid.keys_rise)
    (and_both (every nonzero (keys_in c)) _ (every_when nonzero (keys_in c) (all_map IsKey (λ k. nonzero k ≡ true) (λ k h. nonzero_when k h.0) (keys_in c) valid.keys_right))
    (and_both (leb (length (keys_in c)) most_slots) _ (le-leb (length (keys_in c)) most_slots valid.keys_fit)
    (and_both (every right_measure c.entries) _ (every_when right_measure c.entries valid.measures_right) (same_when (image_of c) (image_of c) refl))))))

-- the image of valid contents passes
pub is_image_when : (bytes : List ℕ) (c : Contents) → Valid most_slots c → bytes ≡ image_of c → is_image bytes ≡ true
is_image_when bytes c valid e = ap is_image e ∙ image_passes c valid
