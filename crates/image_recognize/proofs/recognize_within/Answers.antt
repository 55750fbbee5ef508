-- `image_recognize::recognize_within` meets its contract. Assumes nothing.
use mathlib.Core.Bool.{true}
use mathlib.Core.List.{List, ◌++◌}
use mathlib.Core.Path.{◌≡◌, sym, ap, ap₂, ◌∙◌, subst}
use Prim.Native.Nat.{ℕ, ◌≤◌}
use native.Mathlib.Omega.{arith}
use lib.ListN.{length, take, drop}
use lib.Seq.{length-take-le, take_at}
use Rattle.lists.specs.Lists.{All, overwrite, same, lies}
use Rattle.lists.proofs.Keep.{all_of_indices}
use Rattle.lists.proofs.Start.{starts_with}
use Rattle.table.specs.Layout.{most_slots, least_order, greatest_order}
use Rattle.table.specs.Contents.{rising_keys, keys_in, right_measure}
use Rattle.table.specs.Tags.{tags_in, tagged}
use Rattle.table.proofs.Tagged.{beside_of}
use Rattle.table_decode.proofs.SortedInPlace.{Collected}
use Rattle.table_prepare.specs.Prepared.{Keys}
use Rattle.image.proofs.Records.{header_within}
use Rattle.image_parts.specs.Written.{written_to}
use Rattle.image.specs.Layout.{IsByte}
use Rattle.image.specs.Image.{image_of, header_span, salt_shown, read_image}
use Rattle.image_collect.specs.Reading.{readable, entries_of, RoomFor}
use Rattle.image_collect.proofs.Readable.{unreadable, readable_header, readable_few, readable_fits}
use Rattle.image_recognize.proofs.Recognizing.{order_shown, shown_right, shown_tagged, stop, wrong_order_lem, not_rising_lem, wrong_length_lem, differs, can_be_written, is_one, accepted, told_readable, told_broken, told_number, shown_size, tags_size, keys_sorted, tags_sorted, written_over}
use Rattle.image_recognize.proofs.recognize_within.Goals as goal
use Rattle.image_recognize.proofs.recognize_within.Goals.{After-is_rising, After-sort_keys, After-write-written, Else-not-is_rising, Else-not-is_within, Else-written-size, In_ok-n}

-- ---- what was collected
was_readable : (p : In_ok-n) → readable (length p.args.keys.now) p.args.image.now ≡ true
was_readable p = told_readable (length p.args.keys.now) p.args.image.now p.in_ok-n.n (sym p.collect.ensures.value ∙ p.in_ok-n.was)

number : (p : In_ok-n) → p.in_ok-n.n ≡ length (entries_of p.args.image.now)
number p = told_number (length p.args.keys.now) p.args.image.now p.in_ok-n.n (sym p.collect.ensures.value ∙ p.in_ok-n.was)

few : (p : In_ok-n) → p.in_ok-n.n ≤ most_slots
few p = omega (arith, number p, readable_few (length p.args.keys.now) p.args.image.now (was_readable p), p.requires.keys_room.0)

fits : (p : In_ok-n) (room : ℕ) → RoomFor (length p.args.image.now) room → p.in_ok-n.n ≤ room
fits p room enough = omega (arith, number p, readable_fits (length p.args.keys.now) p.args.image.now (was_readable p) room (omega (arith, p.requires.keys_room.0)) enough)

has_header : (p : In_ok-n) → header_span p.args.image.now ≤ length p.args.image.now
has_header p = readable_header (length p.args.keys.now) p.args.image.now (was_readable p)

right : (p : In_ok-n) → All (λ e. right_measure e ≡ true) (read_image p.args.image.now).entries
right p = shown_right p.args.image.now (length p.args.keys.now) (was_readable p)

abbrev shown : In_ok-n → List ℕ
shown p = keys_in (read_image p.args.image.now)

abbrev tags_shown : In_ok-n → List ℕ
tags_shown p = tags_in (read_image p.args.image.now)

shown_long : (p : In_ok-n) → length (shown p) ≡ p.in_ok-n.n
shown_long p = shown_size p.args.image.now p.in_ok-n.n (number p)

tags_long : (p : In_ok-n) → length (tags_shown p) ≡ p.in_ok-n.n
tags_long p = tags_size p.args.image.now ∙ shown_long p

had : (p : In_ok-n) → Collected (entries_of p.args.image.now) p.args.keys.now p.collect.new.keys p.args.tags.now p.collect.new.tags p.in_ok-n.n
had p =
    record {
      keys_are = p.collect.ensures.keys_after (was_readable p);
      tags_are = p.collect.ensures.tags_after (was_readable p);
      count = number p;
      room = omega (arith, few p, p.requires.keys_room.0);
      more = omega (arith, few p, p.requires.keys_room.1);
    }

-- ---- and once it is sorted
sorted_is : (q : After-sort_keys) → q.sort_keys.new.keys ≡ overwrite q.args.keys.now 0 (shown (goal.at.After-sort_keys q).In_ok-n)
sorted_is q = keys_sorted q.args.image.now (had (goal.at.After-sort_keys q).In_ok-n) q.sort_keys.new.keys q.sort_keys.ensures.keys_after

taken : (q : After-sort_keys) → take q.in_ok-n.n q.sort_keys.new.keys ≡ shown (goal.at.After-sort_keys q).In_ok-n
taken q = let p = (goal.at.After-sort_keys q).In_ok-n in starts_with q.sort_keys.new.keys q.args.keys.now (shown p) q.in_ok-n.n (sorted_is q) (shown_long p)

inside : (q : After-sort_keys) → q.in_ok-n.n ≤ length q.sort_keys.new.keys
inside q = let p = (goal.at.After-sort_keys q).In_ok-n in omega (arith, few p, q.requires.keys_room.0)

inside_tags : (q : After-sort_keys) → q.in_ok-n.n ≤ length q.sort_keys.new.tags
inside_tags q = let p = (goal.at.After-sort_keys q).In_ok-n in omega (arith, few p, q.requires.keys_room.1)

rise : (p : Else-not-is_rising) → rising_keys (shown (goal.at.Else-not-is_rising p).In_ok-n) ≡ true
rise p = sym (p.is_rising.ensures ∙ ap rising_keys (taken (goal.at.Else-not-is_rising p).After-sort_keys)) ∙ p.if-not-is_rising.false

tags_are : (p : Else-not-is_rising) → p.sort_keys.new.tags ≡ overwrite p.args.tags.now 0 (tags_shown (goal.at.Else-not-is_rising p).In_ok-n)
tags_are p = tags_sorted p.args.image.now (had (goal.at.Else-not-is_rising p).In_ok-n) p.sort_keys.new.tags p.sort_keys.ensures.tags_sorted (rise p)

tags_taken : (p : Else-not-is_rising) → take p.in_ok-n.n p.sort_keys.new.tags ≡ tags_shown (goal.at.Else-not-is_rising p).In_ok-n
tags_taken p = let at = goal.at.Else-not-is_rising p in starts_with p.sort_keys.new.tags p.args.tags.now (tags_shown at.In_ok-n) p.in_ok-n.n (tags_are p) (tags_long at.In_ok-n)

order_right : (p : Else-not-is_within) → lies least_order greatest_order (order_shown p.args.image.now) ≡ true
order_right p = ap (lies least_order greatest_order) (sym p.get-order.ensures) ∙ sym p.is_within.ensures ∙ p.if-not-is_within.false

few_shown : (p : In_ok-n) → length (shown p) ≤ most_slots
few_shown p = omega (arith, few p, shown_long p)

-- ---- the image that was written
drawn : (w : After-write-written) → image_of (tagged w.get-order.result w.salt_shown-salt.result (take w.in_ok-n.n w.sort_keys.new.keys) (take w.in_ok-n.n w.sort_keys.new.tags)) ≡ image_of (read_image w.args.image.now)
drawn w =
    let b = w.args.image.now in
    let at = goal.at.After-write-written w in
    ap₂ (λ (order salt : ℕ). image_of (tagged order salt (take w.in_ok-n.n w.sort_keys.new.keys) (take w.in_ok-n.n w.sort_keys.new.tags))) w.get-order.ensures w.salt_shown-salt.ensures
    ∙ ap₂ (λ (keys tags : List ℕ). image_of (tagged (order_shown b) (salt_shown b) keys tags)) (taken at.After-sort_keys) (tags_taken at.Else-not-is_rising)
    ∙ ap image_of (shown_tagged b (right at.In_ok-n))

written_size : (w : After-write-written) → w.write-written.result ≡ length (image_of (read_image w.args.image.now))
written_size w = w.write-written.ensures.value ∙ ap length (drawn w)

long : (p : Else-written-size) → length (image_of (read_image p.args.image.now)) ≡ length p.args.image.now
long p = sym (written_size (goal.at.Else-written-size p).After-write-written) ∙ p.if-written-size.false

copied_is : (p : Else-written-size) → p.write-written.new.output ≡ image_of (read_image p.args.image.now)
copied_is p =
    let part = take (length p.args.image.now) p.args.copy.now in
    p.write-written.ensures.output_after
    ∙ ap (written_to part) (drawn (goal.at.Else-written-size p).After-write-written)
    ∙ written_over part (image_of (read_image p.args.image.now)) (long p ∙ sym (length-take-le _ _ p.requires.keys_room.2))

-- the part of the list after it that is compared
copy_shows : (p : Else-written-size) → take (length p.args.image.now) (p.write-written.new.output ++ drop (length p.args.image.now) p.args.copy.now) ≡ image_of (read_image p.args.image.now)
copy_shows p = take_at p.write-written.new.output _ (length p.args.image.now) (ap length (copied_is p) ∙ long p) ∙ copied_is p

-- ---- the answers
pub returns-in_err-n : goal.returns-in_err-n
returns-in_err-n c =
    let bytes = c.args.image.now in
    let lacking = told_broken (length c.args.keys.now) bytes (sym c.collect.ensures.value ∙ c.in_err-n.was) in
    let sized : All IsByte bytes = all_of_indices IsByte bytes 0 (λ i l. omega (arith, c.type_inv.image i)) in
    rw c.from_residual.ensures (stop bytes (unreadable (length c.args.keys.now) bytes (λ n few h. omega (arith, few, c.requires.keys_room.0)) sized lacking) _ _ _ _)

pub salt_shown-salt-requires : goal.salt_shown-salt-requires
salt_shown-salt-requires c = has_header c

pub get-order-requires : goal.get-order-requires
get-order-requires c = (omega (arith, has_header (goal.at.get-order-requires c).In_ok-n, header_within c.args.image.now), omega arith)

pub returns-then-not-is_within : goal.returns-then-not-is_within
returns-then-not-is_within c =
    stop c.args.image.now (wrong_order_lem c.args.image.now (ap (lies least_order greatest_order) (sym c.get-order.ensures) ∙ sym c.is_within.ensures ∙ c.if-not-is_within.true)) _ _ _ _

pub sort_keys-requires-clause-n_in_bounds : goal.sort_keys-requires-clause-n_in_bounds
sort_keys-requires-clause-n_in_bounds c =
    let p = (goal.at.sort_keys-requires-clause-n_in_bounds c).In_ok-n in (omega (arith, few p, c.requires.keys_room.0), omega (arith, few p, c.requires.keys_room.1))

pub sort_keys-requires-clause-n_in_bounds_2 : goal.sort_keys-requires-clause-n_in_bounds_2
sort_keys-requires-clause-n_in_bounds_2 c = fits (goal.at.sort_keys-requires-clause-n_in_bounds_2 c).In_ok-n _ c.requires.room_for.0

pub sort_keys-requires-clause-n_in_bounds_3 : goal.sort_keys-requires-clause-n_in_bounds_3
sort_keys-requires-clause-n_in_bounds_3 c = fits (goal.at.sort_keys-requires-clause-n_in_bounds_3 c).In_ok-n _ c.requires.room_for.1

pub sort_keys-requires-clause-n_in_bounds_4 : goal.sort_keys-requires-clause-n_in_bounds_4
sort_keys-requires-clause-n_in_bounds_4 c = fits (goal.at.sort_keys-requires-clause-n_in_bounds_4 c).In_ok-n _ c.requires.room_for.2

pub sort_keys-requires-clause-n_le_most_slots : goal.sort_keys-requires-clause-n_le_most_slots
sort_keys-requires-clause-n_le_most_slots c = few (goal.at.sort_keys-requires-clause-n_le_most_slots c).In_ok-n

pub slice_bounds-is_rising-end : goal.slice_bounds-is_rising-end
slice_bounds-is_rising-end c = inside (goal.at.slice_bounds-is_rising-end c).After-sort_keys

pub slice_bounds-is_rising-end-2 : goal.slice_bounds-is_rising-end-2
slice_bounds-is_rising-end-2 c = sym (length-take-le _ _ (inside (goal.at.slice_bounds-is_rising-end-2 c).After-sort_keys))

pub returns-then-not-is_rising : goal.returns-then-not-is_rising
returns-then-not-is_rising c =
    stop c.args.image.now (not_rising_lem c.args.image.now (sym (c.is_rising.ensures ∙ ap rising_keys (taken (goal.at.returns-then-not-is_rising c).After-sort_keys)) ∙ c.if-not-is_rising.true)) _ _ _ _

pub slice_bounds-write-end : goal.slice_bounds-write-end
slice_bounds-write-end c = inside (goal.at.slice_bounds-write-end c).After-sort_keys

pub slice_bounds-write-end-2 : goal.slice_bounds-write-end-2
slice_bounds-write-end-2 c = sym (length-take-le _ _ (inside (goal.at.slice_bounds-write-end-2 c).After-sort_keys))

pub slice_bounds-write-end-3 : goal.slice_bounds-write-end-3
slice_bounds-write-end-3 c = inside_tags (goal.at.slice_bounds-write-end-3 c).After-sort_keys

pub slice_bounds-write-end-4 : goal.slice_bounds-write-end-4
slice_bounds-write-end-4 c = sym (length-take-le _ _ (inside_tags (goal.at.slice_bounds-write-end-4 c).After-sort_keys))

pub write-written-requires : goal.write-written-requires
write-written-requires c =
    let at = goal.at.write-written-requires c in
    let p = at.In_ok-n in
    let b = c.args.image.now in
    let keys = can_be_written b (order_right at.Else-not-is_within) (rise at.Else-not-is_rising) (few_shown p) in (
      subst (Keys c.get-order.result) (sym (taken at.After-sort_keys)) (subst (λ (order : ℕ). Keys order (shown p)) (sym c.get-order.ensures) keys),
      beside_of (read_image b).entries (right p) (taken at.After-sort_keys) (tags_taken at.Else-not-is_rising),
    )

pub returns-then-written-size : goal.returns-then-written-size
returns-then-written-size c =
    stop c.args.image.now (wrong_length_lem c.args.image.now (λ e. c.if-written-size.true (written_size (goal.at.returns-then-written-size c).After-write-written ∙ e))) _ _ _ _

pub returns-then-not-same_bytes : goal.returns-then-not-same_bytes
returns-then-not-same_bytes c =
    let b = c.args.image.now in
    stop b (differs b (ap (same b) (sym (copy_shows (goal.at.returns-then-not-same_bytes c).Else-written-size)) ∙ sym c.same_bytes.ensures ∙ c.if-not-same_bytes.true)) _ _ _ _

pub returns : goal.returns
returns c =
    let at = goal.at.returns c in
    let b = c.args.image.now in
    let agree = ap (same b) (sym (copy_shows at.Else-written-size)) ∙ sym c.same_bytes.ensures ∙ c.if-not-same_bytes.false in
    let one = is_one b (order_right at.Else-not-is_within) (rise at.Else-not-is_rising) (few_shown at.In_ok-n) (right at.In_ok-n) agree in
    record {
      value = accepted b one c.in_ok-n.n (sym (shown_long at.In_ok-n));
      keys_after = λ _. sorted_is at.After-sort_keys;
      tags_after = λ _. tags_are at.Else-not-is_rising;
    }
