-- `call_image::read_in` meets its contract. Assumes nothing.
use mathlib.Core.Bool.{true}
use mathlib.Core.List.{List}
use mathlib.Core.Path.{◌≡◌, sym, ◌∙◌}
use Prim.Native.Nat.{ℕ}
use native.Mathlib.Omega.{arith}
use lib.ListN.{length, take}
use Rattle.lists.proofs.Keep.{all_of_indices}
use Rattle.lists.proofs.Start.{starts_with}
use Rattle.table.specs.Contents.{keys_in, Valid}
use Rattle.table.specs.Tags.{tags_in, tagged}
use Rattle.table.specs.Layout.{most_slots}
use Rattle.table.proofs.Tagged.{tags_many}
use Rattle.image.specs.Image.{read_image, is_image}
use Rattle.image.specs.Layout.{IsByte}
use Rattle.image.proofs.Judging.{is_image_valid}
use Rattle.image.proofs.Records.{header_within}
use Rattle.image_recognize.proofs.Answers.{told_image, told_other, told_number, image_keys, image_beside, image_header}
use Rattle.image_recognize.proofs.Recognizing.{shown_tagged}
use Rattle.call_image.proofs.Reading.{refused_bytes, refused_many, accepted}
use Rattle.call_image.proofs.read_in.Goals as goal
use Rattle.call_image.proofs.read_in.Goals.{After-recognize, In-Some}

abbrev bytes : After-recognize → List ℕ
bytes q = q.args.image.now

abbrev size : In-Some → ℕ
size p = p.in-Some.n

abbrev listed : In-Some → List ℕ
listed p = p.recognize.new.keys

abbrev tags : In-Some → List ℕ
tags p = p.recognize.new.tags

one : (p : In-Some) → is_image (bytes (goal.at.In-Some p).After-recognize) ≡ true
one p = told_image (bytes (goal.at.In-Some p).After-recognize) (size p) (sym p.recognize.ensures.value ∙ p.in-Some.is)

number : (p : In-Some) → size p ≡ length (keys_in (read_image (bytes (goal.at.In-Some p).After-recognize)))
number p = told_number (bytes (goal.at.In-Some p).After-recognize) (size p) (sym p.recognize.ensures.value ∙ p.in-Some.is)

valid : (p : In-Some) → Valid most_slots (read_image (bytes (goal.at.In-Some p).After-recognize))
valid p =
    let b = bytes (goal.at.In-Some p).After-recognize in
    is_image_valid b (one p) (all_of_indices IsByte b 0 (λ i l. omega (arith, p.type_inv.image i)))

taken : (p : In-Some) → take (size p) (listed p) ≡ keys_in (read_image (bytes (goal.at.In-Some p).After-recognize))
taken p =
    starts_with (listed p) p.args.keys.now (keys_in (read_image (bytes (goal.at.In-Some p).After-recognize))) (size p) (p.recognize.ensures.keys_after (one p)) (sym (number p))

as_many : (p : In-Some) → length (tags_in (read_image (bytes (goal.at.In-Some p).After-recognize))) ≡ size p
as_many p = tags_many (read_image (bytes (goal.at.In-Some p).After-recognize)).entries ∙ sym (number p)

tags_taken : (p : In-Some) → take (size p) (tags p) ≡ tags_in (read_image (bytes (goal.at.In-Some p).After-recognize))
tags_taken p =
    starts_with (tags p) p.args.tags.now (tags_in (read_image (bytes (goal.at.In-Some p).After-recognize))) (size p) (p.recognize.ensures.tags_after (one p)) (as_many p)

pub returns-in_default : goal.returns-in_default
returns-in_default c =
    let b = bytes (goal.at.returns-in_default c).After-recognize in
    refused_bytes c.args.table.now b c.args.many c.requires.0 c.requires.1 c.requires.2 (told_other b (sym c.recognize.ensures.value ∙ c.in_default.is))

pub returns-then-many-n : goal.returns-then-many-n
returns-then-many-n c =
    let at = goal.at.returns-then-many-n c in
    refused_many c.args.table.now (bytes at.After-recognize) c.args.many c.requires.0 c.requires.1 c.requires.2 (one at.In-Some)
    (omega (arith, c.if-many-n.true, number at.In-Some))

pub salt_shown-salt-requires : goal.salt_shown-salt-requires
salt_shown-salt-requires c = image_header (bytes (goal.at.salt_shown-salt-requires c).After-recognize) (valid (goal.at.salt_shown-salt-requires c).In-Some) (one (goal.at.salt_shown-salt-requires c).In-Some)

pub get-order-requires : goal.get-order-requires
get-order-requires c =
    let b = bytes (goal.at.get-order-requires c).After-recognize in
    (omega (arith, image_header b (valid (goal.at.get-order-requires c).In-Some) (one (goal.at.get-order-requires c).In-Some), header_within b), omega arith)

pub write-requires-clause-keys : goal.write-requires-clause-keys
write-requires-clause-keys c =
    let at = goal.at.write-requires-clause-keys c in
    let p = at.In-Some in
    let b = bytes at.After-recognize in (
      image_keys b (valid p) c.get-order.result c.get-order.ensures (take (size p) (listed p)) (taken p),
      image_beside b (valid p) (take (size p) (listed p)) (take (size p) (tags p)) (taken p) (tags_taken p),
    )

pub returns : goal.returns
returns c =
    let at = goal.at.returns c in
    let p = at.In-Some in
    let b = bytes at.After-recognize in
    let made = tagged c.get-order.result c.salt_shown-salt.result (take (size p) (listed p)) (take (size p) (tags p)) in
    let same : made ≡ read_image b =
    (λ i. tagged (c.get-order.ensures i) (c.salt_shown-salt.ensures i) (taken p i) (tags_taken p i)) ∙ shown_tagged b (valid p).measures_right
    in accepted c.args.table.now b c.args.many c.requires.0 c.requires.1 c.requires.2 (one p) (omega (arith, number p, c.if-many-n.false)) made same c.write.new.table
    c.write.ensures
