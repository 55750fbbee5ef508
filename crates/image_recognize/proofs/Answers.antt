-- What the answer of recognizing says. Assumes nothing.
use mathlib.Core.Bool.{true, false}
use mathlib.Core.List.{List}
use mathlib.Core.Path.{◌≡◌, sym, subst}
use Prim.Native.Nat.{ℕ, ◌≤◌}
use native.Mathlib.Omega.{arith}
use Rattle.std.proofs.Common.{Some, None}
use Rattle.std.proofs.lemmas.Option.{cond_some}
use lib.ListN.{length}
use Rattle.treap.specs.Image.{order_bytes}
use Rattle.table.specs.Layout.{most_slots}
use Rattle.table.specs.Contents.{Valid, keys_in}
use Rattle.table.specs.Tags.{tags_in, Beside}
use Rattle.table.proofs.Tagged.{beside_of}
use Rattle.table_prepare.specs.Prepared.{Keys}
use Rattle.table_prepare.proofs.Writable.{valid_keys}
use Rattle.image.specs.Layout.{order_at}
use Rattle.image.specs.Image.{header_span, field_at, read_image, is_image}
use Rattle.image.proofs.Reading.{header_inside}
use Rattle.image.proofs.Judging.{is_image_exactly}
use Rattle.image_collect.proofs.Passing.{cond_none}
use Rattle.image_recognize.specs.Recognize.{recognized}

module _ (bytes : List ℕ) where
  pub told_image : (n : ℕ) → recognized bytes ≡ Some n → is_image bytes ≡ true
  unfolding recognized
  told_image n e = (cond_some (is_image bytes) (length (keys_in (read_image bytes))) n e).0

  pub told_other : recognized bytes ≡ None → is_image bytes ≡ false
  unfolding recognized
  told_other e = cond_none (is_image bytes) (length (keys_in (read_image bytes))) e

  pub told_number : (n : ℕ) → recognized bytes ≡ Some n → n ≡ length (keys_in (read_image bytes))
  unfolding recognized
  told_number n e = sym (cond_some (is_image bytes) (length (keys_in (read_image bytes))) n e).1

  -- the order and the keys of an image can be written, under any salt, with the tags beside them
  pub image_keys : Valid most_slots (read_image bytes) → (order : ℕ) → order ≡ field_at order_at order_bytes bytes → (keys : List ℕ) → keys ≡ keys_in (read_image bytes)
      → Keys order keys
  unfolding read_image
  image_keys valid order e keys f =
      subst (Keys order) (sym f) (subst (λ (α : ℕ). Keys α (keys_in (read_image bytes))) (sym e) (valid_keys most_slots (read_image bytes) (omega arith) valid))

  pub image_beside : Valid most_slots (read_image bytes) → (keys tags : List ℕ) → keys ≡ keys_in (read_image bytes) → tags ≡ tags_in (read_image bytes) → Beside keys tags
  image_beside valid keys tags e f = beside_of (read_image bytes).entries valid.measures_right e f

  pub image_header : Valid most_slots (read_image bytes) → is_image bytes ≡ true → header_span bytes ≤ length bytes
  image_header valid one =
      subst (λ (b : List ℕ). header_span b ≤ length b) (sym (is_image_exactly bytes one)) (header_inside (read_image bytes) valid)
