-- The claims of listings. Assumes nothing.
use mathlib.Core.Bool.{true}
use mathlib.Core.List.{List}
use mathlib.Core.Path.{◌≡◌}
use Prim.Native.Nat.{ℕ}
use Rattle.lists.specs.Lists.{All}
use Rattle.treap_ceilings.specs.BlockClaims.{WithinCeilings}
use Rattle.treap_ceilings.proofs.BlockClaims.{block_ceilings_hold}
use Rattle.table.specs.Contents.{keys_in, priority_in}
use Rattle.table.proofs.Orders.{order_wide}
use Rattle.image.specs.Layout.{IsByte}
use Rattle.image.specs.Image.{is_image, read_image}
use Rattle.image.proofs.Judging.{is_image_says}
use Rattle.text_listing.specs.Claims.{Listings}
use Rattle.text_listing.proofs.Examples.{single, six, empty}

held_in_images : (bytes : List ℕ) → All IsByte bytes → is_image bytes ≡ true → WithinCeilings (read_image bytes).order (priority_in (read_image bytes)) (keys_in (read_image bytes))
held_in_images bytes are-bytes passed =
    let valid = (is_image_says bytes passed are-bytes).0 in
    block_ceilings_hold.every_set (read_image bytes).order (order_wide (read_image bytes).order valid.order_right) (priority_in (read_image bytes)) (keys_in (read_image bytes)) valid.keys_rise

pub listings_hold : Listings
listings_hold = record { example_b = single; example_g = six; empty = empty; every_image = held_in_images }
