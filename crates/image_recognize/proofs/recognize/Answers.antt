-- `image_recognize::recognize` meets its contract. Assumes nothing.
use native.Mathlib.Omega.{arith}
use Rattle.lists.proofs.Keep.{all_of_indices}
use Rattle.image.specs.Layout.{IsByte}
use Rattle.image_recognize.proofs.Recognizing.{stop, too_long}
use Rattle.image_recognize.proofs.recognize.Goals as goal

pub returns-then-image-gt-MOST_BYTES : goal.returns-then-image-gt-MOST_BYTES
returns-then-image-gt-MOST_BYTES c =
    let bytes = c.args.image.now in
    stop bytes (too_long bytes (all_of_indices IsByte bytes 0 (λ i l. omega (arith, c.type_inv.image i))) c.if-image-gt-MOST_BYTES.true) _ _ _ _
