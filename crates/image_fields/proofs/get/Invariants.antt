-- `image_fields::get` meets its contract. The loop's invariant: the number is that of the bytes passed. Assumes nothing.
use Rattle.std.proofs.Common.{◌≡◌, ◌<◌, ◌^◌, length, reverse, map}
use Rattle.image.specs.Image.{number_of}
use Rattle.image_fields.proofs.get.Given as goal

abbrev pub invariant-loop-byte : goal.invariant-loop-byte
invariant-loop-byte l =
    (goal.iterator-loop-byte).can_next l.byte-iterator ×
    (goal.iterator-loop-byte).is_finite l.byte-iterator × (l.number ≡ number_of (reverse (map (λ b. b.now) l.yielded))) × (l.number < 256 ^ length l.yielded)
