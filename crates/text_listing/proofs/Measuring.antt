-- A listing that is being measured line by line. Assumes nothing.
use mathlib.Core.List.{List}
use mathlib.Core.Path.{◌≡◌, ap, ◌∙◌}
use Prim.Native.Nat.{ℕ, ◌+◌, ◌*◌, ◌≤◌}
use native.Mathlib.Omega.{arith}
use lib.ListN.{length, length-append}
use Rattle.text_listing.specs.declared.line.Line.{Line}
use Rattle.text_listing.specs.declared.records.Records.{Records}
use Rattle.text_listing.specs.Shown.{shown, most_growth}
use Rattle.text_listing.specs.Lines.{text_of, record_bytes, lines_left, FirstLine}

-- The lines of the records that are left are still to be measured; those before them have so many bytes, no more than ten for each of their records'.
pub record Measured (image : List ℕ) (left : Records) (total : ℕ) : Type 0 where
  pub counted : total + length (lines_left left) ≡ length (shown image)
  pub few : total + most_growth * length left.bytes.now ≤ most_growth * length image

-- the next line
pub measured_next : {image : List ℕ} {left : Records} {total : ℕ} → Measured image left total → (line : Line) (after : Records) → FirstLine left line after
    → (size : ℕ) → size ≡ length (text_of line) → size ≤ most_growth * record_bytes line → Measured image after (total + size)
measured_next {image} {left} {total} state line after first size e h =
    record {
      counted = omega (arith, state.counted, ap length first.shows ∙ length-append (text_of line) (lines_left after), e);
      few = omega (arith, state.few, first.passes);
    }
