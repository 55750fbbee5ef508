-- Text written piece by piece. Assumes nothing.
use mathlib.Core.List.{List, [], ◌++◌}
use mathlib.Core.Path.{◌≡◌, refl, sym, ap, ◌∙◌}
use Prim.Native.Nat.{ℕ, ◌+◌, ◌-◌, ◌≤◌}
use native.Mathlib.Omega.{arith}
use borrow.Rule.Slice.PartMut.{put_mid}
use lib.ListN.{length, length-append}
use lib.Seq.{drop-drop}
use Rattle.lists.specs.Lists.{overwrite}
use Rattle.lists.proofs.Overwrite.{overwrite_none, overwrite-length}
use Rattle.lists.proofs.Parts.{overwrite_next}
use Rattle.text.specs.Written.{Written}

module _ {before : List ℕ} {at : ℕ} {text after : List ℕ} {end : ℕ} (first : Written before at text after end) where
  -- the output is as long as before
  pub written_size : at + length text ≤ length before → length after ≡ length before
  written_size fits = ap length first.holds ∙ overwrite-length before at text fits

  -- the piece after it
  pub written_then : {more last : List ℕ} {stop : ℕ} → Written after end more last stop → at + length (text ++ more) ≤ length before
      → Written before at (text ++ more) last stop
  written_then {more} next fits =
      record {
        holds =
            next.holds ∙ ap (λ (l : List ℕ). overwrite l end more) first.holds
            ∙ overwrite_next at end text before (sym first.ends) (let e = first.ends in omega (arith, length-append text more)) more
            (let e = first.ends in omega (arith, length-append text more));
        ends = next.ends ∙ omega (arith, first.ends, length-append text more);
      }

-- nothing written
pub written_none : (before : List ℕ) (at : ℕ) → Written before at [] before at
written_none before at = record { holds = sym (overwrite_none before at); ends = omega arith }

-- a part of the output that has become the text
pub written_part : (before : List ℕ) (at : ℕ) (text part : List ℕ) (many : ℕ) → many ≡ length text → part ≡ text
    → Written before at text (put_mid at (at + many - at) before part) (at + many)
unfolding overwrite
written_part before at text part many long is =
    let room : at + many - at ≡ many = omega arith in
    record { holds = rw (room, is, drop-drop, long) refl; ends = ap (λ (n : ℕ). at + n) long }

-- ---- room for the next piece, and for what comes before it
pub front_fits : (at : ℕ) (text more : List ℕ) (room : ℕ) → at + length (text ++ more) ≤ room → at + length text ≤ room
front_fits at text more room h = omega (arith, length-append text more)

pub next_fits : {before : List ℕ} {at : ℕ} {text after : List ℕ} {end : ℕ} → Written before at text after end → (more : List ℕ)
    → at + length (text ++ more) ≤ length before → end + length more ≤ length after
next_fits {before} {at} {text} {after} {end} first more h =
    let e = first.ends in
    omega (arith, length-append text more, written_size first (front_fits at text more (length before) h))
