-- What the tests of a measure say of its reply. Assumes nothing.
use mathlib.Core.Bool.{true, false}
use mathlib.Core.Logic.{◌≢◌}
use mathlib.Core.Path.{◌≡◌, refl, ap, ◌∙◌}
use Prim.Native.Nat.{ℕ}
use lib.IntN.{ℤ, pos}
use borrow.Author.Tests.{eq-eqb, ne_eqb}
use Rattle.std.specs.Prelude.{Option, Some, None, Result, Ok, Err}
use Rattle.measure.specs.Measure.{Measure, is_measure, lies_z}
use Rattle.paris_points.specs.Points.{corrected, half_points, rest, least_rest, greatest_rest, size_of}
use Rattle.paris_points.specs.declared.Size.{Size}
use Rattle.call_replies.specs.Replies.{pointed_of, rest_of}
use Rattle.call_replies.specs.declared.Refusal.{Refusal}
use Rattle.call_replies.specs.declared.Refusal.TheVariants.{WrongMeasure}
use Rattle.call_meaning.specs.Reasons.{wrong_measure}
use Rattle.call_points.specs.Pointed.{points_refusal, points_reply, points_rest}

module _ (m : Measure) where
  -- What an answer for this measure meets.
  abbrev pub Meets : Result (Option Size) Refusal → Type 0
  Meets answer = record {
    reply_value : pointed_of answer ≡ points_reply m;
    rest_value : rest_of answer ≡ points_rest m;
    rest_within : lies_z least_rest greatest_rest (rest_of answer) ≡ true;
  }

  pub refused : is_measure m ≡ false → Meets (Err WrongMeasure)
  unfolding points_reply points_rest points_refusal wrong_measure lies_z
  refused e = record { reply_value = rw e; rest_value = rw e; rest_within = refl }

  module _ (right : is_measure m ≡ true) where
    pub not_measured : m.length ≡ 0 → Meets (Ok None)
    unfolding points_reply points_rest points_refusal wrong_measure size_of lies_z
    not_measured e = let zero = eq-eqb m.length 0 e in record { reply_value = rw (right, zero); rest_value = rw (right, zero); rest_within = refl }

    pub sized : m.length ≢ 0 → (t size : ℕ) (left : ℤ) → pos t ≡ corrected m → size ≡ half_points (pos t) → left ≡ rest (pos t)
        → lies_z least_rest greatest_rest left ≡ true → Meets (Ok (Some (record { half_points = size; rest = left })))
    unfolding points_reply points_rest points_refusal wrong_measure size_of
    sized some t size left is e f near =
        let here = e ∙ ap half_points is in
        let over = f ∙ ap rest is in
        let other = ne_eqb m.length 0 some in
        record { reply_value = rw (right, other, here); rest_value = rw (right, other, over); rest_within = near }
