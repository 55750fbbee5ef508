-- What is replied for the size of a measure in Paris points (document 02, N5). Assumes nothing.
use Rattle.std.specs.Prelude.{List, [], ◌∷◌, ℕ, ℤ, pos}
use Rattle.std.proofs.Math.Option.{Option, none, some}
use Rattle.measure.specs.Measure.{Measure}
use Rattle.paris_points.specs.Points.{Size, size_of}
use Rattle.call_replies.specs.Replies.{Reply, first_that_applies, unless_refused}
use Rattle.call_meaning.specs.Reasons.{wrong_measure}

-- "Errors: the check is 12."
unfoldable pub points_refusal : Measure → ℕ
points_refusal measure = first_that_applies (wrong_measure measure ∷ [])

-- One for a measured last, and its size in half points. "An unmeasured last has no size": two zeros.
abbrev pub size_shown : Option Size → List ℕ
size_shown none = 0 ∷ 0 ∷ []
size_shown (some size) = 1 ∷ size.half_points ∷ []

unfoldable pub points_reply : Measure → Reply
points_reply measure =
    record {
      refusal = points_refusal measure;
      numbers = unless_refused (points_refusal measure) (size_shown (size_of measure)) (0 ∷ 0 ∷ []);
    }

-- "Also show the signed rest"; an unmeasured last has none: zero.
abbrev pub rest_shown : Option Size → ℤ
rest_shown none = pos 0
rest_shown (some size) = size.rest

unfoldable pub points_rest : Measure → ℤ
points_rest measure = unless_refused (points_refusal measure) (rest_shown (size_of measure)) (pos 0)
