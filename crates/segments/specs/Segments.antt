-- The samples of a table and the segments they lie in, as document 01's section "Kinds and tables"
-- has them. Definitions only.
-- n knots are in the rows xs and ys, as `points` gives them: n is at least 2, and the segment i
-- goes from knot i to knot i + 1.
use Rattle.std.specs.Prelude.{ℕ, zero, suc, ◌-◌, cond, List, Float}
use Rattle.std.specs.Float.Ieee.{lt}
use Rattle.floats.specs.Notation.{◌⊗◌, ◌⊘◌}
use Rattle.single.specs.Constants.{𝟐𝟓𝟓}
use Rattle.single.specs.Rules.{float}
use Rattle.points.specs.Knots.{at}

-- "step = 255 / (S − 1)", for S samples
unfoldable pub step : ℕ → Float
step S = 𝟐𝟓𝟓 ⊘ float (S - 1)

-- "sample v at x = v × step"
unfoldable pub sample_at : Float → ℕ → Float
sample_at s v = float v ⊗ s

-- from the segment i on, with k segments to its right: it advances while the
-- next knot's x is less than x
unfoldable pub seek : List Float → Float → ℕ → ℕ → ℕ
seek xs x zero i = i
seek xs x (suc k) i = cond (lt (at xs (suc i)) x) (seek xs x k (suc i)) i

-- the segment of x: at an inner knot the left one
unfoldable pub segment : List Float → ℕ → Float → ℕ
segment xs n x = seek xs x (n - 2) 0
