-- The segment between two neighbouring knots, the piece of a spline drawn there by the second
-- derivatives at its ends, and the slopes of a clamped curve. The order of operations is the
-- file's. Definitions only.
use Rattle.std.specs.Prelude.{ℕ, ◌+◌, cond, List, ℤ, Float}
use Rattle.std.specs.Float.{binary32}
use Rattle.std.specs.Float.Ieee.{of_int}
use Rattle.floats.specs.Notation.{◌⊕◌, ◌⊖◌, ◌⊗◌, ◌⊘◌}
use Rattle.single.specs.Constants.{𝟐, 𝟔, 𝟐𝟓𝟔, micro}
use Rattle.single.specs.Rules.{guarded_quotient}
use Rattle.points.specs.declared.Knot.{Knot}
use Rattle.points.specs.Knots.{knot_at, too_thin}
use Rattle.spline.specs.declared.Segment.{Segment}

-- the segment from a to b: its width h and its secant Δ, 0 where h is below 1e-6 in size
unfoldable pub between : Knot → Knot → Segment
between a b =
    record { width = b.x ⊖ a.x; secant = guarded_quotient (b.y ⊖ a.y) (b.x ⊖ a.x) micro }

-- the segment i of the knots in the rows xs and ys
unfoldable pub segment_at : List Float → List Float → ℕ → Segment
segment_at xs ys i = between (knot_at xs ys i) (knot_at xs ys (i + 1))

-- the piece's polynomial is P(x) = y + c1 t + c2 t² + c3 t³ with t = x − x0, by the second
-- derivatives ma and mb, M and M': c1 = Δ − h (2 M + M') / 6
unfoldable pub first_coefficient : Knot → Knot → Float → Float → Float
first_coefficient a b ma mb = let s = between a b in s.secant ⊖ s.width ⊗ (𝟐 ⊗ ma ⊕ mb) ⊘ 𝟔

-- c2 = M / 2
abbrev pub second_coefficient : Float → Float
second_coefficient ma = ma ⊘ 𝟐

-- c3 = (M' − M) / (6 h)
abbrev pub third_coefficient : Knot → Knot → Float → Float → Float
third_coefficient a b ma mb = (mb ⊖ ma) ⊘ (𝟔 ⊗ (b.x ⊖ a.x))

-- P(x), from the knot a on
abbrev pub polynomial_from : Knot → Float → Float → Float → Float → Float
polynomial_from a c1 c2 c3 x = let t = x ⊖ a.x in a.y ⊕ c1 ⊗ t ⊕ c2 ⊗ t ⊗ t ⊕ c3 ⊗ t ⊗ t ⊗ t

-- the piece from a to b; one that is too thin is flat
unfoldable pub spline_piece : Knot → Knot → Float → Float → Float → Float
spline_piece a b ma mb x =
    cond (too_thin a.x b.x) a.y
    (polynomial_from a (first_coefficient a b ma mb) (second_coefficient ma)
    (third_coefficient a b ma mb) x)

-- "ClampedCubic carries two slopes, signed 16-bit, each divided by 256"
unfoldable pub slope_of : ℤ → Float
slope_of q = of_int binary32 q ⊘ 𝟐𝟓𝟔
