-- The pieces of a curve whose knots are in rows, and its samples, as document 01's section "Kinds
-- and tables" has them. Definitions only.
use Rattle.std.specs.Prelude.{ℕ, ◌+◌, List, Float}
use Rattle.single.specs.Rules.{clamped}
use Rattle.points.specs.Knots.{knot_at, at}
use Rattle.segments.specs.Segments.{step, sample_at, segment}
use Rattle.segments.specs.Straight.{part, straight}
use Rattle.hermite.specs.Hermite.{hermite}
use Rattle.spline.specs.Segments.{spline_piece}
use Rattle.sampling.specs.declared.Form.{Form}
use Rattle.sampling.specs.declared.Form.TheVariants.{Straight, Cubic, Spline}
use Rattle.points.specs.declared.Piece.{Piece}

-- the piece i of the curve with the knots in xs and ys and the values at them, tangents or second
-- derivatives, in ms
abbrev pub piece_at : List Float → List Float → List Float → ℕ → Piece
piece_at xs ys ms i =
    record { a = knot_at xs ys i; b = knot_at xs ys (i + 1); p = at ms i; q = at ms (i + 1) }

-- the height of a piece at x, unclamped
unfoldable pub piece_height : Form → Piece → Float → Float
piece_height Straight piece x = straight piece.a piece.b (part piece.a piece.b x)
piece_height Cubic piece x =
    hermite piece.a piece.b piece.p piece.q (part piece.a piece.b x)
piece_height Spline piece x = spline_piece piece.a piece.b piece.p piece.q x

-- the height of the curve with n knots at x, unclamped: that of the piece in whose segment x lies
unfoldable pub height_at : Form → List Float → List Float → List Float → ℕ → Float → Float
height_at form xs ys ms n x = piece_height form (piece_at xs ys ms (segment xs n x)) x

-- sample v of S of a curve, which is given by its height at each x: "Samples are clamped"
unfoldable pub sampled : (Float → Float) → ℕ → ℕ → Float
sampled curve S v = clamped (curve (sample_at (step S) v))
