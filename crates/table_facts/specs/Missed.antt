-- Why `through_points` leaves the splines out: under NotAKnotCubic the entry at a point's x can
-- miss its y. And why `sample_finite` asks that slopes are of 16 bits: with one that no float holds
-- a sample is NaN. Computed from the definitions.
use Rattle.std.specs.Prelude.{ℕ, ◌^◌, ◌<◌, ◌≡◌, refl, T, pos, Float}
use Rattle.std.proofs.Common.{arith, lit<, lit≤}
use mathlib.Core.List.{List, [], ◌∷◌, Memᴰ}
use Rattle.std.specs.Float.{nan}
use Rattle.std.specs.Float.Ieee.{add, sub, neg, mul, div, lt, of_int, of_bits}
use Rattle.std.specs.Float.Ieee.Scale.{finite}
use Rattle.lists.specs.Tabulate.{tabulate, filled}
use Rattle.floats.specs.Value.{absolute}
use Rattle.single.specs.Rules.{clamped, byte_of, guarded_quotient}
use Rattle.points.specs.declared.Point.{Point}
use Rattle.points.specs.Points.{at_level, rounded, first_at, kept_below, kept}
use Rattle.points.specs.Knots.{rest, knots, x_at, y_at, x_row, y_row}
use Rattle.points.specs.Order.{All, Proper}
use Rattle.segments.specs.Segments.{step, sample_at, seek, segment}
use Rattle.spline.specs.Segments.{between, segment_at, first_coefficient, spline_piece, slope_of}
use Rattle.spline.specs.Second.{row_at, unknown, recovered, ends_recovered, framed}
use Rattle.spline.specs.Second.{not_a_knot_at, second_at}
use Rattle.spline.specs.Thomas.{scaled, sweep, swept, swept_row, backward, substituted, solution}
use Rattle.sampling.specs.Pieces.{piece_height, height_at, sampled}
use Rattle.tables.specs.declared.CurveInterpolation.{CurveInterpolation}
use Rattle.tables.specs.declared.CurveInterpolation.TheVariants.{ClampedCubic, NotAKnotCubic}
use Rattle.tables.specs.Tables.{unclamped_at, sample_of, entry_of}

abbrev peak : List Point
peak = at_level 142 0 ∷ at_level 143 255 ∷ at_level 144 0 ∷ at_level 210 255 ∷ []

peak_proper : All Proper peak
peak_proper =
    ((lit< tt, lit≤ tt), ((lit< tt, lit≤ tt), ((lit< tt, lit≤ tt), ((lit< tt, lit≤ tt), tt))))

-- what a sample of a spline opens
unfoldable sample : CurveInterpolation → List Point → ℕ → ℕ → Float
unfolding sample_of sampled unclamped_at height_at piece_height kept kept_below first_at knots rest x_row
    y_row x_at y_at filled tabulate step sample_at seek segment between segment_at first_coefficient
    spline_piece slope_of second_at not_a_knot_at ends_recovered recovered framed unknown row_at solution
    substituted backward swept_row swept sweep scaled guarded_quotient absolute clamped add sub neg
    mul div lt of_int of_bits
sample = sample_of

-- at the point (142,0) the entry is 1
pub not_a_knot_at_142 : entry_of NotAKnotCubic peak 142 ≡ 1
unfolding sample entry_of byte_of
not_a_knot_at_142 = refl

-- so `through_points` without its premise on the kind is refuted
pub through_points_wants_no_spline :
    ((l : List Point) → All Proper l → (k : CurveInterpolation) (p : Point) → Memᴰ p (kept l)
    → entry_of k l p.x ≡ rounded p.y) → ⊥
unfolding sample entry_of byte_of
through_points_wants_no_spline through =
    let at-142 = through peak peak_proper NotAKnotCubic (at_level 142 0) (Memᴰ.head refl) in
    let missed : entry_of NotAKnotCubic peak 142 ≡ 1 = refl in
    omega (arith, missed)

-- a slope of 2 ^ 200 / 256
pub steep_at_1 : sample_of (ClampedCubic (pos (2 ^ 200)) (pos 0)) [] 256 1 ≡ nan
unfolding sample
steep_at_1 = refl

pub finite_wants_bits :
    ((l : List Point) → All Proper l → (k : CurveInterpolation) (v : ℕ) → v < 256
    → T (finite (sample_of k l 256 v))) → ⊥
finite_wants_bits claim =
    rw steep_at_1 at (claim [] tt (ClampedCubic (pos (2 ^ 200)) (pos 0)) 1 (lit< tt))
