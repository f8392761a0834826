-- The curve of a given list is that of its kept points, which the laws of `segments` speak of;
-- and where the samples are.
use Rattle.std.specs.Prelude.{◌≡◌, refl, List, ℕ, ◌*◌, ◌<◌, length, Float}
use Rattle.std.proofs.Common.{arith}
use Rattle.floats.specs.Value.{Is}
use Rattle.single.specs.RuleLaws.{float_is}
use Rattle.points.specs.declared.Point.{Point}
use Rattle.points.specs.Points.{kept}
use Rattle.points.specs.Knots.{knots, x_of, y_of, x_row, y_row}
use Rattle.points.specs.Order.{All, Proper}
use Rattle.points.specs.Kept.{kept_is_kept}
use Rattle.segments.specs.Segments.{step, sample_at}
use Rattle.segments.specs.Samples.{sample_byte, sample_fine}
use Rattle.segments.specs.Rows.{Rows}
use Rattle.table_facts.specs.ListLaws.{straight_of, knot_rows}
use Rattle.tables.specs.declared.CurveInterpolation.TheVariants.{Linear}
use Rattle.sampling.specs.Pieces.{piece_height, height_at}
use Rattle.tables.specs.Tables.{unclamped_at}

-- the x of sample v of S
abbrev pub sample_x : ℕ → ℕ → Float
sample_x S v = sample_at (step S) v

-- of 256 samples, sample v is at v
pub sample_x_is : (v : ℕ) → v < 256 → Is (sample_x 256 v) v 0 1
sample_x_is v h = rw (sample_byte v (omega arith)) (float_is v (omega arith))

-- of 4,096, sample 273 * j is at 17 * j
pub fine_x_is : (j : ℕ) → j < 16 → Is (sample_x 4096 (273 * j)) (17 * j) 0 1
fine_x_is j h = rw (sample_fine j h) (float_is (17 * j) (omega arith))

-- Linear is drawn by straight pieces
pub linear_height : (l : List Point) (x : Float) → unclamped_at Linear l x ≡ straight_of (kept l) x
unfolding unclamped_at height_at piece_height
linear_height l x = refl

-- the rows hold the knots of the kept points
pub given_rows : (l : List Point) → All Proper l
    → Rows (x_row (knots (kept l))) (y_row (knots (kept l))) (length (knots (kept l)))
    (x_of (knots (kept l))) (y_of (knots (kept l)))
given_rows l proper = knot_rows (kept l) (kept_is_kept l proper)
