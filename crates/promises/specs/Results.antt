-- The words of the second demand. Definitions only.
use Rattle.std.specs.Prelude.{ℕ, ◌+◌, ◌*◌, ◌<◌, ◌≡◌, false, List, length, get_or, Float}
use Rattle.single.specs.Rules.{clamped}
use Rattle.points.specs.declared.Point.{Point}
use Rattle.points.specs.declared.Knot.{Knot}
use Rattle.points.specs.Points.{kept}
use Rattle.points.specs.Knots.{knots, x_row, y_row, knot_at}
use Rattle.segments.specs.Segments.{step, sample_at, segment}
use Rattle.segments.specs.Straight.{part, straight}
use Rattle.hermite.specs.Hermite.{hermite}
use Rattle.spline.specs.declared.SplineBoundary.{SplineBoundary}
use Rattle.spline.specs.Segments.{spline_piece}
use Rattle.spline.specs.Second.{second_at}
use Rattle.rows.specs.Rows.{in_row}
use Rattle.formats.specs.declared.PixelFormat.{PixelFormat}
use Rattle.formats.specs.Formats.{bytes_a_pixel, alpha_of}
use Rattle.pictures.specs.OneTable.{toned_within}

-- ---- a sample of the curve of a list
-- the list's knots, so many, as rows of floats; and where the sample lies: its x, the segment in
-- which that is, the knots at the segment's ends, and the part of it left of the sample
pub record Sample : Type 0 where
  pub xs : List Float
  pub ys : List Float
  pub count : ℕ
  pub position : Float
  pub segment : ℕ
  pub left : Knot
  pub right : Knot
  pub part : Float

-- sample v of S of the curve of the list l
abbrev pub sample_in : List Point → ℕ → ℕ → Sample
sample_in l S v =
    let xs = x_row (knots (kept l)) in
    let ys = y_row (knots (kept l)) in
    let n = length (knots (kept l)) in
    let x = sample_at (step S) v in
    let i = segment xs n x in
    let a = knot_at xs ys i in
    let b = knot_at xs ys (i + 1) in
    record {
      xs = xs;
      ys = ys;
      count = n;
      position = x;
      segment = i;
      left = a;
      right = b;
      part = part a b x;
    }

-- its height, clamped: on the straight piece; on the cubic Hermite piece with the tangents of a
-- rule; on the piece of the spline with a boundary rule
module _ (l : List Point) (S v : ℕ) where
  abbrev pub straightly : Float
  straightly = let s = sample_in l S v in clamped (straight s.left s.right s.part)

  abbrev pub hermite_by : (List Float → List Float → ℕ → ℕ → Float) → Float
  hermite_by tangentAt =
      let s = sample_in l S v in
      let tangent : ℕ → Float = tangentAt s.xs s.ys s.count in
      clamped (hermite s.left s.right (tangent s.segment) (tangent (s.segment + 1))
      s.part)

  abbrev pub spline_by : SplineBoundary → Float
  spline_by edge =
      let s = sample_in l S v in
      let second : ℕ → Float = second_at s.xs s.ys s.count edge in
      clamped (spline_piece s.left s.right (second s.segment) (second (s.segment + 1))
      s.position)

-- ---- a plane toned by one table
-- the index of a byte in a plane: channel j of the pixel in row y and column x
abbrev pub byte_index : PixelFormat → ℕ → ℕ → ℕ → ℕ → ℕ
byte_index f step y x j = y * step + (x * bytes_a_pixel f + j)

-- it is the plane of the definition; and byte by byte
pub record ExactPlane (f : PixelFormat) (w h step : ℕ) (table old new : List ℕ) : Type 0 where
  pub plane_is : new ≡ toned_within f w h step table old
  pub toned : (y x j : ℕ) → y < h → x < w → j < bytes_a_pixel f → (j ≡ alpha_of f → ⊥)
      → get_or new (byte_index f step y x j) 0 ≡ get_or table (get_or old (byte_index f step y x j) 0) 0
  pub alpha : (y x j : ℕ) → y < h → x < w → j < bytes_a_pixel f → j ≡ alpha_of f
      → get_or new (byte_index f step y x j) 0 ≡ get_or old (byte_index f step y x j) 0
  pub padding : (k : ℕ) → in_row (w * bytes_a_pixel f) h step k ≡ false → get_or new k 0 ≡ get_or old k 0
  pub long : length new ≡ length old
