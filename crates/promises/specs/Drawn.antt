-- A sample is the clamped height of the piece in whose segment it lies, drawn from the values that
-- its kind gives the two knots at the ends of it.
use Rattle.std.specs.Prelude.{ℕ, zero, suc, ◌+◌, ◌-◌, ◌≤◌, ◌<◌, ◌≡◌, List, replicate, Float}
use Rattle.std.proofs.Common.{arith}
use Rattle.std.specs.Float.{nan}
use Rattle.std.specs.Float.Ieee.{lt}
use Rattle.lists.specs.Tabulate.{get_d_filled}
use Rattle.lists.specs.Test.{by_test}
use Rattle.single.specs.Constants.{𝟎}
use Rattle.single.specs.Rules.{clamped}
use Rattle.points.specs.declared.Point.{Point}
use Rattle.points.specs.Points.{kept}
use Rattle.points.specs.Knots.{at}
use Rattle.points.specs.Shape.{knots_two}
use Rattle.segments.specs.Segments.{seek, segment}
use Rattle.sampling.specs.Pieces.{piece_height, height_at, sampled}
use Rattle.tables.specs.declared.CurveInterpolation.{CurveInterpolation}
use Rattle.tables.specs.Kinds.{form_of, knot_value_at, knot_value_row}
use Rattle.tables.specs.Tables.{unclamped_at, sample_of}
use Rattle.promises.specs.Results.{sample_in}

-- ---- every segment has both its ends
seek_most : (xs : List Float) (x : Float) (k i : ℕ) → seek xs x k i ≤ i + k
unfolding seek
seek_most xs x zero i = omega arith
seek_most xs x (suc k) i =
    by_test (lt (at xs (suc i)) x) (λ t. rw t (omega (arith, seek_most xs x k (suc i))))
    (λ t. rw t (omega arith))

-- the row of the values at the knots has each of them
value : (kind : CurveInterpolation) (xs ys : List Float) (n k : ℕ) → k < n
    → at (knot_value_row kind xs ys n) k ≡ knot_value_at kind xs ys n k
value kind xs ys n k inside =
    get_d_filled n (knot_value_at kind xs ys n) (replicate 66 𝟎) k nan inside

module _ (l : List Point) (S v : ℕ) where
  right_end : let s = sample_in l S v in s.segment + 1 < s.count
  unfolding segment
  right_end =
      let s = sample_in l S v in
      omega (arith, seek_most s.xs s.position (s.count - 2) 0, knots_two (kept l))

  pub drawn : (kind : CurveInterpolation)
      → let s = sample_in l S v in
      let value_at : ℕ → Float = knot_value_at kind s.xs s.ys s.count in
      sample_of kind l S v
      ≡ clamped (piece_height (form_of kind) (record {
        a = s.left;
        b = s.right;
        p = value_at s.segment;
        q = value_at (s.segment + 1);
      }) s.position)
  unfolding sample_of sampled unclamped_at height_at
  drawn kind =
      let s = sample_in l S v in
      rw (
        value kind s.xs s.ys s.count s.segment (omega (arith, right_end)),
        value kind s.xs s.ys s.count (s.segment + 1) right_end,
      )
