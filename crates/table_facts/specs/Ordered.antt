-- Linear, where no kept point is lower than the one before it: no sample is lower than one before
-- it, and no entry, across segments too.
use Rattle.std.specs.Prelude.{List, ℕ, ◌^◌, ◌≤◌, ◌<◌, T}
use Rattle.std.proofs.Common.{arith, lit≤}
use Rattle.std.specs.Float.Ieee.{le}
use Rattle.single.specs.RuleLaws.{clamped_le}
use Rattle.single.specs.ByteLaws.{byte_le}
use Rattle.points.specs.declared.Point.{Point}
use Rattle.points.specs.Points.{kept}
use Rattle.points.specs.Order.{All, Proper, NeverFalls}
use Rattle.points.specs.Kept.{kept_is_kept}
use Rattle.segments.specs.SegmentLaws.{InRange}
use Rattle.segments.specs.Samples.{sample_256, sample_4096, sample_le}
use Rattle.table_facts.specs.ListLaws.{straight_rises}
use Rattle.tables.specs.declared.CurveInterpolation.TheVariants.{Linear}
use Rattle.sampling.specs.Pieces.{piece_height, height_at, sampled}
use Rattle.tables.specs.Tables.{unclamped_at, sample_of, entry_of}
use Rattle.table_facts.specs.Given.{sample_x}

module _ (l : List Point) (proper : All Proper l) (never-falls : NeverFalls (kept l)) where
  -- ---- for any S whose numbers of samples are floats
  pub sample_order : (S : ℕ) → 2 ≤ S → S ≤ 2 ^ 24
      → (v w : ℕ) → v ≤ w → w < S → InRange (sample_x S v) → InRange (sample_x S w)
      → T (le (sample_of Linear l S v) (sample_of Linear l S w))
  unfolding sample_of sampled unclamped_at height_at piece_height
  sample_order S two most v w h k p q =
      clamped_le _ _
      (straight_rises (kept l) (kept_is_kept l proper) never-falls (sample_x S v) (sample_x S w) p q
      (sample_le S two most v w h (omega arith)))

  pub byte_sample_order : (v w : ℕ) → v ≤ w → w < 256
      → T (le (sample_of Linear l 256 v) (sample_of Linear l 256 w))
  byte_sample_order v w h k =
      sample_order 256 (lit≤ tt) (lit≤ tt) v w h k (sample_256 v (omega arith)) (sample_256 w k)

  pub fine_sample_order : (v w : ℕ) → v ≤ w → w < 4096
      → T (le (sample_of Linear l 4096 v) (sample_of Linear l 4096 w))
  fine_sample_order v w h k =
      sample_order 4096 (lit≤ tt) (lit≤ tt) v w h k (sample_4096 v (omega arith)) (sample_4096 w k)

  -- ---- the byte table never falls
  pub entry_order : (v w : ℕ) → v ≤ w → w < 256 → entry_of Linear l v ≤ entry_of Linear l w
  unfolding entry_of
  entry_order v w h k =
      byte_le (sample_of Linear l 256 v) (sample_of Linear l 256 w) (byte_sample_order v w h k)
