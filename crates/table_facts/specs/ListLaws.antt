-- The facts for the knots of a kept list: they are in rows, its curve goes through its points, and
-- the straight pieces are in order where the list never falls.
use Rattle.std.proofs.Common.{ap, le_of_eq, arith}
use mathlib.Core.List.{List, Memᴰ}
use Rattle.std.specs.Prelude.{ℕ, ◌≤◌, ◌<◌, T, length, Float}
use Rattle.std.proofs.Math.Decide.{ℕ_discrete}
use Rattle.std.specs.Float.Ieee.{le}
use Rattle.floats.specs.Value.{Is}
use Rattle.points.specs.declared.Point.{Point}
use Rattle.points.specs.Points.{nth}
use Rattle.points.specs.Knots.{knots, x_of, y_of, x_row, y_row}
use Rattle.points.specs.Order.{NeverFalls, IsKept, mem_at, never_falls_to}
use Rattle.points.specs.Shape.{knots_shape, knots_mem, knots_never_fall}
use Rattle.segments.specs.Rows.{Rows, rows_of}
use Rattle.segments.specs.SegmentLaws.{InRange}
use Rattle.table_facts.specs.StraightLaws.{straight_at, straight_at_knot, straight_order}
use Rattle.table_facts.specs.CubicLaws.{cubic_at}
use Rattle.table_facts.specs.HermiteKinds.{TangentRule, HermiteRule, MadeBy, kind_at_knot}

-- a curve's straight pieces, and its cubic pieces with the tangents ms, before clamping
abbrev pub straight_of : List Point → Float → Float
straight_of l x = let ks = knots l in straight_at (x_row ks) (y_row ks) (length ks) x

abbrev pub cubic_of : List Point → List Float → Float → Float
cubic_of l ms x = let ks = knots l in cubic_at (x_row ks) (y_row ks) ms (length ks) x

module _ (l : List Point) (kept : IsKept l) where
  abbrev ks : List Point
  ks = knots l

  pub knot_rows :
      Rows (x_row (knots l)) (y_row (knots l)) (length (knots l)) (x_of (knots l))
      (y_of (knots l))
  knot_rows = rows_of ks (knots_shape l kept)

  -- ---- through points
  -- what holds at every knot holds at a point
  at_point : (P : Point → Type 0) → ((i : ℕ) → i < length ks → P (nth ks i)) → (p : Point)
      → Memᴰ p l → P p
  at_point P all p m = let k = mem_at ks p (knots_mem l p m) in rw (← k.2) (all k.0 k.1)

  pub straight_at_point : (x : Float) (p : Point) → Memᴰ p l → Is x p.x 0 1
      → Is (straight_of l x) p.y 0 256
  straight_at_point x p m e =
      at_point (λ q. Is x q.x 0 1 → Is (straight_of l x) q.y 0 256)
      (straight_at_knot knot_rows x) p m e

  pub kind_at_point : {rule : TangentRule} → HermiteRule rule
      → (ms : List Float) → MadeBy rule (x_row (knots l)) (y_row (knots l)) (length (knots l)) ms
      → (x : Float) (p : Point) → Memᴰ p l → Is x p.x 0 1
      → Is (cubic_of l ms x) p.y 0 256
  kind_at_point kind ms made x p m e =
      at_point (λ q. Is x q.x 0 1 → Is (cubic_of l ms x) q.y 0 256)
      (kind_at_knot knot_rows kind ms made x) p m e

  -- ---- order
  pub straight_rises : NeverFalls l → (x y : Float) → InRange x → InRange y → T (le x y)
      → T (le (straight_of l x) (straight_of l y))
  straight_rises f = straight_order knot_rows climbs
    where
      climbs : (i j : ℕ) → i ≤ j → j < length ks → y_of ks i ≤ y_of ks j
      climbs i j h k = elim (ℕ_discrete i j) [
        | yes same ↦ le_of_eq (ap (y_of ks) same)
        | no other ↦ never_falls_to ks (knots_never_fall l kept f) i j (omega arith) k
      ]
