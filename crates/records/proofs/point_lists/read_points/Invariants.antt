-- `read_points` meets its contract. At each turn the points read and those still to read are all of
-- them.
use Rattle.std.proofs.Common.{◌-◌, ◌*◌, ◌≡◌, ◌++◌, take, drop}
use Rattle.points.specs.Points.{places_of}
use Rattle.points.specs.Joined.{FullRows}
use Rattle.records.specs.PointLists.{point_bytes, pairs}
use Rattle.records.proofs.point_lists.read_points.Given as goal

abbrev pub invariant-loop-i : goal.invariant-loop-i
invariant-loop-i l =
    FullRows l.curve
    × (take l.i (places_of l.curve)
    ++ pairs l.edition (l.n - l.i) (drop (l.i * point_bytes l.edition) l.bytes)
    ≡ pairs l.edition l.n l.bytes)
    × (l.curve.count ≡ l.n)
