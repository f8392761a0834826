-- The straight line between two knots, unclamped. The order of operations is the file's.
-- Definitions only.
use Rattle.std.specs.Prelude.{Float}
use Rattle.floats.specs.Notation.{◌⊕◌, ◌⊖◌, ◌⊗◌}
use Rattle.single.specs.Constants.{micro}
use Rattle.single.specs.Rules.{guarded_quotient}
use Rattle.points.specs.declared.Knot.{Knot}

-- "t = (x − x0) / h", the part of the segment from a to b that lies left of x; 0
-- in a segment of no width
unfoldable pub part : Knot → Knot → Float → Float
part a b x = guarded_quotient (x ⊖ a.x) (b.x ⊖ a.x) micro

-- "Linear": the straight piece from a to b, at t
unfoldable pub straight : Knot → Knot → Float → Float
straight a b t = a.y ⊕ (b.y ⊖ a.y) ⊗ t

-- the rise from l to r over the run; 0 without a run
unfoldable pub slope : Knot → Knot → Float
slope l r = guarded_quotient (r.y ⊖ l.y) (r.x ⊖ l.x) micro
