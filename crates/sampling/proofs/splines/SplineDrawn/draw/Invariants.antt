-- `Spline::draw`: a turn draws the block at the cursor, by the coefficients of its piece.
use Rattle.std.proofs.Common.{◌≤◌, length}
use Rattle.sampling.specs.declared.Form.TheVariants.{Spline}
use Rattle.sampling.specs.Walk.{StateOf}
use Rattle.sampling.proofs.Drawing.{left}
use Rattle.sampling.proofs.splines.SplineDrawn.draw.Given as goal

abbrev pub invariant-loop-p : goal.invariant-loop-p
invariant-loop-p l =
    (l.p.v ≤ 4096) × StateOf Spline l.pieces (length l.initial.samples) l.p l.samples

abbrev pub decreases-loop-p : goal.decreases-loop-p
decreases-loop-p l = left l.pieces.knots.now.count l.p
