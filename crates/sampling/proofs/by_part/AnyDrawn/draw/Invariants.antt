-- `draw` of any form by parts: a turn draws the block at the cursor, by the parts found the turn
-- before.
use Rattle.std.proofs.Common.{◌≡◌, ◌≤◌, length}
use Rattle.sampling.specs.Walk.{parts_of, piece_of, StateOf}
use Rattle.sampling.proofs.Drawing.{left}
use Rattle.sampling.proofs.by_part.AnyDrawn.draw.Given as goal

abbrev pub invariant-loop-p : goal.invariant-loop-p
invariant-loop-p g l =
    (l.p.v ≤ 4096) × StateOf g.P.ByPart.by_form l.pieces (length l.initial.samples) l.p l.samples
    × (l.t ≡ parts_of (piece_of l.pieces l.p.i) l.step l.p.v)

abbrev pub decreases-loop-p : goal.decreases-loop-p
decreases-loop-p g l = left l.pieces.knots.now.count l.p
