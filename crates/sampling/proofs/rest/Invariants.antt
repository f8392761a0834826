-- `rest`: the loop stores sample v, of the segment sought from the cursor on.
use Rattle.std.proofs.Common.{length}
use Rattle.lists.specs.Stored.{Stored}
use Rattle.sampling.specs.Pieces.{sampled}
use Rattle.sampling.specs.Walk.{curve_of}
use Rattle.sampling.proofs.rest.Given as goal

abbrev pub invariant-loop-v : goal.invariant-loop-v
invariant-loop-v g l =
    Stored (sampled (curve_of g.D.Drawn.form l.pieces) (length l.initial.samples)) l.from.v l.v l.initial.samples l.samples
