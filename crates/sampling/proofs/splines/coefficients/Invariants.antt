-- `splines::coefficients`: the loop stores both rules' elements at each place.
use Rattle.lists.specs.Stored.{Stored}
use Rattle.sampling.specs.Walk.{first_of, third_of}
use Rattle.sampling.proofs.splines.coefficients.Given as goal

abbrev pub invariant-loop-i : goal.invariant-loop-i
invariant-loop-i l =
    Stored (first_of l.pieces) 0 l.i l.initial.c1s l.c1s
    × Stored (third_of l.pieces) 0 l.i l.initial.c3s l.c3s
