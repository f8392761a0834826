-- `splines::coefficients`: the loop stores both rules' elements at each place.
use Rattle.std.proofs.Common.{arith}
use Rattle.lists.specs.Stored.{stored_none, stored_next, stored_end}
use Rattle.sampling.specs.Walk.{first_coefficient_at, third_coefficient_at}
use Rattle.sampling.proofs.splines.coefficients.Goals as goal

pub loop-i-preserved : goal.loop-i-preserved
unfolding first_coefficient_at third_coefficient_at
loop-i-preserved c =
    let inv = c.loop-i.invariant in (
      stored_next inv.0 (rw c.at-piece.ensures at c.first_coefficient.ensures),
      stored_next inv.1 (rw c.at-piece.ensures at c.third_coefficient.ensures),
    )

pub loop-i-init : goal.loop-i-init
loop-i-init c = (stored_none, stored_none)

pub returns : goal.returns
returns c = let inv = c.loop-i.invariant in record {
  first = stored_end inv.0 (omega arith);
  third = stored_end inv.1 (omega arith);
}
