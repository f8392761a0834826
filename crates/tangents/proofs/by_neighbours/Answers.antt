-- `by_neighbours`: the loop stores the rule's element at each place.
use Rattle.std.proofs.Common.{arith}
use Rattle.lists.specs.Stored.{stored_none, stored_next, stored_end}
use Rattle.tangents.proofs.by_neighbours.Goals as goal

pub loop-i-init : goal.loop-i-init
loop-i-init g c = λ rule follows. stored_none

pub loop-i-preserved : goal.loop-i-preserved
loop-i-preserved g c = λ rule follows.
    stored_next (c.loop-i.invariant rule follows)
    (follows c.loop-i.i _ (omega arith)
    (rw (c.at.ensures, c.at-in-loop-i.ensures, c.before-in-loop-i.ensures, c.after.ensures) at c.f.ensures))

pub returns : goal.returns
returns g c = λ rule follows. stored_end (c.loop-i.invariant rule follows) (omega arith)
