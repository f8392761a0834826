-- `blocks::four`: the loop stores what the function gives of j.
use Rattle.std.proofs.Common.{arith}
use Rattle.lists.specs.Stored.{stored_none, stored_next, stored_end}
use Rattle.sampling.proofs.blocks.four.Goals as goal

pub loop-j-init : goal.loop-j-init
loop-j-init g c = λ f given. stored_end stored_none (omega arith)

pub loop-j-preserved : goal.loop-j-preserved
loop-j-preserved g c =
    λ f given. stored_end (stored_next (c.loop-j.invariant f given) (given c.loop-j.j _ (omega arith) c.sample.ensures)) (omega arith)
