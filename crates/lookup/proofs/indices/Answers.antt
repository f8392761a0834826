-- `lookup::indices` meets its contract: the loop stores one index after another.
use Rattle.std.proofs.Common.{arith, zero-add}
use Rattle.lists.specs.Stored.{stored_none, stored_next, stored_end}
use Rattle.lookup.specs.Lookup.{index_from}
use Rattle.lookup.proofs.indices.Goals as goal

pub loop-j-init : goal.loop-j-init
loop-j-init c = stored_none

pub loop-j-preserved : goal.loop-j-preserved
unfolding index_from
loop-j-preserved c = stored_next c.loop-j.invariant (rw zero-add c.index.ensures)

pub returns : goal.returns
returns c = stored_end c.loop-j.invariant (omega arith)
