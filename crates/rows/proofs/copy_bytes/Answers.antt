-- `copy_bytes`: one store after another.
use Rattle.std.proofs.Common.{arith, refl}
use Rattle.lists.specs.Stored.{stored_none, stored_next}
use Rattle.lists.specs.Copied.{element_of, stored_copy}
use Rattle.rows.proofs.copy_bytes.Goals as goal

pub loop-i-init : goal.loop-i-init
loop-i-init c = stored_none

pub loop-i-preserved : goal.loop-i-preserved
unfolding element_of
loop-i-preserved c = stored_next c.loop-i.invariant refl

pub returns : goal.returns
returns c = stored_copy 0 _ c.loop-i.invariant (omega arith) (omega arith)
