-- `tables::to_bytes`: the loop stores the byte of sample v at v.
use Rattle.std.proofs.Common.{refl, rules}
use Rattle.lists.specs.Stored.{stored_none, stored_next, stored_all}
use Rattle.tables.specs.Tables.{byte_at}
use Rattle.tables.proofs.to_bytes.Goals as goal

pub loop-v-init : goal.loop-v-init
loop-v-init c = stored_none

pub loop-v-preserved : goal.loop-v-preserved
unfolding byte_at
loop-v-preserved c = stored_next c.loop-v.invariant c.to_byte.ensures

pub returns : goal.returns
returns c = stored_all c.loop-v.invariant refl (search rules)
