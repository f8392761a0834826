-- `lookup::clamp_unit` meets its contract: its two tests are those of the definition.
use Rattle.lookup.specs.Lookup.{clamped_unit}
use Rattle.lookup.proofs.clamp_unit.Goals as goal

pub returns-then-v : goal.returns-then-v
unfolding clamped_unit
returns-then-v c = rw c.if-v.true

pub returns-then-v-2 : goal.returns-then-v-2
unfolding clamped_unit
returns-then-v-2 c = rw (c.if-v.false, c.if-v-2.true)

pub returns : goal.returns
unfolding clamped_unit
returns c = rw (c.if-v.false, c.if-v-2.false)
