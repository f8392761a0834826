-- `lookup::replace` meets its contract: the loop replaces one value after another; the place it
-- reads is as it was when the loop began.
use Rattle.std.proofs.Common.{arith, rules, zero-add}
use Rattle.std.specs.Float.{nan}
use Rattle.lists.specs.Stored.{stored_none, stored_next, stored_end, stored_here, stored_inside}
use Rattle.lookup.specs.Lookup.{index_from, looked}
use Rattle.lookup.proofs.replace.Goals as goal

pub loop-j-init : goal.loop-j-init
loop-j-init c = stored_none

pub blend-requires : goal.blend-requires
unfolding index_from
blend-requires c =
    let found = stored_inside c.requires.stored c.loop-j.j 0 (omega arith) (omega arith) (omega arith) in (
      search rules,
      rw (stored_here c.loop-j.invariant nan) (rw zero-add at found),
    )

pub loop-j-preserved : goal.loop-j-preserved
unfolding looked
loop-j-preserved c =
    let r = c.loop-j.invariant in
    stored_next r (rw (← stored_here r nan) c.blend.ensures)

pub returns : goal.returns
returns c = stored_end c.loop-j.invariant (omega arith)
