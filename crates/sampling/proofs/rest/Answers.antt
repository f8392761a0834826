-- `rest`: the loop stores sample v, of the segment sought from the cursor on.
use Rattle.std.proofs.Common.{arith}
use Rattle.lists.specs.Stored.{stored_none, stored_next}
use Rattle.sampling.specs.Pieces.{height_at, sampled}
use Rattle.sampling.proofs.Walk.{all_done}
use Rattle.sampling.proofs.rest.Goals as goal

pub loop-v-preserved : goal.loop-v-preserved
unfolding sampled height_at
loop-v-preserved g c =
    let pre = c.requires in
    stored_next c.loop-v.invariant
    (rw (
      c.sample_at.ensures,
      c.at.ensures,
      c.advance-i.ensures.0,
      c.position-x.ensures,
      pre.counts.1,
      ← pre.state.ahead c.loop-v.v (omega arith) (omega arith),
    ))

pub loop-v-init : goal.loop-v-init
loop-v-init g c = stored_none

pub returns : goal.returns
returns g c = all_done c.requires.state c.loop-v.invariant (omega arith)
