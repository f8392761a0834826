-- `rows::tone_pixel` meets its contract: one channel after another.
use Rattle.std.proofs.Common.{arith, ◌∙◌, sym}
use Rattle.lists.specs.Replaced.{replaced_none, replaced_next, replaced_end}
use Rattle.rows.proofs.Walk.{pixel_channel}
use Rattle.rows.proofs.tone_pixel.Goals as goal

pub loop-c-init : goal.loop-c-init
loop-c-init g c = replaced_end replaced_none (omega arith)

pub loop-c-preserved : goal.loop-c-preserved
loop-c-preserved g c =
    let looked = rw c.of.ensures at c.look.ensures in
    replaced_end
    (replaced_next c.loop-c.invariant (looked ∙ sym (pixel_channel c.args.i c.loop-c.c _ _)))
    (omega arith)
