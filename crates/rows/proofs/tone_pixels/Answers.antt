-- `rows::tone_pixels` meets its contract: what the eights left, pixel after pixel.
use Rattle.std.proofs.Common.{arith, refl, mul-le-mul_right}
use Rattle.lists.specs.Replaced.{replaced_each}
use Rattle.rows.proofs.Walk.{pixel_next}
use Rattle.rows.proofs.tone_pixels.Goals as goal

pub loop-x-preserved : goal.loop-x-preserved
loop-x-preserved g c = pixel_next _ _ refl c.requires.0 c.loop-x.invariant c.tone_pixel.ensures

pub returns : goal.returns
returns g c =
    replaced_each c.loop-x.invariant
    (omega (arith, mul-le-mul_right {m = c.args.w} {n = c.loop-x.x} g.row.P (omega arith)))
