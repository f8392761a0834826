-- `rows::tone_eight` meets its contract: pixel after pixel.
use Rattle.std.proofs.Common.{arith, ap, refl, ℕ, ◌*◌}
use Rattle.lists.specs.Replaced.{replaced_none, replaced_end}
use Rattle.rows.proofs.Walk.{pixel_next}
use Rattle.rows.proofs.tone_eight.Goals as goal

pub loop-k-init : goal.loop-k-init
loop-k-init g c = replaced_end replaced_none (ap (λ (n : ℕ). n * g.row.P) (omega arith))

pub loop-k-preserved : goal.loop-k-preserved
loop-k-preserved g c =
    replaced_end
    (pixel_next _ _ refl c.requires.0 c.loop-k.invariant c.tone_pixel.ensures)
    (ap (λ (n : ℕ). n * g.row.P) (omega arith))
