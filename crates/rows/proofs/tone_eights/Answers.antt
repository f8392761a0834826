-- `rows::tone_eights` meets its contract: eight after eight; fewer than eight are left.
use Rattle.std.proofs.Common.{arith, refl, ap, ℕ, ◌*◌}
use Rattle.lists.specs.Replaced.{replaced_none, replaced_then, replaced_end}
use Rattle.rows.proofs.tone_eights.Goals as goal

pub loop-left-init : goal.loop-left-init
loop-left-init g c = (omega arith, refl, replaced_end replaced_none (omega arith))

pub loop-left-preserved : goal.loop-left-preserved
loop-left-preserved g c =
    (omega arith, omega arith, replaced_then c.loop-left.invariant.2 c.tone_eight.ensures)

pub returns : goal.returns
returns g c =
    replaced_end c.loop-left.invariant.2 (ap (λ (n : ℕ). n * g.row.P) (omega arith))
