-- `thomas::substitute`: from the back, each unknown by the one after it.
use Rattle.std.proofs.Common.{refl, sym, ◌-◌, length, le_refl, arith}
use Rattle.lists.specs.Stored.{stored_none, stored_before, stored_start, stored_all}
use Rattle.spline.specs.Thomas.{swept_in}
use Rattle.spline.specs.ThomasLaws.{substituted_past, substituted_at}
use Rattle.spline.proofs.thomas.substitute.Goals as goal

pub loop-k-init : goal.loop-k-init
loop-k-init c = (stored_none, substituted_past _ _)

pub loop-k-preserved : goal.loop-k-preserved
unfolding swept_in
loop-k-preserved c =
    let inv = c.loop-k.invariant in
    let s = c.args in
    let k = c.loop-k.k in
    let m = length s.unknowns.now in
    let e = substituted_at (swept_in s.aboves.now s.rights.now) m (k - 1) k (omega arith) (omega arith) in
    (stored_before inv.0 (rw inv.1 (sym e)) (omega arith), rw inv.1 (sym e))

pub returns : goal.returns
returns c = stored_all (stored_start c.loop-k.invariant.0 (omega arith)) refl (le_refl _)
