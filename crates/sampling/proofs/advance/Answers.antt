-- `advance`: each turn is a step of the search.
use Rattle.std.proofs.Common.{◌≡◌, sym, ◌∙◌, ◌-◌, arith}
use Rattle.sampling.proofs.Walk.{seek_stays, seek_last, seek_on}
use Rattle.sampling.proofs.advance.Goals as goal

pub returns-then-not-knots-i : goal.returns-then-not-knots-i
returns-then-not-knots-i c =
    (sym (seek_stays _ _ _ _ c.if-not-knots-i.true (omega arith)) ∙ c.loop-i.invariant, omega arith)

pub loop-i-preserved : goal.loop-i-preserved
loop-i-preserved c =
    sym (seek_on _ _ _ _ c.if-not-knots-i.false (omega arith)) ∙ c.loop-i.invariant

pub returns : goal.returns
returns c =
    let last : c.args.knots.now.count - 2 ≡ c.loop-i.i = omega arith in
    (last ∙ sym (seek_last _ _ _ _ (omega arith)) ∙ c.loop-i.invariant, omega arith)
