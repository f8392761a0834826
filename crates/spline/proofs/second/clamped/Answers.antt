-- `second::clamped`: the unknowns are those of all knots.
use Rattle.std.proofs.Common.{◌≡◌, arith, rules}
use Rattle.spline.specs.declared.SplineBoundary.TheVariants.{Clamped}
use Rattle.spline.specs.Second.{row_at, unknown, second_at}
use Rattle.spline.proofs.Rows.{lent_front}
use Rattle.spline.proofs.second.clamped.Goals as goal

pub returns : goal.returns
unfolding second_at unknown
returns c =
    let knots = c.args.knots.now in
    let n = knots.count in
    let rows = row_at knots.xs knots.ys n (Clamped c.args.s0 c.args.s1) in
    let solved = c.thomas_solve.ensures rows n (omega arith)
    (λ k r low e. let is : r ≡ rows k = search rules in is) in
    lent_front _ n _ (omega arith) solved
