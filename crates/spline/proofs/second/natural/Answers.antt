-- `second::natural`: the unknowns are those of the inner knots, and the ends are 0.
use Rattle.std.proofs.Common.{◌≡◌, ◌-◌, arith, rules}
use Rattle.spline.specs.declared.SplineBoundary.TheVariants.{Natural}
use Rattle.spline.specs.Second.{row_at, unknown, natural_at}
use Rattle.spline.proofs.Rows.{framed_row}
use Rattle.spline.proofs.second.natural.Goals as goal

pub returns : goal.returns
unfolding natural_at unknown
returns c =
    let knots = c.args.knots.now in
    let n = knots.count in
    let rows = row_at knots.xs knots.ys n Natural in
    let solved = c.thomas_solve.ensures rows (n - 2) (omega arith)
    (λ k r low e. let is : r ≡ rows k = search rules in is) in
    framed_row _ _ _ (omega arith) (omega arith) solved _ _
