-- `second::ends_recovered`: the unknowns are those of the inner knots, and the ends
-- are recovered from them.
use Rattle.std.proofs.Common.{◌≡◌, ◌-◌, ◌≤◌, length, arith, rules}
use Rattle.lists.specs.Stored.{stored_as}
use Rattle.spline.specs.declared.SplineBoundary.TheVariants.{NotAKnot}
use Rattle.spline.specs.Second.{row_at, unknown, ends_recovered}
use Rattle.spline.proofs.Rows.{inner_value, framed_row}
use Rattle.spline.proofs.second.ends_recovered.Goals as goal

pub returns : goal.returns
unfolding ends_recovered unknown
returns c =
    let k = c.args.knots.now in
    let n = k.count in
    let l = c.args.row.now in
    let f = unknown k.xs k.ys n NotAKnot in
    let room : n ≤ length l = omega arith in
    let two : 2 ≤ n = omega arith in
    let rows = row_at k.xs k.ys n NotAKnot in
    let solved = c.thomas_solve.ensures rows (n - 2) (omega arith)
    (λ i r low e. let is : r ≡ rows i = search rules in is) in
    let inside = inner_value n f l room two solved in
    stored_as (framed_row n f l room two solved c.recovered-first.result c.recovered-last.result)
    (λ w low high. rw (
      c.recovered-first.ensures,
      c.segment_at.ensures,
      c.segment_at-2.ensures,
      c.recovered-last.ensures,
      c.segment_at-3.ensures,
      c.segment_at-4.ensures,
      inside 1 0 (omega arith) (omega arith),
      inside 2 1 (omega arith) (omega arith),
      inside (n - 2) (n - 3) (omega arith) (omega arith),
      inside (n - 3) (n - 4) (omega arith) (omega arith),
    ))
