-- `Spline::draw`: a turn draws the block at the cursor, by the coefficients of its piece.
use Rattle.std.proofs.Common.{refl, arith, rules, ◌≡◌, get_or, ◌+◌}
use Rattle.std.specs.Float.{nan}
use Rattle.lists.specs.Stored.{stored_inside}
use Rattle.spline.specs.Segments.{spline_piece}
use Rattle.sampling.specs.Pieces.{piece_height}
use Rattle.sampling.specs.Walk.{first_coefficient_at, third_coefficient_at, spline_sample, piece_sample}
use Rattle.sampling.proofs.Walk.{next, start, after_block}
use Rattle.sampling.proofs.splines.SplineDrawn.draw.Goals as goal

pub loop-p-init : goal.loop-p-init
loop-p-init c = (omega arith, start refl (omega arith))

pub loop-p-smaller : goal.loop-p-smaller
loop-p-smaller c = omega (arith, next c.loop-p.invariant.1.room c.requires (omega arith) c.next-p.ensures)

pub loop-p-preserved : goal.loop-p-preserved
unfolding spline_sample piece_sample piece_height spline_piece first_coefficient_at third_coefficient_at
loop-p-preserved c =
    let p = c.loop-p.p in
    let state = c.loop-p.invariant.1 in
    let rows = c.coefficients.ensures in
    let given = c.requires in
    let first = stored_inside rows.first p.i nan (omega arith) (omega arith) (omega arith) in
    let third = stored_inside rows.third p.i nan (omega arith) (omega arith) (omega arith) in
    let on = next state.room given (omega arith) c.next-p.ensures in (
      omega arith,
      after_block state on given.step_is
          (c.four.ensures _ (λ j y low e.
          let is : y ≡ spline_sample c.at-a.result (get_or c.coefficients.new.c1s p.i nan) c.second_coefficient-c2.result (get_or c.coefficients.new.c3s p.i nan) c.args.step (p.v + j) = search rules in rw (is, c.at-a.ensures, first, c.second_coefficient-c2.ensures, third, given.right.wide p.i state.room))),
    )
