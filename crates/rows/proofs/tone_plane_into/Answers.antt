-- `rows::tone_plane_into` meets its contract: row after row, at the step out of the plane and
-- tight into the destination.
use Rattle.std.proofs.Common.{arith, refl, sym, ◌*◌, zero-mul, mul-zero}
use Rattle.lists.specs.Stored.{stored_none, stored_end, stored_front}
use Rattle.rows.specs.Places.{mul_next, mul_room, mul_last}
use Rattle.rows.specs.Laws.{rows_inside, tight_row}
use Rattle.rows.proofs.Walk.{part_next}
use Rattle.rows.proofs.tone_plane_into.Goals as goal

pub returns-then-grid-eq0 : goal.returns-then-grid-eq0
returns-then-grid-eq0 g c =
    stored_front stored_none (rw (c.if-grid-eq0.true, zero-mul, mul-zero)) (omega arith)

pub loop-y-init : goal.loop-y-init
loop-y-init g c = (refl, stored_end stored_none (omega arith))

-- the row lies in the plane, so its bounds fit too
pub slice_bounds-tone_row_into-end : goal.slice_bounds-tone_row_into-end
slice_bounds-tone_row_into-end g c =
    omega (arith, rows_inside _ c.requires.1 c.if-grid-eq0.false c.loop-y-test.true)

pub overflow_mul-from : goal.overflow_mul-from
overflow_mul-from g c =
    omega (arith, rows_inside _ c.requires.1 c.if-grid-eq0.false c.loop-y-test.true)

pub overflow_add-from : goal.overflow_add-from
overflow_add-from g c =
    omega (arith, rows_inside _ c.requires.1 c.if-grid-eq0.false c.loop-y-test.true)

pub loop-y-preserved : goal.loop-y-preserved
loop-y-preserved g c =
    let grid = c.args.grid in
    let y = c.loop-y.y in
    let source = rows_inside y c.requires.1 c.if-grid-eq0.false c.loop-y-test.true in
    let target = mul_room y grid.h (grid.w * g.row.P) c.loop-y-test.true in (
      omega arith,
      stored_end
          (part_next _ _ _ _ _ _ (omega (arith, source)) (omega (arith, target)) c.loop-y.invariant.1
          c.tone_row_into.ensures (λ c lt. sym (tight_row _ _ _ _ _ c lt)))
          (sym (mul_next _ _)),
    )

pub returns : goal.returns
returns g c =
    let grid = c.args.grid in
    stored_front c.loop-y.invariant.1
    (mul_last c.loop-y.y grid.h (grid.w * g.row.P) (omega arith) (omega arith)) (omega arith)
