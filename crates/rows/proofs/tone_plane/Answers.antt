-- `rows::tone_plane` meets its contract: row after row, each with the padding behind it.
use Rattle.std.proofs.Common.{arith, refl, ◌*◌, zero-mul}
use Rattle.lists.specs.Replaced.{replaced_none, replaced_end}
use Rattle.rows.specs.Bytes.{row_byte}
use Rattle.rows.specs.Lent.{by_channel}
use Rattle.rows.specs.Places.{mul_last, mul_bound}
use Rattle.rows.specs.Laws.{rows_inside, below_rows, no_columns_lem}
use Rattle.rows.proofs.Walk.{plane_next, plane_done}
use Rattle.rows.proofs.tone_plane.Goals as goal

pub returns-then-grid-eq0 : goal.returns-then-grid-eq0
returns-then-grid-eq0 g c =
    plane_done _ _ _ _ replaced_none
    (λ k low. no_columns_lem _ _ _ k (rw c.if-grid-eq0.true (zero-mul _)))

pub loop-y-init : goal.loop-y-init
loop-y-init g c = (refl, replaced_end replaced_none (omega arith))

-- the row lies in the plane, so its bounds fit too
pub slice_bounds-tone_pixels-end : goal.slice_bounds-tone_pixels-end
slice_bounds-tone_pixels-end g c =
    omega (arith, rows_inside c.loop-y.y c.requires.1 c.if-grid-eq0.false c.loop-y-test.true)

pub overflow_mul-at : goal.overflow_mul-at
overflow_mul-at g c =
    omega (arith, rows_inside c.loop-y.y c.requires.1 c.if-grid-eq0.false c.loop-y-test.true)

pub overflow_add-end : goal.overflow_add-end
overflow_add-end g c =
    omega (arith, rows_inside c.loop-y.y c.requires.1 c.if-grid-eq0.false c.loop-y-test.true)

pub loop-y-preserved : goal.loop-y-preserved
loop-y-preserved g c =
    let grid = c.args.grid in
    let rule = row_byte g.row.P g.row.K (by_channel c.args.tables) in
    let below = c.loop-y-test.true in
    let inside = rows_inside c.loop-y.y c.requires.1 c.if-grid-eq0.false below in
    let before = c.loop-y.invariant.1 in (
      omega arith,
      plane_next (grid.w * g.row.P) grid.h grid.step rule c.loop-y.y
          c.requires.1.stepped below (omega (arith, inside)) before c.tone_pixels.ensures,
    )

pub returns : goal.returns
returns g c =
    let grid = c.args.grid in
    let some = mul_bound 1 1 grid.w g.row.P (omega arith) c.requires.0.0 in
    plane_done _ _ _ _
    (replaced_end c.loop-y.invariant.1
    (mul_last c.loop-y.y grid.h _ (omega arith) (omega arith)))
    (λ k low. below_rows _ _ _ k (omega arith) low)
