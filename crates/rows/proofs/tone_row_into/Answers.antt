-- `rows::tone_row_into` meets its contract: block after block.
use Rattle.std.proofs.Common.{◌≡◌, ℕ, arith, ap, sym, ◌*◌, min, zero-mul, mul-le-mul_right}
use Rattle.lists.specs.Stored.{stored_none, stored_end}
use Rattle.rows.specs.Places.{mul_part}
use Rattle.rows.proofs.Walk.{block_next, row_from, row_done}
use Rattle.rows.proofs.tone_row_into.Goals as goal

pub loop-x-init : goal.loop-x-init
loop-x-init g c =
    let none : min 0 c.args.w ≡ 0 = omega arith in
    stored_end stored_none (rw none (sym (zero-mul _)))

pub slice_bounds-tone_block_into-end : goal.slice_bounds-tone_block_into-end
slice_bounds-tone_block_into-end g c =
    omega (arith, mul_part c.loop-x.x c.min-n.result c.args.w g.row.P (omega arith))

pub loop-x-preserved : goal.loop-x-preserved
loop-x-preserved g c =
    let pixels = λ (n : ℕ). n * g.row.P in
    stored_end
    (block_next {w = c.args.w} g.row.P _ _ c.loop-x.x c.min-n.result (row_from _ _ _ _)
    (omega arith) (omega arith) (omega arith)
    (stored_end c.loop-x.invariant (ap pixels (omega arith))) c.tone_block_into-in-loop-x.ensures)
    (ap pixels (omega arith))

pub returns-else-w-le128 : goal.returns-else-w-le128
returns-else-w-le128 g c =
    row_done _ _ c.loop-x.invariant (omega arith)
    (omega (arith, mul-le-mul_right {m = c.args.w} {n = min c.loop-x.x c.args.w} g.row.P (omega arith)))

pub returns-else-w-le128-2 : goal.returns-else-w-le128-2
returns-else-w-le128-2 g c =
    let pixels = λ (n : ℕ). n * g.row.P in
    row_done _ _
    (stored_end
    (block_next {w = c.args.w} g.row.P _ _ c.loop-x.x c.min-n.result (row_from _ _ _ _)
    (omega arith) (omega arith) (omega arith)
    (stored_end c.loop-x.invariant (ap pixels (omega arith))) c.tone_block_into-in-loop-x.ensures)
    (ap pixels {y = c.args.w} (omega arith)))
    (omega arith) (omega arith)
