use Rattle.std.proofs.Common.{◌*◌}
use Rattle.lists.specs.Replaced.{Replaced}
use Rattle.rows.specs.Bytes.{row_byte}
use Rattle.rows.specs.Lent.{by_channel}
use Rattle.rows.proofs.tone_pixels.Given as goal

abbrev pub invariant-loop-x : goal.invariant-loop-x
invariant-loop-x g l =
    Replaced 0 (row_byte g.row.P g.row.K (by_channel l.tables)) 0 (l.x * g.row.P) l.fn.s l.s
