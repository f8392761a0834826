use Rattle.std.proofs.Common.{◌+◌, ◌*◌}
use Rattle.lists.specs.Replaced.{Replaced}
use Rattle.rows.specs.Bytes.{row_byte}
use Rattle.rows.specs.Lent.{by_channel}
use Rattle.rows.proofs.tone_eight.Given as goal

abbrev pub invariant-loop-k : goal.invariant-loop-k
invariant-loop-k g l =
    Replaced 0 (row_byte g.row.P g.row.K (by_channel l.tables)) (l.x * g.row.P) ((l.x + l.k) * g.row.P)
    l.initial.s l.s
