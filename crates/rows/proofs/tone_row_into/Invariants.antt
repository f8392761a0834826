use Rattle.std.proofs.Common.{◌*◌, min}
use Rattle.lists.specs.Replaced.{replacing}
use Rattle.lists.specs.Stored.{Stored}
use Rattle.rows.specs.Bytes.{row_byte}
use Rattle.rows.specs.Lent.{by_channel}
use Rattle.rows.proofs.tone_row_into.Given as goal

abbrev pub invariant-loop-x : goal.invariant-loop-x
invariant-loop-x g l =
    Stored (replacing 0 (row_byte g.row.P g.row.K (by_channel l.tables)) l.src)
    0 (min l.x l.w * g.row.P) l.initial.dst l.dst
