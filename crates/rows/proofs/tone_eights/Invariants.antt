use Rattle.std.proofs.Common.{◌≡◌, ◌+◌, ◌*◌, ◌%◌}
use Rattle.lists.specs.Replaced.{Replaced}
use Rattle.rows.specs.Bytes.{row_byte}
use Rattle.rows.specs.Lent.{by_channel}
use Rattle.rows.proofs.tone_eights.Given as goal

abbrev pub invariant-loop-left : goal.invariant-loop-left
invariant-loop-left g l =
    (l.x + l.left ≡ l.w) × (l.x % 8 ≡ 0)
    × Replaced 0 (row_byte g.row.P g.row.K (by_channel l.tables)) 0 (l.x * g.row.P) l.initial.s l.s

abbrev pub decreases-loop-left : goal.decreases-loop-left
decreases-loop-left g l = l.left
