use Rattle.std.proofs.Common.{◌≡◌, ◌*◌}
use Rattle.lists.specs.Stored.{Stored}
use Rattle.rows.specs.Bytes.{row_byte}
use Rattle.rows.specs.Lent.{by_channel}
use Rattle.rows.specs.Rows.{tight_byte}
use Rattle.rows.proofs.tone_plane_into.Given as goal

abbrev pub invariant-loop-y : goal.invariant-loop-y
invariant-loop-y g l =
    let row = l.grid.w * g.row.P in
    (l.row ≡ row)
    × Stored (tight_byte row l.grid.step (row_byte g.row.P g.row.K (by_channel l.tables)) l.plane)
    0 (l.y * row) l.initial.dst l.dst
