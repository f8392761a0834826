use Rattle.std.proofs.Common.{◌≡◌, ◌*◌}
use Rattle.lists.specs.Replaced.{Replaced}
use Rattle.rows.specs.Bytes.{row_byte}
use Rattle.rows.specs.Lent.{by_channel}
use Rattle.rows.specs.Rows.{plane_byte}
use Rattle.rows.proofs.tone_plane.Given as goal

abbrev pub invariant-loop-y : goal.invariant-loop-y
invariant-loop-y g l =
    let row = l.grid.w * g.row.P in
    let rule = row_byte g.row.P g.row.K (by_channel l.tables) in
    (l.row ≡ row)
    × Replaced 0 (plane_byte row l.grid.h l.grid.step rule) 0 (l.y * l.grid.step) l.initial.plane
    l.plane
