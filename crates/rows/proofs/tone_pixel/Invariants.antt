use Rattle.std.proofs.Common.{◌+◌}
use Rattle.lists.specs.Replaced.{Replaced}
use Rattle.rows.specs.Bytes.{pixel_byte}
use Rattle.rows.specs.Lent.{by_channel}
use Rattle.rows.proofs.tone_pixel.Given as goal

abbrev pub invariant-loop-c : goal.invariant-loop-c
invariant-loop-c g l =
    Replaced 0 (pixel_byte l.i (by_channel l.tables)) l.i (l.i + l.c) l.initial.s l.s
