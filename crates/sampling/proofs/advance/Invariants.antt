-- `advance`: each turn is a step of the search.
use Rattle.std.proofs.Common.{◌≡◌, ◌-◌}
use Rattle.segments.specs.Segments.{seek}
use Rattle.sampling.proofs.advance.Given as goal

abbrev pub invariant-loop-i : goal.invariant-loop-i
invariant-loop-i l =
    seek l.knots.xs l.x (l.knots.count - 2 - l.i) l.i ≡ seek l.knots.xs l.x (l.knots.count - 2 - l.from) l.from
