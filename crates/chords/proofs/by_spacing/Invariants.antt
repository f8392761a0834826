-- `by_spacing`: the first tangent, the loop's, and the last, by the row of spacings.
use Rattle.std.proofs.Common.{Bool}
use Rattle.lists.specs.Stored.{Stored}
use Rattle.chords.specs.Alpha.{alpha_at, Spaces}
use Rattle.chords.proofs.by_spacing.Given as goal

abbrev pub invariant-loop-i : goal.invariant-loop-i
invariant-loop-i g l =
    (centripetal : Bool) → Spaces (goal.F-post g l.spacing) centripetal
    → Stored (alpha_at centripetal l.knots.xs l.knots.ys l.knots.count) 1 l.i l.initial.tangents l.tangents
