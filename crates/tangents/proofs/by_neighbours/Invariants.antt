-- `by_neighbours`: the loop stores the rule's element at each place.
use Rattle.std.proofs.Common.{ℕ, Float}
use Rattle.lists.specs.Stored.{Stored}
use Rattle.tangents.specs.CatmullRom.{Follows}
use Rattle.tangents.proofs.by_neighbours.Given as goal

abbrev pub invariant-loop-i : goal.invariant-loop-i
invariant-loop-i g l =
    (rule : ℕ → Float) → Follows (goal.F-post g l.f) l.knots.xs l.knots.ys l.n rule
    → Stored rule 0 l.i l.initial.tangents l.tangents
