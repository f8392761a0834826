-- `ends::guess`: the loop stores the rule's element at each place, and all stay
-- right as long as each is.
use Rattle.std.proofs.Common.{◌≡◌, true, ◌+◌}
use Rattle.lists.specs.Stored.{Stored}
use Rattle.sampling.specs.Walk.{end_at, Right}
use Rattle.sampling.proofs.ends.guess.Given as goal

abbrev pub invariant-loop-i : goal.invariant-loop-i
invariant-loop-i l =
    Stored (end_at l.knots.xs l.step) 0 l.i l.initial.ends l.ends
    × (l.right ≡ true → Right l.knots.xs (l.i + 2) l.step)
