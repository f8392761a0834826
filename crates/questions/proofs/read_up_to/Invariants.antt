-- `read_up_to`: the bytes so far are the first of the input, and the rest of it is left.
use Rattle.std.proofs.Common.{◌≡◌, ◌≤◌, IfSome, take}
use Rattle.questions.specs.Reading.{IsPast}
use Rattle.questions.proofs.read_up_to.Given as goal

abbrev pub invariant-loop-at : goal.invariant-loop-at
invariant-loop-at g l =
    (l.at ≤ l.n)
    × IfSome (g.R.Read.remaining l.initial.input) (λ s. l.bytes.items ≡ take l.at s)
    × IsPast l.at (g.R.Read.remaining l.initial.input) (g.R.Read.remaining l.input)
