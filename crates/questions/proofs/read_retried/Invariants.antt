-- `read_retried`: a read that was interrupted took nothing.
use Rattle.std.proofs.Common.{◌≡◌, length}
use Rattle.std.specs.Io.KnownBytes.{Keeps}
use Rattle.questions.proofs.read_retried.Given as goal

abbrev pub invariant-loop : goal.invariant-loop
invariant-loop g l =
    (length l.buffer ≡ length l.initial.buffer)
    × Keeps (g.R.Read.remaining l.initial.input) (g.R.Read.remaining l.input)
