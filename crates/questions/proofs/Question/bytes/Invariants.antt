-- `Question::bytes`: the places below i hold their bytes.
use Rattle.std.proofs.Common.{◌≡◌, length, take}
use Rattle.questions.specs.Questions.{bytes_of}
use Rattle.questions.proofs.Question.bytes.Given as goal

abbrev pub invariant-loop-i : goal.invariant-loop-i
invariant-loop-i g l =
    (length l.bytes ≡ g.row.N) × (take l.i l.bytes ≡ bytes_of l.self.line l.from l.i)
