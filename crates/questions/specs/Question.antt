-- What a question is read from.
use Rattle.std.specs.Prelude.{ℕ, List}
use Rattle.questions.specs.declared.Question.{Question}

-- the line of a question
abbrev pub line_of : {n : ℕ} → Question n → List ℕ
line_of q = q.line
