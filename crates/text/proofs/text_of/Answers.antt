-- `text_of`: the text of the table or of the refusal.
use Rattle.std.specs.Prelude.{Err}
use Rattle.text.specs.Text.{printed}
use Rattle.text.proofs.Laws.{two_digits}
use Rattle.text.proofs.text_of.Goals as goal

pub refusal_text-requires : goal.refusal_text-requires
refusal_text-requires c = rw c.number.ensures (two_digits (Err c.in-Err.refusal))

pub returns-in-Ok : goal.returns-in-Ok
unfolding printed
returns-in-Ok c = rw (c.table_text.ensures, c.entries_of.ensures, ← c.in-Ok.ensures.is)

pub returns-in-Err : goal.returns-in-Err
unfolding printed
returns-in-Err c = rw (c.refusal_text.ensures, c.number.ensures, ← c.in-Err.ensures.is)
