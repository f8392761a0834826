-- A run with room for the record of a set whose lists pass answers the record's length.
use Rattle.std.specs.Prelude.{ℕ, ◌≤◌, ◌≡◌, List, length, Result, Ok}
use Rattle.std.proofs.Common.{◌∙◌}
use Rattle.answers.specs.declared.Refusal.{Refusal}
use Rattle.answers.specs.Numbers.{done}
use Rattle.points.specs.declared.Heights.TheVariants.{Whole}
use Rattle.sets.specs.declared.Curves.{Curves}
use Rattle.sets.specs.Sets.{view_of, set_answer}
use Rattle.writing.specs.Encode.{encode}
use Rattle.writing.specs.Cases.{write_done}
use Rattle.writing.specs.Statements.{WriteRecordCall}

pub run_writes : {set : Curves} {before after : List ℕ} {r : Result ℕ Refusal}
    → WriteRecordCall set before r after → set_answer Whole set ≡ done
    → length (encode (view_of set)) ≤ length before → r ≡ Ok (length (encode (view_of set)))
run_writes {set} {before} run passed enough = run.answer ∙ rw (write_done set before passed enough)
