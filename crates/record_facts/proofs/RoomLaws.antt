-- Into 522 bytes the writer never answers 13, by its definition and in any run.
use Rattle.std.specs.Prelude.{ℕ, ◌≤◌, ◌≡◌, List, length, Result, Err}
use Rattle.std.proofs.Common.{ap, ◌∙◌}
use Rattle.std.proofs.Math.Path.{sym}
use Rattle.answers.specs.declared.Refusal.{Refusal}
use Rattle.answers.specs.declared.Refusal.TheVariants.{OutputTooSmall}
use Rattle.answers.specs.Numbers.{number_of, answer_of}
use Rattle.points.specs.declared.Heights.TheVariants.{Whole}
use Rattle.sets.specs.declared.Curves.{Curves}
use Rattle.sets.specs.Sets.{set_answer}
use Rattle.records.specs.Format.{longest}
use Rattle.writing.specs.Encode.{write_record}
use Rattle.writing.specs.Cases.{run_answer}
use Rattle.writing.specs.Statements.{WriteRecordCall}
use Rattle.record_facts.specs.Room.{longest_suffices, set_never}
use borrow.Author.Tests.{eqb-false}

module _ (s : Curves) (buffer : List ℕ) (enough : longest ≤ length buffer) where
  -- the answer is never 13
  pub never_thirteen : (write_record s buffer).answer ≡ Err OutputTooSmall → ⊥
  never_thirteen e =
      eqb-false (number_of (set_answer Whole s)) 13 (set_never s)
      (ap number_of (sym (longest_suffices s buffer enough) ∙ e))

-- into a buffer of 522 bytes or more every set is written that passes the writer's check of its
-- lists, and none is refused with 13
pub always_fits : {set : Curves} {before after : List ℕ} {w : Result ℕ Refusal}
    → WriteRecordCall set before w after
    → longest ≤ length before
    → (answer_of w ≡ set_answer Whole set) × (w ≡ Err OutputTooSmall → ⊥)
always_fits {set} {before} wrote room =
    let same = run_answer wrote in
    (same ∙ longest_suffices set before room, λ e. never_thirteen set before room (sym same ∙ ap answer_of e))
