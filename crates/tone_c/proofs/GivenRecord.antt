-- A record that is read: refused by its checks, or a set as the reader hands it back.
use Rattle.std.specs.Prelude.{ℕ, ◌≡◌, List, Ok, Err}
use Rattle.std.proofs.Common.{sym, ap, ◌∙◌}
use Rattle.answers.specs.declared.Refusal.{Refusal}
use Rattle.answers.specs.Numbers.{done}
use Rattle.answers.specs.Checks.{first_refusal}
use Rattle.sets.specs.declared.Curves.{Curves}
use Rattle.records.specs.Checks.{record_checks}
use Rattle.records.specs.Format.{Read}
use Rattle.records.specs.Views.{ReadSetCall, ReadRecordCall}
use Rattle.records.proofs.AnswerLaws.{read_answer}

module _ (stored : List ℕ) where
  pub record_refused : {e : Refusal} → ReadSetCall stored (Err e)
      → first_refusal (record_checks stored) ≡ Err e
  record_refused call = sym (ap (λ (r : Read). r.answer) call.is ∙ read_answer stored)

  pub record_passed : {set : Curves} → ReadSetCall stored (Ok set)
      → first_refusal (record_checks stored) ≡ done
  record_passed call = sym (ap (λ (r : Read). r.answer) call.is ∙ read_answer stored)

  pub record_read : {set : Curves} → ReadSetCall stored (Ok set)
      → ReadRecordCall stored (record { answer = done; set = set })
  record_read call = record {
    answer = ap (λ (r : Read). r.answer) call.is;
    set = ap (λ (r : Read). r.set) call.is;
    legal = call.whole.legal;
    full = call.whole.full;
  }
