-- `calls::record_copy`: the record's refusals first, with the output and the length as they were; the
-- rest is the writer, whose set the record's reader has checked.
use Rattle.std.proofs.Common.{ap, ℕ, ◌≡◌, refl, sym, ◌∙◌, cond, List, [], ◌∷◌, ◌++◌, ltb, length, drop, Result, Ok, Err}
use Rattle.std.specs.Result.{result_and}
use Rattle.answers.specs.declared.Refusal.{Refusal}
use Rattle.answers.specs.Numbers.{Answer, number_of, answer_of, is_done, done}
use Rattle.answers.specs.Checks.{first_refusal, room_check}
use Rattle.answers.proofs.NumberLaws.{number_done, answer_handed, exit_refused}
use Rattle.answers.proofs.CheckLaws.{first_stops, first_goes_on}
use Rattle.lists.specs.Test.{by_test}
use Rattle.sets.specs.declared.Curves.{Curves}
use Rattle.sets.specs.Sets.{View}
use Rattle.records.specs.declared.RecordRead.{RecordRead}
use Rattle.records.specs.Views.{ReadSetCall, ReadRecordCall}
use Rattle.records.specs.Checks.{record_checks}
use Rattle.writing.specs.Encode.{Write, outcome, encode, write_record}
use Rattle.writing.specs.Statements.{WriteRecordCall}
use Rattle.writing.specs.Cases.{write_passed}
use Rattle.tone_c.specs.Boundary.{copy_of, tone_record_copy_checks}
use Rattle.tone_c.proofs.GivenRecord.{record_refused, record_passed, record_read}
use Rattle.tone_c.proofs.calls.record_copy.Goals as goal

-- what the writer leaves of these bytes, as its answer says
record Left (bytes old : List ℕ) (w : Write) : Type 0 where
  answer-is : w.answer ≡ first_refusal (room_check (length bytes) (length old) ∷ [])
  length-is : w.length ≡ cond (is_done w.answer) (length bytes) 0
  buffer-is : w.buffer ≡ cond (is_done w.answer) (bytes ++ drop (length bytes) old) old

-- the writer on the set that the reader handed back, said of the record
left : (stored old : List ℕ) {handed : RecordRead} → ReadRecordCall stored handed
    → Left (copy_of stored) old (write_record handed.set old)
left stored old {handed} read =
    rw (
      write_passed handed.set old read.legal,
      ap (λ (set : View). outcome (first_refusal (room_check (length (encode set)) (length old) ∷ [])) (encode set) old)
          read.set,
    )
    (by_test (ltb (length old) (length (copy_of stored)))
    (λ short. record { answer-is = rw short; length-is = rw short; buffer-is = rw short })
    (λ fits. record { answer-is = rw fits; length-is = rw fits; buffer-is = rw fits }))

-- a length that is handed back is the writer's
handed_length : (a : Answer) {n m : ℕ} → Ok n ≡ result_and a (Ok m) → (a ≡ done) × (n ≡ m)
handed_length (Ok u) e = (refl, cc)
handed_length (Err r) e = cc

module _ (stored old : List ℕ) {set : Curves} {r : Result ℕ Refusal} {new : List ℕ}
    (read : ReadSetCall stored (Ok set)) (call : WriteRecordCall set old r new) where
  of_record : Left (copy_of stored) old (write_record set old)
  of_record = left stored old (record_read stored read)

  answer_is : answer_of r ≡ (write_record set old).answer
  answer_is = ap answer_of call.answer ∙ answer_handed (write_record set old).answer _

  -- the writer's answer is the call's
  copied_answer : answer_of r ≡ first_refusal (tone_record_copy_checks stored (length old))
  copied_answer =
      first_goes_on (record_checks stored) (room_check (length (copy_of stored)) (length old) ∷ [])
      (record_passed stored read) (answer_is ∙ of_record.answer-is)

  copied_out : new ≡ cond (is_done (answer_of r)) (copy_of stored ++ drop (length (copy_of stored)) old) old
  copied_out = call.buffer ∙ rw answer_is of_record.buffer-is

  copied_length : {n : ℕ} → r ≡ Ok n → n ≡ length (copy_of stored)
  copied_length e =
      let handed = handed_length (write_record set old).answer (sym e ∙ call.answer) in
      handed.1 ∙ of_record.length-is ∙ rw handed.0

pub returns-in_err-set : goal.returns-in_err-set
returns-in_err-set c =
    let A = c.args in
    rw (exit_refused c.from_residual.result c.from_residual.ensures.1)
    (record {
      number =
          ap number_of
          (first_stops (record_checks A.«record».now) (room_check (length (copy_of A.«record».now)) (length A.out.now) ∷ [])
          (record_refused A.«record».now (rw c.in_err-set.was at c.read_set.ensures)));
      out = rw (number_done _);
      written = rw (number_done _);
    })

pub returns-in_err-written : goal.returns-in_err-written
returns-in_err-written c =
    let A = c.args in
    let read = rw c.in_ok-set.was at c.read_set.ensures in
    let call = c.write_record.ensures in
    let was = c.in_err-written.was in
    rw (exit_refused c.from_residual-in_err-written.result c.from_residual-in_err-written.ensures.1)
    (record {
      number = ap number_of (sym (ap answer_of was) ∙ copied_answer A.«record».now A.out.now read call);
      out = rw (number_done _) (rw was at (copied_out A.«record».now A.out.now read call));
      written = rw (number_done _);
    })

pub returns : goal.returns
returns c =
    let A = c.args in
    let read = rw c.in_ok-set.was at c.read_set.ensures in
    let call = c.write_record.ensures in
    let was = c.in_ok-written.was in
    record {
      number = ap number_of (sym (ap answer_of was) ∙ copied_answer A.«record».now A.out.now read call);
      out = rw was at (copied_out A.«record».now A.out.now read call);
      written = copied_length A.«record».now A.out.now read call was;
    }
