-- `calls::record_table`: the record's refusals first, with the output as it was; then the table of
-- the record's master is put there.
use Rattle.std.proofs.Common.{ap, [], ◌∷◌, length}
use Rattle.answers.specs.Numbers.{number_of}
use Rattle.answers.specs.Checks.{room_check}
use Rattle.answers.proofs.NumberLaws.{number_done, exit_refused}
use Rattle.answers.proofs.CheckLaws.{first_stops, first_goes_on}
use Rattle.tables.specs.Tables.{byte_table}
use Rattle.sets.specs.Sets.{View}
use Rattle.records.specs.Checks.{record_checks}
use Rattle.tone_c.proofs.GivenRecord.{record_refused, record_passed, record_read}
use Rattle.tone_c.proofs.calls.record_table.Goals as goal

pub returns-in_err-set : goal.returns-in_err-set
returns-in_err-set c =
    let A = c.args in
    rw (exit_refused c.from_residual.result c.from_residual.ensures.1)
    (record {
      number =
          ap number_of
          (first_stops (record_checks A.«record».now) (room_check 256 (length A.table.now) ∷ [])
          (record_refused A.«record».now (rw c.in_err-set.was at c.read_set.ensures)));
      table = rw (number_done _);
    })

pub returns : goal.returns
returns c =
    let A = c.args in
    let call = rw c.in_ok-set.was at c.read_set.ensures in
    let put = c.put_table.ensures in
    record {
      number =
          ap number_of
          (first_goes_on (record_checks A.«record».now) (room_check 256 (length A.table.now) ∷ [])
          (record_passed A.«record».now call) put.answer);
      table =
          rw (
            number_done c.put_table.result,
            ← ap (λ (set : View). byte_table set.kind set.master) (record_read A.«record».now call).set,
          )
          put.table;
    }
