-- `calls::table`: the refusals of the list and the kind first, with the output as it was; then the
-- byte table is put there.
use Rattle.std.proofs.Common.{ap, sym, ◌∙◌, [], ◌∷◌, length, to_z-of_z}
use Rattle.answers.specs.Numbers.{number_of, answer_of}
use Rattle.answers.specs.Checks.{room_check}
use Rattle.answers.proofs.NumberLaws.{number_done, exit_refused}
use Rattle.answers.proofs.CheckLaws.{first_stops, first_goes_on}
use Rattle.tone_c.specs.Boundary.{given_checks}
use Rattle.tone_c.proofs.calls.table.Goals as goal

pub returns-in_err-curve : goal.returns-in_err-curve
returns-in_err-curve c =
    let A = c.args in
    rw (exit_refused c.from_residual.result c.from_residual.ensures.1)
    (record {
      number =
          ap number_of
          (first_stops (given_checks A.points.now A.kind) (room_check 256 (length A.table.now) ∷ [])
          (sym c.curve_of.ensures.answer ∙ ap answer_of c.in_err-curve.was));
      table = rw (number_done _);
    })

pub returns : goal.returns
returns c =
    let A = c.args in
    let put = c.put_table.ensures in
    record {
      number =
          ap number_of
          (first_goes_on (given_checks A.points.now A.kind) (room_check 256 (length A.table.now) ∷ [])
          (sym c.curve_of.ensures.answer ∙ ap answer_of c.in_ok-curve.was) put.answer);
      table =
          rw (number_done c.put_table.result)
          (rw (
            c.in_ok-curve.ensures.kind,
            c.in_ok-curve.ensures.list,
            to_z-of_z c.ranges.start_slope,
            to_z-of_z c.ranges.end_slope,
          )
          at put.table);
    }
