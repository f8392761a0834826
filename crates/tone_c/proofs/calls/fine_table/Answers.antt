-- `calls::fine_table`: refused, with the table as it was; else the samples are written.
use Rattle.std.proofs.Common.{ap, ◌≡◌, sym, ◌∙◌, [], ◌∷◌, rules, length, to_z-of_z}
use Rattle.answers.specs.Numbers.{number_of, answer_of, done}
use Rattle.answers.specs.Checks.{first_refusal}
use Rattle.answers.proofs.NumberLaws.{number_done, exit_refused}
use Rattle.answers.proofs.CheckLaws.{first_stops, first_goes_on}
use Rattle.points.specs.Joined.{FullRows, typed_rows}
use Rattle.tables.specs.Tables.{length_check}
use Rattle.tables.specs.Lengths.{length_passed}
use Rattle.tone_c.specs.Boundary.{given_checks}
use Rattle.tone_c.proofs.calls.fine_table.Goals.{In_ok-curve}
use Rattle.tone_c.proofs.calls.fine_table.Goals as goal

passed : (c : In_ok-curve) → first_refusal (given_checks c.args.points.now c.args.kind) ≡ done
passed c = sym c.curve_of.ensures.answer ∙ ap answer_of c.in_ok-curve.was

pub returns-in_err-curve : goal.returns-in_err-curve
returns-in_err-curve c =
    let A = c.args in
    rw (exit_refused c.from_residual.result c.from_residual.ensures.1)
    (record {
      number =
          ap number_of
          (first_stops (given_checks A.points.now A.kind) (length_check (length A.table.now) ∷ [])
          (sym c.curve_of.ensures.answer ∙ ap answer_of c.in_err-curve.was));
      table = rw (number_done _);
    })

pub returns-in_err-length_answer : goal.returns-in_err-length_answer
returns-in_err-length_answer c =
    let A = c.args in
    rw (exit_refused c.from_residual-in_err-length_answer.result c.from_residual-in_err-length_answer.ensures.1)
    (record {
      number =
          ap number_of
          (first_goes_on (given_checks A.points.now A.kind) (length_check (length A.table.now) ∷ [])
          (passed (goal.at.returns-in_err-length_answer c).In_ok-curve)
          (sym c.in_err-length_answer.was ∙ c.length_answer.ensures));
      table = rw (number_done _);
    })

pub sample_curve-requires : goal.sample_curve-requires
sample_curve-requires c =
    let list = c.in_ok-curve.curve in
    let full : FullRows list = search rules in
    record {
      rows = typed_rows list full (λ i. search rules) (λ i. search rules);
      counts = length_passed _ (sym c.length_answer.ensures ∙ c.in_ok-length_answer.was);
    }

pub returns : goal.returns
returns c =
    let A = c.args in
    record {
      number =
          ap number_of
          (first_goes_on (given_checks A.points.now A.kind) (length_check (length A.table.now) ∷ [])
          (passed (goal.at.returns c).In_ok-curve) (sym c.in_ok-length_answer.was ∙ c.length_answer.ensures));
      table =
          c.sample_curve.ensures
          ∙ rw (
            c.in_ok-curve.ensures.kind,
            c.in_ok-curve.ensures.list,
            to_z-of_z c.ranges.start_slope,
            to_z-of_z c.ranges.end_slope,
          );
    }
