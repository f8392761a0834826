-- `calls::plane`: an unknown format first, with the plane as it was; the rest is the one-table call.
use Rattle.std.proofs.Common.{ap, sym, ◌∙◌, [], ◌∷◌, length}
use Rattle.answers.specs.Numbers.{number_of}
use Rattle.answers.proofs.NumberLaws.{number_done, exit_refused}
use Rattle.answers.proofs.CheckLaws.{first_stops, first_goes_on}
use Rattle.formats.specs.Formats.{format_of}
use Rattle.formats.specs.Checks.{lut_checks, lut_answer}
use Rattle.tone_c.specs.Boundary.{format_check}
use Rattle.tone_c.proofs.GivenFormat.{format_refused, format_passed, format_is}
use Rattle.tone_c.proofs.calls.plane.Goals as goal

pub returns-in_err-pixel_format : goal.returns-in_err-pixel_format
returns-in_err-pixel_format c =
    let A = c.args in
    rw (exit_refused c.from_residual.result c.from_residual.ensures.1)
    (record {
      number =
          ap number_of
          (first_stops (format_check A.format ∷ [])
          (lut_checks (format_of A.format) A.width A.height A.step (length A.plane.now))
          (format_refused A.format (sym c.try_from.ensures ∙ c.in_err-pixel_format.was)));
      plane = rw (number_done _);
    })

pub returns : goal.returns
unfolding lut_answer
returns c =
    let A = c.args in
    let checks = lut_checks (format_of A.format) A.width A.height A.step (length A.plane.now) in
    let known = sym c.try_from.ensures ∙ c.in_ok-pixel_format.was in
    let call = rw (format_is A.format known) at c.apply_tone_lut.ensures in
    record {
      number = ap number_of (first_goes_on (format_check A.format ∷ []) checks (format_passed A.format known) call.answer);
      plane = rw (number_done c.apply_tone_lut.result) call.plane;
    }
