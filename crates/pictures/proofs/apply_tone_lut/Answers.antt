-- `apply_tone_lut`: a plane that passes has its rows, which the kernel tones.
use Rattle.std.proofs.Common.{refl, sym, ◌∙◌, length}
use Rattle.answers.proofs.NumberLaws.{exit_refused}
use Rattle.formats.specs.CheckLaws.{GoodPlane, lut_done}
use Rattle.formats.specs.FormatLaws.{in_place}
use Rattle.pictures.proofs.apply_tone_lut.Goals.{In_ok-lut_answer}
use Rattle.pictures.proofs.apply_tone_lut.Goals as goal

-- the plane has passed
good : (c : In_ok-lut_answer)
    → let A = c.args in
    GoodPlane A.format A.width A.height A.step (length A.plane.now)
good c = lut_done _ _ _ _ _ (sym c.lut_answer.ensures ∙ c.in_ok-lut_answer.was)

pub tone_rows-requires : goal.tone_rows-requires
tone_rows-requires c =
    let p-is = c.bytes_a_pixel.ensures in (
      rw (p-is, c.alpha.ensures) (in_place c.args.format),
      rw p-is (good (goal.at.tone_rows-requires c).In_ok-lut_answer).rows,
    )

pub returns-in_err-lut_answer : goal.returns-in_err-lut_answer
returns-in_err-lut_answer c =
    let is = exit_refused c.from_residual.result c.from_residual.ensures.1 in
    rw is (record { answer = sym c.in_err-lut_answer.was ∙ c.lut_answer.ensures; plane = refl })

pub returns : goal.returns
returns c =
    record {
      answer = sym c.in_ok-lut_answer.was ∙ c.lut_answer.ensures;
      plane = rw (← c.bytes_a_pixel.ensures, ← c.alpha.ensures) c.tone_rows.ensures;
    }
