-- `calls::picture`: the record's refusals and an unknown format first, with the outputs as they
-- were; the rest is the set call, whose set the record's reader has checked.
use Rattle.std.proofs.Common.{ap, ℕ, ◌≡◌, refl, sym, ◌∙◌, List, [], ◌∷◌, ◌++◌, ne_eqb, Result, Err}
use Rattle.std.proofs.lemmas.Bool.{eqb-false}
use Rattle.answers.specs.declared.Refusal.{Refusal}
use Rattle.answers.specs.Numbers.{Answer, number_of, answer_of, done}
use Rattle.answers.specs.Checks.{Check, first_refusal}
use Rattle.answers.proofs.NumberLaws.{number_done, number_unique, exit_refused}
use Rattle.answers.proofs.CheckLaws.{first_stops, first_goes_on}
use Rattle.points.specs.declared.Heights.TheVariants.{Fine, Whole}
use Rattle.sets.specs.Sets.{curve_checks, set_checks, set_answer}
use Rattle.sets.specs.Legal.{fine_set}
use Rattle.records.specs.declared.RecordRead.{RecordRead}
use Rattle.records.specs.Checks.{record_checks}
use Rattle.records.specs.Views.{ReadRecordCall}
use Rattle.pictures.specs.declared.Steps.{Steps}
use Rattle.pictures.specs.Runs.{Outputs, Run, checks_of_picture, answer, SetCall}
use Rattle.pictures.specs.RunLaws.{call_answer, refused_outputs}
use Rattle.tone_c.specs.Boundary.{format_check, PictureAsked, run_of, TonePictureCall}
use Rattle.tone_c.proofs.GivenFormat.{format_refused, format_passed, format_is}
use Rattle.tone_c.proofs.GivenRecord.{record_refused, record_passed, record_read}
use Rattle.tone_c.proofs.calls.picture.Goals as goal

-- the checks of the record and of the format
abbrev front : List ℕ → ℕ → List Check
front stored format = record_checks stored ++ (format_check format ∷ [])

-- the set call answers for the picture, on a set that has passed
of-picture : (r : Run) → set_answer Fine r.job.set ≡ done → answer r ≡ first_refusal (checks_of_picture r)
unfolding answer set_answer
of-picture r passed = sym (first_goes_on (set_checks (curve_checks Fine) r.job.set) _ passed refl)

-- the ends of the call
module _ (asked : PictureAsked) where
  -- e is the record's refusal or the format's
  refused : {e : Refusal} → first_refusal (front asked.stored asked.format) ≡ Err e
      → TonePictureCall asked (number_of (Err e)) asked.lent.outputs
  refused {e} is = record {
    number = ap number_of (first_stops (front asked.stored asked.format) _ is);
    unchanged = λ other. refl;
    run = λ zero. absurd (eqb-false _ 0 (number_done (Err e)) zero);
  }

  -- neither is refused: the set call answers, on the set that the reader handed back
  called : {handed : RecordRead} {t : Result Steps Refusal} {after : Outputs}
      → first_refusal (front asked.stored asked.format) ≡ done
      → ReadRecordCall asked.stored handed → SetCall (run_of asked handed.set) t after
      → TonePictureCall asked (number_of (answer_of t)) after
  called {handed} {t} passed read call =
      let run = run_of asked handed.set in
      record {
        number =
            ap number_of
            (first_goes_on (front asked.stored asked.format) (checks_of_picture run) passed
            (call_answer call ∙ of-picture run (fine_set Whole handed.set read.legal)));
        unchanged = λ other. refused_outputs call (sym (number_done (answer_of t)) ∙ ne_eqb _ 0 other);
        run = λ zero. record {
          handed = handed;
          toned = t;
          read = read;
          call = call;
          done = number_unique (answer_of t) done zero;
        };
      }

front_passed : (stored : List ℕ) (format : ℕ) {b : Answer} → first_refusal (record_checks stored) ≡ done
    → b ≡ first_refusal (format_check format ∷ []) → b ≡ first_refusal (front stored format)
front_passed stored format e is = first_goes_on (record_checks stored) (format_check format ∷ []) e is

pub returns-in_err-read_set : goal.returns-in_err-read_set
returns-in_err-read_set c =
    let A = c.args in
    rw (exit_refused c.from_residual.result c.from_residual.ensures.1)
    (refused _
    (sym (first_stops (record_checks A.«record».now) (format_check A.format ∷ [])
    (record_refused A.«record».now (rw c.in_err-read_set.was at c.read_set.ensures)))))

pub returns-in_err-try_from : goal.returns-in_err-try_from
returns-in_err-try_from c =
    let A = c.args in
    rw (exit_refused c.from_residual-in_err-try_from.result c.from_residual-in_err-try_from.ensures.1)
    (refused _
    (sym (front_passed A.«record».now A.format
    (record_passed A.«record».now (rw c.in_ok-read_set.was at c.read_set.ensures))
    (sym (format_refused A.format (sym c.try_from.ensures ∙ c.in_err-try_from.was))))))

pub returns-in_err-apply_pixels : goal.returns-in_err-apply_pixels
returns-in_err-apply_pixels c =
    let A = c.args in
    let read = rw c.in_ok-read_set.was at c.read_set.ensures in
    let known = sym c.try_from.ensures ∙ c.in_ok-try_from.was in
    rw (exit_refused c.from_residual-in_err-apply_pixels.result c.from_residual-in_err-apply_pixels.ensures.1)
    (called _
    (sym (front_passed A.«record».now A.format (record_passed A.«record».now read) (sym (format_passed A.format known))))
    (record_read A.«record».now read)
    (rw (format_is A.format known, c.in_err-apply_pixels.was) at c.apply_pixels.ensures))

pub returns : goal.returns
returns c =
    let A = c.args in
    let read = rw c.in_ok-read_set.was at c.read_set.ensures in
    let known = sym c.try_from.ensures ∙ c.in_ok-try_from.was in
    called _
    (sym (front_passed A.«record».now A.format (record_passed A.«record».now read) (sym (format_passed A.format known))))
    (record_read A.«record».now read)
    (rw (format_is A.format known, c.in_ok-apply_pixels.was) at c.apply_pixels.ensures)
