-- The first demand, call by call. "If a call is given any list, set, record, table or planes at
-- all, it finishes with the toned result or with the first refusal number that document 01 names,
-- and a refusal changes no byte lent."
-- That a call finishes is the language's check, made of every function, and no call of document 01
-- asks anything of what it is given. Each statement here follows from the call's contract alone,
-- and so holds of every run: the answer has the number of the first of the call's checks that
-- fails, 0 where none does; and where it is a refusal, what was lent is as it was, and what is
-- handed back is empty. With 0 the call gives its result, which is the second demand's.
use Rattle.std.specs.Prelude.{ℕ, ◌≡◌, refl, false, List, [], eqb, length, replicate, Float, Result}
use Rattle.std.proofs.Common.{◌∙◌, true≢false}
use Rattle.lists.specs.Test.{by_test}
use Rattle.answers.specs.declared.Refusal.{Refusal}
use Rattle.answers.specs.Numbers.{number_of, is_done, answer_of, Answer}
use Rattle.answers.specs.Checks.{first_refusal}
use Rattle.points.specs.declared.Curve.{Curve}
use Rattle.points.specs.declared.Heights.{Heights}
use Rattle.points.specs.declared.Sorted.{Sorted}
use Rattle.points.specs.Points.{list_of, list_checks, NewCall}
use Rattle.tables.specs.declared.CurveInterpolation.{CurveInterpolation}
use Rattle.tables.specs.declared.Lut.{Lut}
use Rattle.tables.specs.Tables.{table_checks, BuildTableCall, BuildLutCall}
use Rattle.lookup.specs.Lookup.{lookup_checks, looked_up, LookupCall}
use Rattle.sets.specs.declared.Curves.{Curves}
use Rattle.sets.specs.Sets.{view_of, empty_view, curve_checks, set_checks, set_answer}
use Rattle.records.specs.declared.RecordRead.{RecordRead}
use Rattle.records.specs.Checks.{record_checks}
use Rattle.records.specs.CheckLaws.{read_empty}
use Rattle.records.proofs.AnswerLaws.{read_answer}
use Rattle.records.specs.Views.{ReadRecordCall}
use Rattle.writing.specs.Encode.{write_checks}
use Rattle.writing.specs.Cases.{write_answer, write_unchanged, run_answer}
use Rattle.writing.specs.Statements.{WriteRecordCall}
use Rattle.formats.specs.declared.PixelFormat.{PixelFormat}
use Rattle.formats.specs.Checks.{lut_checks, lut_answer}
use Rattle.pictures.specs.declared.Job.{Job}
use Rattle.pictures.specs.declared.Steps.{Steps}
use Rattle.pictures.specs.OneTable.{OneTableCall}
use Rattle.pictures.specs.Runs.{PlaneOf, Outputs, Run, run_checks, answer, SetCall}
use Rattle.pictures.specs.RunLaws.{call_answer, refused_outputs}
use Rattle.text.specs.Text.{Text, refusal_text, printed, text_of}
use Rattle.promises.specs.Checks.{Answers, answers_first}

-- ---- "any list"
-- `Curve::new`
pub new : {given : Curve} {r : Sorted} → NewCall given r
    → Answers (list_checks given) (number_of r.answer) (list_of r.curve ≡ [])
new call = answers_first call.answer (λ no. rw no at call.list)

-- `build_lut`
pub build_lut : {given : Curve} {kind : CurveInterpolation} {r : Lut} → BuildLutCall given kind r
    → Answers (list_checks given) (number_of r.answer) (r.table ≡ replicate 256 0)
build_lut call = answers_first call.answer (λ no. rw no at call.table)

-- `build_table`
pub build_table : {given : Curve} {kind : CurveInterpolation} {old new : List Float} {r : Answer}
    → BuildTableCall given kind old r new
    → Answers (table_checks given (length old)) (number_of r) (new ≡ old)
build_table call = answers_first call.answer (λ no. rw no at call.table)

-- ---- "set"
-- `Curves::check`, which is lent nothing
pub check : (heights : Heights) (set : Curves) {r : Answer} → r ≡ set_answer heights set
    → Answers (set_checks (curve_checks heights) set) (number_of r) (Unit {0})
unfolding set_answer
check heights set call = answers_first call (λ no. tt)

-- `write_record`
pub write_record_lem : {set : Curves} {old new : List ℕ} {r : Result ℕ Refusal}
    → WriteRecordCall set old r new
    → Answers (write_checks set (length old)) (number_of (answer_of r)) (new ≡ old)
write_record_lem {set} {old} call =
    answers_first (run_answer call ∙ write_answer set old)
    (λ no. call.buffer ∙ write_unchanged set old (rw (run_answer call) at no))

-- ---- "record"
-- `read_record`
pub read_record_lem : (s : List ℕ) {r : RecordRead} → ReadRecordCall s r
    → Answers (record_checks s) (number_of r.answer) (view_of r.set ≡ empty_view)
read_record_lem s call =
    answers_first (call.answer ∙ read_answer s)
    (λ no. call.set ∙ read_empty s (rw call.answer at no))

-- `text_of`: "one line, `refused ` and the number"
pub text_of_lem : (s : List ℕ) (r : Text) → text_of r ≡ printed s
    → is_done (first_refusal (record_checks s)) ≡ false
    → text_of r ≡ refusal_text (number_of (first_refusal (record_checks s)))
unfolding printed
text_of_lem s r call refused = call ∙ rw (read_answer s, refused)

-- ---- "table"
-- `lookup`
pub lookup : {table old new : List Float} {r : Answer} → LookupCall table old r new
    → Answers (lookup_checks (length table)) (number_of r) (new ≡ old)
unfolding looked_up
lookup {table} call =
    answers_first call.answer
    (λ no.
    by_test (eqb (length table) 4096) (λ t. absurd (true≢false (rw (call.answer, t) at no)))
    (λ t. rw t at call.values))

-- ---- "or planes at all"
-- `apply_tone_lut`
pub apply_tone_lut :
    {format : PixelFormat} {width height step : ℕ} {table old new : List ℕ} {r : Answer}
    → OneTableCall format width height step table old r new
    → Answers (lut_checks format width height step (length old)) (number_of r) (new ≡ old)
unfolding lut_answer
apply_tone_lut call = answers_first call.answer (λ no. rw no at call.plane)

-- the same on a plane, `planes::tone_plane`
pub tone_plane : {plane : PlaneOf} {format : PixelFormat} {width height : ℕ} {table new : List ℕ}
    {r : Answer}
    → OneTableCall format width height plane.step table plane.bytes r new
    → Answers (lut_checks format width height plane.step (length plane.bytes)) (number_of r)
    (new ≡ plane.bytes)
tone_plane = apply_tone_lut

of_run : (run : Run) → answer run ≡ first_refusal (run_checks run)
unfolding answer
of_run run = refl

-- `apply_pixels`
pub apply_pixels : {run : Run} {r : Result Steps Refusal} {after : Outputs} → SetCall run r after
    → Answers (run_checks run) (number_of (answer_of r)) (after ≡ run.lent.outputs)
apply_pixels {run} call =
    answers_first (call_answer call ∙ of_run run) (λ no. refused_outputs call no)

-- the same on planes, `planes::tone_picture`
pub tone_picture : {job : Job} {plane cb cr : PlaneOf} {outputs : Outputs}
    {r : Result Steps Refusal} {after : Outputs}
    → let run : Run = record {
      job = job;
      lent = record { plane = plane; cb = cb; cr = cr; outputs = outputs };
    } in
    SetCall run r after → Answers (run_checks run) (number_of (answer_of r)) (after ≡ outputs)
tone_picture call = apply_pixels call
