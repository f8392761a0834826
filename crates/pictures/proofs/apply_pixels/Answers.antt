-- `apply_pixels`: an accepted run is toned and its chroma copied; a refused one touches nothing.
use Rattle.std.proofs.Common.{◌≡◌, ◌≤◌, ℕ, List, refl, sym, ◌∙◌, true, false, length, arith, eq-eqb, ne_eqb}
use Rattle.answers.specs.Numbers.{done}
use Rattle.answers.proofs.NumberLaws.{exit_refused}
use Rattle.formats.specs.declared.PixelFormat.{PixelFormat}
use Rattle.formats.specs.Formats.{planes_read}
use Rattle.formats.specs.Checks.{chroma_read}
use Rattle.pictures.specs.declared.Job.{Job}
use Rattle.pictures.specs.Runs.{PlaneOf, Run, InTypes, answer}
use Rattle.pictures.specs.RunLaws.{Accepted, accepted_run}
use Rattle.pictures.proofs.Owned.{owned_points, owned_tension}
use Rattle.pictures.proofs.Ends as Ends
use Rattle.pictures.proofs.apply_pixels.Goals.{After-check, In_ok-picture_answer}
use Rattle.pictures.proofs.apply_pixels.Goals as goal

abbrev run_by : Job → PlaneOf → PlaneOf → PlaneOf → List ℕ → List ℕ → List ℕ → Run
run_by job plane cb cr first out_cb out_cr = record {
  job = job;
  lent = record {
    plane = plane;
    cb = cb;
    cr = cr;
    outputs = record { first = first; cb = out_cb; cr = out_cr };
  };
}

abbrev plane_of : List ℕ → ℕ → PlaneOf
plane_of bytes step = record { bytes = bytes; step = step }

-- the run
abbrev run : After-check → Run
run c =
    let A = c.args in
    run_by A.job (plane_of A.plane.now A.step) (plane_of A.cb.now A.cb_step) (plane_of A.cr.now A.cr_step)
    A.out.now A.out_cb.now A.out_cr.now

-- what follows from the types
in_types : (c : After-check) → InTypes (run c)
in_types c =
    let own = c.well_formed.0 in
    record {
      plane = λ i. (c.type_inv.plane i).fits;
      points = owned_points (run c).job _ own;
      tension = owned_tension (run c).job _ own;
    }

-- a refusal of the set, and one of the picture
pub returns-in_err-check : goal.returns-in_err-check
returns-in_err-check c =
    let start = (goal.at.returns-in_err-check c).After-check in
    rw (exit_refused c.from_residual.result c.from_residual.ensures.1)
    (Ends.refused _ (in_types start) (Ends.set_refused (run start) c.check.ensures c.in_err-check.was))

pub returns-in_err-picture_answer : goal.returns-in_err-picture_answer
returns-in_err-picture_answer c =
    let start = (goal.at.returns-in_err-picture_answer c).After-check in
    rw (exit_refused c.from_residual-in_err-picture_answer.result c.from_residual-in_err-picture_answer.ensures.1)
    (Ends.refused _ (in_types start)
    (sym c.in_err-picture_answer.was
    ∙ Ends.set_passed (run start) c.check.ensures c.in_ok-check.was c.picture_answer.ensures))

-- the run past both
abbrev run_on : In_ok-picture_answer → Run
run_on c =
    let A = c.args in
    run_by A.job (plane_of A.plane.now A.step) (plane_of A.cb.now A.cb_step) (plane_of A.cr.now A.cr_step)
    A.out.now A.out_cb.now A.out_cr.now

passed : (c : In_ok-picture_answer) → done ≡ answer (run_on c)
passed c =
    sym c.in_ok-picture_answer.was
    ∙ Ends.set_passed (run_on c) c.check.ensures c.in_ok-check.was c.picture_answer.ensures

accepted : (c : In_ok-picture_answer) → Accepted (run_on c)
accepted c = accepted_run (run_on c) (sym (passed c))

-- where there is chroma
is_yuv : (f : PixelFormat) → planes_read f ≡ 3 → chroma_read f ≡ true
is_yuv f e = eq-eqb (planes_read f) 3 e

chroma_room : (c : In_ok-picture_answer) → planes_read c.args.job.format ≡ 3
    → (length c.args.cb.now ≤ length c.args.out_cb.now) × (length c.args.cr.now ≤ length c.args.out_cr.now)
chroma_room c e = (accepted c).chroma_room (is_yuv _ e)

pub tone_first-requires : goal.tone_first-requires
tone_first-requires c =
    let known = accepted (goal.at.tone_first-requires c).In_ok-picture_answer in
    record { supported = known.supported; rows = known.plane.rows; room = known.room }

pub overflow_mul-row : goal.overflow_mul-row
overflow_mul-row c =
    let plane = (accepted (goal.at.overflow_mul-row c).In_ok-picture_answer).plane in
    omega (arith, rw (← c.bytes_a_pixel.ensures) at plane.rows.stepped, plane.stepped)

pub copy_bytes-requires : goal.copy_bytes-requires
copy_bytes-requires c =
    (chroma_room (goal.at.copy_bytes-requires c).In_ok-picture_answer
    (sym c.planes_read.ensures ∙ c.if-planes_read-eq3.true)).0

pub copy_bytes-requires-then-planes_read-eq3 : goal.copy_bytes-requires-then-planes_read-eq3
copy_bytes-requires-then-planes_read-eq3 c =
    (chroma_room (goal.at.copy_bytes-requires-then-planes_read-eq3 c).In_ok-picture_answer
    (sym c.planes_read.ensures ∙ c.if-planes_read-eq3.true)).1

pub returns-then-planes_read-eq3 : goal.returns-then-planes_read-eq3
returns-then-planes_read-eq3 c =
    let at = goal.at.returns-then-planes_read-eq3 c in
    Ends.accepted _ (in_types at.After-check) (passed at.In_ok-picture_answer)
    (rw c.bytes_a_pixel.ensures)
    c.tone_first.ensures
    true
    (is_yuv _ (sym c.planes_read.ensures ∙ c.if-planes_read-eq3.true))
    c.copy_bytes.ensures
    c.copy_bytes-then-planes_read-eq3.ensures

pub returns : goal.returns
returns c =
    let at = goal.at.returns c in
    Ends.accepted _ (in_types at.After-check) (passed at.In_ok-picture_answer)
    (rw c.bytes_a_pixel.ensures)
    c.tone_first.ensures
    false
    (ne_eqb _ 3 (λ e. c.if-planes_read-eq3.false (c.planes_read.ensures ∙ e)))
    refl
    refl
