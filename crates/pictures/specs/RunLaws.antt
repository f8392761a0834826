-- What is known once the set call is done or refused, and that the table of "the list that tones a
-- byte" tones it.
use Rattle.std.specs.Prelude.{ℕ, zero, suc, ◌≤◌, ◌≡◌, refl, true, false, List, [], ◌∷◌, length, Result, Ok}
use Rattle.std.proofs.Common.{ap, ◌∙◌, ltb-false}
use Rattle.std.proofs.lemmas.Bool.{eqb-false}
use Rattle.answers.specs.declared.Refusal.{Refusal}
use Rattle.answers.specs.Numbers.{is_done, answer_of, done}
use Rattle.answers.specs.Checks.{AllPassed, room_check, all_passed}
use Rattle.answers.proofs.CheckLaws.{done_append}
use Rattle.answers.proofs.NumberLaws.{answer_handed}
use Rattle.points.specs.declared.Heights.TheVariants.{Fine}
use Rattle.tables.specs.Tables.{byte_table}
use Rattle.sets.specs.Sets.{View, view_of, curve_checks, set_checks, set_answer}
use Rattle.sets.specs.Legal.{Legal, legal_view}
use Rattle.formats.specs.declared.PixelFormat.{PixelFormat}
use Rattle.formats.specs.Formats.{planes_read}
use Rattle.formats.specs.Checks.{Supported}
use Rattle.formats.specs.CheckLaws.{GoodPlane, good_plane}
use Rattle.pictures.specs.declared.Steps.{Steps}
use Rattle.pictures.specs.Runs.{
  Outputs,
  Run,
  size,
  has_chroma,
  checks_of_picture,
  answer,
  toned_by,
  tables_of,
  first,
  chroma,
  steps_of,
  SetCall,
}

-- the table of each channel is that of the list that tones it
pub tables_of_lem : (f : PixelFormat) (v : View) (j : ℕ)
    → tables_of f v j ≡ byte_table v.kind (toned_by f v j)
tables_of_lem f v zero = refl
tables_of_lem f v (suc zero) = refl
tables_of_lem f v (suc (suc j)) = refl

-- what is known of a run of the set call once it is accepted
pub record Accepted (r : Run) : Type 0 where
  pub lists : set_answer Fine r.job.set ≡ done
  pub legal : Legal Fine (view_of r.job.set)
  pub supported : Supported r.job.format
  pub planes : planes_read r.job.format ≤ r.job.planes
  pub plane :
      GoodPlane r.job.format r.job.width r.job.height r.lent.plane.step
      (length r.lent.plane.bytes)
  pub room : size r ≤ length r.lent.outputs.first
  pub chroma_room : has_chroma r ≡ true
      → (length r.lent.cb.bytes ≤ length r.lent.outputs.cb)
      × (length r.lent.cr.bytes ≤ length r.lent.outputs.cr)

pub accepted_run : (r : Run) → answer r ≡ done → Accepted r
unfolding answer set_answer
accepted_run r e =
    let j = r.job in
    let l = r.lent in
    let f = j.format in
    let lists = done_append (set_checks (curve_checks Fine) j.set) (checks_of_picture r) e in
    let format = all_passed (checks_of_picture r) lists.1 in
    let size = format.1 in
    let planes = size.1 in
    let step = planes.1 in
    let plane = step.1 in
    let output = plane.1 in
    record {
      lists = lists.0;
      legal = legal_view Fine j.set lists.0;
      supported = eqb-false (planes_read f) 0 format.0;
      planes = ltb-false j.planes (planes_read f) planes.0;
      plane =
          good_plane f j.width j.height l.plane.step (length l.plane.bytes)
          size.0 (step.0, (plane.0, tt));
      room = ltb-false _ _ output.0;
      chroma_room = λ yes.
          let cb = room_check (length l.cb.bytes) (length l.outputs.cb) in
          let cr = room_check (length l.cr.bytes) (length l.outputs.cr) in
          let q : AllPassed (cb ∷ cr ∷ []) = rw yes at output.1 in
          (ltb-false _ _ q.0, ltb-false _ _ q.1.0);
    }

-- ---- outputs that agree are the same, and those of a refused call are as they were
fields_same : {f g c d e h : List ℕ} → f ≡ g → c ≡ d → e ≡ h
    → ◌≡◌ {A = Outputs} (record { first = f; cb = c; cr = e })
    (record { first = g; cb = d; cr = h })
fields_same first cb cr = rw (first, cb, cr)

pub outputs_same : {a b : Outputs} → a.first ≡ b.first → a.cb ≡ b.cb → a.cr ≡ b.cr → a ≡ b
outputs_same first cb cr = fields_same first cb cr

module _ {r : Run} {t : Result Steps Refusal} {after : Outputs} (call : SetCall r t after) where
  -- what is answered, and the steps where nothing is refused
  pub call_answer : answer_of t ≡ answer r
  call_answer = ap answer_of call.handed ∙ answer_handed (answer r) (steps_of r)

  pub call_steps : answer r ≡ done → t ≡ Ok (steps_of r)
  call_steps e = rw e at call.handed

  pub refused_outputs : is_done (answer_of t) ≡ false → after ≡ r.lent.outputs
  unfolding first chroma
  refused_outputs refused =
      let not = rw call_answer at refused in
      outputs_same (rw not at call.first) (rw not at call.cb) (rw not at call.cr)
