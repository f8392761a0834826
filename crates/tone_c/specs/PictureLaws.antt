-- What the outputs of `tone_picture` hold after it, by the bytes of the record: tight rows toned by
-- the set that the record holds, chroma copied, or on a refusal what was there.
use Rattle.std.specs.Prelude.{ℕ, ◌≡◌, true, false, cond, ◌&&◌, List, eqb}
use Rattle.std.proofs.Common.{sym, ◌∙◌, true≢false, eqb-true}
use Rattle.std.proofs.Math.Path.{ap}
use Rattle.answers.specs.Numbers.{is_done}
use Rattle.lists.specs.Test.{by_test}
use Rattle.sets.specs.Sets.{View}
use Rattle.formats.specs.Formats.{format_of}
use Rattle.formats.specs.Checks.{chroma_read}
use Rattle.pictures.specs.Runs.{
  PlaneOf,
  Outputs,
  accepted,
  tables_of,
  tight_rows,
  copied,
  first,
  chroma,
}
use Rattle.pictures.specs.RunLaws.{call_answer}
use Rattle.tone_c.specs.Boundary.{set_of, PictureAsked, run_of, PictureRun, TonePictureCall}

-- the first output of an accepted call by a set
abbrev pub toned_by_set : PictureAsked → View → List ℕ
toned_by_set asked set =
    let f = format_of asked.format in
    tight_rows f asked.width asked.height asked.lent.plane.step (tables_of f set)
    asked.lent.plane.bytes asked.lent.outputs.first

-- a chroma output of a call that is answered with r
abbrev pub chroma_out : ℕ → PictureAsked → PlaneOf → List ℕ → List ℕ
chroma_out r asked plane old =
    cond (eqb r 0 && chroma_read (format_of asked.format)) (copied plane old) old

module _ {asked : PictureAsked} {after : Outputs} (run : PictureRun asked after) where
  accepted_run : accepted (run_of asked run.handed.set) ≡ true
  accepted_run = ap is_done (sym (call_answer run.call) ∙ run.done)

  run_first : after.first ≡ toned_by_set asked (set_of asked.stored)
  unfolding first
  run_first = (rw accepted_run at run.call.first) ∙ ap (toned_by_set asked) run.read.set

  run_cb : after.cb ≡ chroma_out 0 asked asked.lent.cb asked.lent.outputs.cb
  unfolding chroma
  run_cb = rw accepted_run at run.call.cb

  run_cr : after.cr ≡ chroma_out 0 asked asked.lent.cr asked.lent.outputs.cr
  unfolding chroma
  run_cr = rw accepted_run at run.call.cr

module _ {asked : PictureAsked} {r : ℕ} {after : Outputs}
    (call : TonePictureCall asked r after) where
  -- where r is not 0
  old : eqb r 0 ≡ false → after ≡ asked.lent.outputs
  old other = call.unchanged (λ zero. true≢false (rw zero at other))

  pub first_is : after.first
      ≡ cond (eqb r 0) (toned_by_set asked (set_of asked.stored)) asked.lent.outputs.first
  first_is =
      by_test (eqb r 0) (λ t. rw t (run_first (call.run (eqb-true r 0 t))))
      (λ t. rw t (ap (λ (o : Outputs). o.first) (old t)))

  pub cb_is : after.cb ≡ chroma_out r asked asked.lent.cb asked.lent.outputs.cb
  cb_is =
      by_test (eqb r 0) (λ t. rw t (run_cb (call.run (eqb-true r 0 t))))
      (λ t. rw t (ap (λ (o : Outputs). o.cb) (old t)))

  pub cr_is : after.cr ≡ chroma_out r asked asked.lent.cr asked.lent.outputs.cr
  cr_is =
      by_test (eqb r 0) (λ t. rw t (run_cr (call.run (eqb-true r 0 t))))
      (λ t. rw t (ap (λ (o : Outputs). o.cr) (old t)))
