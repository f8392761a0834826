-- What the set call answers by its two checks, and its ends: refused and done.
use mathlib.Core.Path.{◌≡◌}
use mathlib.Core.Bool.{Bool, cond}
use mathlib.Core.List.{List}
use Prim.Native.Nat.{ℕ}
use Rattle.std.specs.Prelude.{Ok, Err}
use Rattle.std.proofs.Common.{sym, ◌∙◌}
use Rattle.answers.specs.declared.Refusal.{Refusal}
use Rattle.answers.specs.Numbers.{Answer, done}
use Rattle.answers.proofs.CheckLaws.{first_stops, first_goes_on}
use Rattle.points.specs.declared.Heights.TheVariants.{Fine}
use Rattle.sets.specs.Sets.{curve_checks, set_checks, set_answer}
use Rattle.formats.specs.Checks.{picture_answer}
use Rattle.pictures.specs.Runs.{
  Run,
  InTypes,
  held,
  row_bytes,
  has_chroma,
  checks_of_picture,
  answer,
  copied,
  toned_rows,
  first,
  chroma,
  SetCall,
}

-- a is answered for the set, and b for the picture
module _ (r : Run) {a : Answer} (set : a ≡ set_answer Fine r.job.set) where
  pub set_refused : {e : Refusal} → a ≡ Err e → Err e ≡ answer r
  unfolding answer set_answer
  set_refused e =
      first_stops (set_checks (curve_checks Fine) r.job.set) (checks_of_picture r) (sym set ∙ e)

  pub set_passed : {b : Answer} → a ≡ done
      → b ≡ picture_answer r.job.format r.job.width r.job.height r.job.planes r.lent.plane.step (held r.lent)
      → b ≡ answer r
  unfolding answer set_answer picture_answer
  set_passed e picture =
      first_goes_on (set_checks (curve_checks Fine) r.job.set) (checks_of_picture r) (sym set ∙ e) picture

module _ (r : Run) (in_types : InTypes r) where
  pub refused : {e : Refusal} → Err e ≡ answer r → SetCall r (Err e) r.lent.outputs
  unfolding first chroma
  refused {e} is =
      let not = sym is in
      record {
        handed = rw not;
        first = rw not;
        cb = rw not;
        cr = rw not;
        in_types = in_types;
      }

  -- with chroma and without
  pub accepted : done ≡ answer r → {row : ℕ} → row ≡ row_bytes r
      → {out : List ℕ} → out ≡ toned_rows r
      → (some : Bool) → has_chroma r ≡ some → {cb cr : List ℕ}
      → cb ≡ cond some (copied r.lent.cb r.lent.outputs.cb) r.lent.outputs.cb
      → cr ≡ cond some (copied r.lent.cr r.lent.outputs.cr) r.lent.outputs.cr
      → SetCall r (Ok (record {
        step = row;
        cb_step = cond some r.lent.cb.step 0;
        cr_step = cond some r.lent.cr.step 0;
      }))
      (record { first = out; cb = cb; cr = cr })
  unfolding first chroma
  accepted is row_is out_is some yuv cb_is cr_is =
      let taken = sym is in
      record {
        handed = rw (taken, yuv, row_is);
        first = rw taken out_is;
        cb = rw (taken, yuv) cb_is;
        cr = rw (taken, yuv) cr_is;
        in_types = in_types;
      }
