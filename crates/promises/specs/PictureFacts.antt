-- The whole picture of a run that is not refused, in the words of the demands: it is as defined,
-- and alpha and chroma come out as they went in, where each place of the output has what RunFacts
-- says. The pages put the two together.
use Rattle.std.specs.Prelude.{◌<◌, ◌≡◌, refl, length}
use Rattle.std.proofs.Math.Decide.{ℕ_discrete}
use Rattle.tables.specs.Tables.{entry_of}
use Rattle.formats.specs.Formats.{alpha_of}
use Rattle.pictures.specs.Runs.{steps_of}
use Rattle.pictures.specs.RunLaws.{call_steps}
use Rattle.promises.specs.Words.{
  Call,
  Accepted,
  Place,
  Within,
  in_output,
  input,
  output,
  IsAlpha,
  TonedAt,
  list_that_tones,
  kind_in,
  ExactPicture,
  PassedThrough,
}
use Rattle.promises.specs.RunFacts.{
  passed_checks,
  past_stays,
  plane_holds,
  out_long,
}
use Rattle.promises.specs.ChromaFacts.{chroma_copied, chroma_stays, whole_chroma}

module _ (c : Call) (ok : Accepted c) where
  pub defined_by : ((p : Place) → Within c.given p → in_output c.given p < length c.after.first)
      → ((p : Place) → TonedAt c.given p
      → output c p ≡ entry_of (kind_in c.given) (list_that_tones c.given p) (input c p))
      → ((p : Place) → Within c.given p → IsAlpha c.given p → output c p ≡ input c p)
      → ExactPicture c
  defined_by holds toned copied =
      let is = c.contract in
      let lent = c.given.lent in
      let passed = passed_checks c ok in
      record {
        steps = steps_of c.given;
        done = call_steps is ok;
        step = refl;
        out_is = is.first;
        cb_is = is.cb;
        cr_is = is.cr;
        in_plane_lem = plane_holds c ok;
        in_output_lem = holds;
        toned = toned;
        alpha = copied;
        past = past_stays c ok;
        long = out_long c ok;
        cb = λ yuv. chroma_copied c ok lent.cb yuv is.cb (passed.chroma_room yuv).0;
        cr = λ yuv. chroma_copied c ok lent.cr yuv is.cr (passed.chroma_room yuv).1;
        other_cb = λ other. chroma_stays c ok lent.cb other is.cb;
        other_cr = λ other. chroma_stays c ok lent.cr other is.cr;
      }

  pub passed_by :
      ((p : Place) → Within c.given p → IsAlpha c.given p → output c p ≡ input c p)
      → PassedThrough c
  passed_by copied = record {
    alpha = λ p w not-toned. elim (ℕ_discrete p.channel (alpha_of c.given.job.format)) [
      | yes alpha ↦ copied p w alpha
      | no other ↦ absurd (not-toned (record { within = w; not_alpha = other }))
    ];
    cb = (whole_chroma c ok).cb;
    cr = (whole_chroma c ok).cr;
    cb_step = λ yuv. rw (call_steps c.contract ok, yuv);
    cr_step = λ yuv. rw (call_steps c.contract ok, yuv);
  }
