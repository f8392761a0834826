-- The list that tones a channel of a run that is not refused: proper, and its own kept list.
use Rattle.std.specs.Prelude.{ℕ, ◌≡◌}
use Rattle.points.specs.declared.Heights.TheVariants.{Fine}
use Rattle.points.specs.Points.{kept}
use Rattle.points.specs.Order.{All, Typed, Proper}
use Rattle.points.specs.HeightLaws.{passed_proper}
use Rattle.points.specs.Kept.{kept_rising}
use Rattle.sets.specs.Sets.{view_of}
use Rattle.sets.specs.Legal.{LegalList}
use Rattle.promises.specs.Words.{Call, Accepted}
use Rattle.promises.specs.ListFacts.{of_toning_list}
use Rattle.promises.specs.RunFacts.{toning, passed_checks}

module _ (c : Call) (ok : Accepted c) (j : ℕ) where
  typed : All Typed (toning c.given j)
  typed =
      of_toning_list (All Typed) c.given.job.format (view_of c.given.job.set)
      c.contract.in_types.points j

  legal : LegalList Fine (toning c.given j)
  legal =
      of_toning_list (LegalList Fine) c.given.job.format (view_of c.given.job.set)
      (passed_checks c ok).legal j

  pub toning_proper : All Proper (toning c.given j)
  toning_proper = passed_proper Fine (toning c.given j) typed legal.high

  pub toning_kept : kept (toning c.given j) ≡ toning c.given j
  toning_kept = kept_rising (toning c.given j) typed legal.rising
