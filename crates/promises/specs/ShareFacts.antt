-- What two runs that share one set, format and size have in common: their size, their places, where
-- a byte is toned, and the list that tones it.
use Rattle.std.specs.Prelude.{ℕ, ◌≡◌}
use Rattle.sets.specs.SameLaws.{same_view}
use Rattle.pictures.specs.Runs.{size}
use Rattle.promises.specs.Words.{Call, Share, Place, Within, TonedAt}
use Rattle.promises.specs.RunFacts.{toning}

module _ (a b : Call) (share : Share a b) where
  pub same_size : size a.given ≡ size b.given
  same_size = rw (share.format, share.width, share.height)

  pub same_place : (p : Place) → Within a.given p → Within b.given p
  same_place p w =
      record {
        row = rw (← share.height) w.row;
        column = rw (← share.width) w.column;
        channel = rw (← share.format) w.channel;
      }

  pub same_toned : (p : Place) → TonedAt a.given p → TonedAt b.given p
  same_toned p t =
      record {
        within = same_place p t.within;
        not_alpha = λ alpha. t.not_alpha (rw share.format alpha);
      }

  pub same_list : (j : ℕ) → toning a.given j ≡ toning b.given j
  same_list j = rw (share.format, same_view a.given.job.set b.given.job.set share.set)
