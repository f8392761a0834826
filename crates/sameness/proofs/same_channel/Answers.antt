-- `same_channel`: present together, with the same list, or absent together.
use Rattle.std.proofs.Common.{sym, ◌∙◌}
use Rattle.std.proofs.lemmas.Bool.{false≢true}
use Rattle.sameness.proofs.Deciding.{decides_as, decides_both, decides_on, decides_off}
use Rattle.sameness.proofs.same_channel.Goals as goal

pub returns-then-a : goal.returns-then-a
returns-then-a c =
    let there = c.if-a.true in
    decides_as (λ e. record { present = there ∙ sym e.0; curve = λ t. e.1 })
    (λ s. (sym s.present ∙ there, s.curve there))
    (decides_both (decides_on _) c.same_curve.ensures)

pub returns-else-a : goal.returns-else-a
returns-else-a c =
    let missing = c.if-a.false in
    decides_as (λ e. record { present = missing ∙ sym e; curve = λ t. absurd (false≢true (sym missing ∙ t)) })
    (λ s. sym s.present ∙ missing) (decides_off _)
