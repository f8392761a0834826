-- `second::not_a_knot`: the tests are the definition's.
use Rattle.std.proofs.Common.{refl, arith}
use Rattle.spline.specs.Second.{not_a_knot_at}
use Rattle.spline.proofs.Rows.{filled_front}
use Rattle.spline.proofs.second.not_a_knot.Goals as goal

pub returns-in-2 : goal.returns-in-2
unfolding not_a_knot_at
returns-in-2 c =
    rw c.in-2.is
    (filled_front _ 2 _ (omega arith) (c.fill.ensures.after (λ y e. e)) (λ w low. refl))

pub returns-in-3 : goal.returns-in-3
unfolding not_a_knot_at
returns-in-3 c =
    rw c.in-3.is
    (filled_front _ 3 _ (omega arith) (c.fill-in-3.ensures.after (λ y e. e))
    (λ w low. rw (c.parabola.ensures, c.segment_at.ensures, c.segment_at-in-3.ensures)))
