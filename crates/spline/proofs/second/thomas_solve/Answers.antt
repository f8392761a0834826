-- `second::thomas_solve`: the forward sweep of the system's rows, then back substitution.
use Rattle.std.proofs.Common.{refl, ◌∙◌, add-one, arith}
use Rattle.std.specs.Float.{nan}
use Rattle.lists.specs.Stored.{stored_none, stored_next, stored_inside}
use Rattle.lists.specs.Tabulate.{tabulate_same}
use Rattle.spline.specs.Thomas.{swept, swept_row, solution, swept_in}
use Rattle.spline.specs.ThomasLaws.{substituted_same}
use Rattle.spline.proofs.second.thomas_solve.Invariants.{above, right}
use Rattle.spline.proofs.second.thomas_solve.Goals as goal

pub loop-k-init : goal.loop-k-init
unfolding swept
loop-k-init g c = λ rows given. (stored_none, stored_none, refl)

pub loop-k-preserved : goal.loop-k-preserved
unfolding swept swept_row above right
loop-k-preserved g c = λ rows given.
    let inv = c.loop-k.invariant rows given in
    let row = given c.loop-k.k _ (omega arith) c.row_at.ensures in
    let here = rw (inv.2, row) at c.sweep-p.ensures in
    (stored_next inv.0 (rw here), stored_next inv.1 (rw here), rw add-one here)

-- back substitution goes by the swept rows alone
pub returns : goal.returns
unfolding solution swept_in above right
returns g c = λ rows m long given.
    let inv = c.loop-k.invariant rows (rw long given) in
    let room = c.requires.room in
    c.substitute.ensures
    ∙ rw long
    (tabulate_same _
    (λ k low. substituted_same _ _ _ (λ j below. rw (
      stored_inside inv.0 j nan (omega arith) (omega arith) (omega arith),
      stored_inside inv.1 j nan (omega arith) (omega arith) (omega arith),
    )) _))
