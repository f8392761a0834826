-- `rows::tone_rows_into` meets its contract: the arms are the pixels that there are.
use Rattle.std.proofs.Common.{◌≡◌, arith}
use Rattle.rows.specs.Rows.{tight_alpha}
use Rattle.rows.proofs.tone_rows_into.Goals as goal

pub returns-in-1 : goal.returns-in-1
unfolding tight_alpha
returns-in-1 c = rw c.in-1.is c.tone_plane_into.ensures

pub returns-in-3 : goal.returns-in-3
unfolding tight_alpha
returns-in-3 c = rw c.in-3.is c.tone_plane_into-in-3.ensures

pub returns-in_default : goal.returns-in_default
unfolding tight_alpha
returns-in_default c =
    let four : c.args.p ≡ 4 = omega arith in
    rw four c.tone_plane_into-in_default.ensures
