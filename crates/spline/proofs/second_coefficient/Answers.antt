-- `spline::second_coefficient`: the product with a half is the quotient by 2.
use Rattle.single.specs.Products.{times_half}
use Rattle.spline.proofs.second_coefficient.Goals as goal

pub returns : goal.returns
returns c = times_half _
