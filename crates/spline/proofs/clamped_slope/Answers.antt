-- `spline::clamped_slope`: single precision has every signed 16-bit number, and the product with
-- 1 / 256 is the quotient by 256.
use Rattle.std.proofs.Common.{ap, ◌∙◌, to_z-of_z}
use Rattle.single.specs.Products.{times_256th}
use Rattle.spline.specs.Segments.{slope_of}
use Rattle.spline.proofs.clamped_slope.Goals as goal

pub returns : goal.returns
unfolding slope_of
returns c = times_256th _ ∙ ap slope_of (to_z-of_z c.ranges.q)
