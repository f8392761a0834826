-- `rising` meets its contract: z being below 2 ^ 23, d * z / 2 ^ 23 is at most d.
use Rattle.std.proofs.Common.{le_of_lt, mul-le-mul, mul-le-mul_left, arith}
use mir.Facts.{Fits-below}
use Rattle.single.proofs.root.rising.Goals as goal

pub overflow_mul-result : goal.overflow_mul-result
overflow_mul-result c = Fits-below tt (mul-le-mul (le_of_lt c.requires.1) (le_of_lt c.requires.2))

pub overflow_add-result : goal.overflow_add-result
overflow_add-result c = omega (arith, mul-le-mul_left c.args.d (le_of_lt c.requires.2))

pub returns : goal.returns
returns c = omega (arith, mul-le-mul_left c.args.d (le_of_lt c.requires.2))
