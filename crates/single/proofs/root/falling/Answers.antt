-- `falling` meets its contract: z being below 2 ^ 23, d * z / 2 ^ 23 is at most d.
use Rattle.std.proofs.Common.{◌^◌, ◌≤◌, le_of_lt, mul-le-mul, mul-le-mul_left, arith}
use mir.Facts.{Fits-below}
use Rattle.single.proofs.root.falling.Goals as goal

pub overflow_mul-result : goal.overflow_mul-result
overflow_mul-result c = let h : c.args.d ≤ 2 ^ 24 = omega arith in
    Fits-below tt (mul-le-mul h (le_of_lt c.requires.2))

pub overflow_sub-result : goal.overflow_sub-result
overflow_sub-result c = omega (arith, mul-le-mul_left c.args.d (le_of_lt c.requires.2))
