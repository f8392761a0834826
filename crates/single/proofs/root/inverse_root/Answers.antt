-- `inverse_root` meets its contract, which is its range: the three lines are at
-- most their first values.
use Rattle.std.proofs.Common.{ℕ, ◌*◌, ◌/◌, ◌^◌, ◌≤◌, ◌<◌, le_of_lt, mul-le-mul, arith, rules}
use mir.Facts.{Fits-below}
use Rattle.single.proofs.root.inverse_root.Goals as goal

square-below : (z : ℕ) → z < 2 ^ 23 → z * z / 8388608 < 2 ^ 23
square-below z h = let most : z ≤ 8388607 = omega arith in omega (arith, mul-le-mul most most)

pub overflow_mul-square : goal.overflow_mul-square
overflow_mul-square c = Fits-below tt (mul-le-mul (le_of_lt c.requires) (le_of_lt c.requires))

pub rising-requires : goal.rising-requires
rising-requires c = (omega arith, omega arith, square-below _ (search rules))

pub rising-requires-2 : goal.rising-requires-2
rising-requires-2 c = (omega arith, omega arith, square-below _ (search rules))
