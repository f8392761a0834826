-- `single::index` meets its contract: the cast of a whole part loses nothing.
use Rattle.std.proofs.Common.{◌≡◌, le_trans, lt_of_le_of_lt, arith, T, lit<, lit≤, Float}
use lib.Ieee.{binary32, to_unsigned, in_unsigned}
use Rattle.single.specs.Rules.{float, floor_of}
use Rattle.single.specs.ByteLaws.{floor_small}
use Rattle.single.proofs.Nearest.{cast_back}
use Rattle.single.proofs.index.Goals as goal

cast : (x w : Float) → w ≡ float (floor_of x) → T (in_unsigned binary32 16 w) × (to_unsigned 16 w ≡ floor_of x)
cast x w e =
    cast_back 16 (floor_of x) w (lt_of_le_of_lt (floor_small x) (lit< tt)) (le_trans (floor_small x) (lit≤ tt)) e

pub float_to_int-result : goal.float_to_int-result
float_to_int-result c = (cast _ _ c.floor.ensures).0

pub overflow_cast-result : goal.overflow_cast-result
overflow_cast-result c = omega (arith, (cast _ _ c.floor.ensures).1, floor_small c.args.x)

pub returns : goal.returns
returns c = (cast _ _ c.floor.ensures).1
