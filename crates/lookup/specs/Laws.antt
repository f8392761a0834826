-- Where a value's position lies, so that both entries of its result are the table's.
use Rattle.std.specs.Prelude.{◌≡◌, false, ◌+◌, ◌≤◌, T, Float}
use Rattle.std.proofs.Common.{sym, subst, arith, lit<}
use Rattle.std.specs.Float.{binary32}
use Rattle.std.specs.Float.Ieee.{is_nan, lt, le, mul, of_bits}
use Rattle.lists.specs.Test.{by_test}
use Rattle.floats.specs.Notation.{◌⊗◌}
use Rattle.floats.specs.Ops.{mul_commutes}
use Rattle.floats.specs.Order.{le_numbers, le_of_not_lt, finite_between}
use Rattle.floats.specs.Mono.{mul_mono_left}
use Rattle.single.specs.Constants.{𝟎, 𝟏, 𝟒𝟎𝟗𝟓, 𝟎-is, 𝟏-is, 𝟒𝟎𝟗𝟓-is}
use Rattle.single.specs.Rules.{floor_of}
use Rattle.single.specs.ByteLaws.{floor_small}
use Rattle.lookup.specs.Lookup.{clamped_unit, position}

-- the position of any value, NaN and the infinities included, lies within 0..4,095
pub position_within : (v : Float) → T (le 𝟎 (position v)) × T (le (position v) 𝟒𝟎𝟗𝟓)
unfolding position clamped_unit is_nan lt le mul of_bits
position_within v =
    by_test (lt 𝟏 v)
    (λ e. rw e (tt, tt))
    (λ e. by_test (le 𝟎 v) (λ g. rw (e, g) (inside (subst T (sym g) tt) e))
    (λ g. rw (e, g) (tt, tt)))
  where
    inside : T (le 𝟎 v) → lt 𝟏 v ≡ false → T (le 𝟎 (v ⊗ 𝟒𝟎𝟗𝟓)) × T (le (v ⊗ 𝟒𝟎𝟗𝟓) 𝟒𝟎𝟗𝟓)
    inside low e =
        let high = le_of_not_lt 𝟏 v tt (le_numbers 𝟎 v low).1 e in
        let number = finite_between 𝟎 v 𝟏 𝟎-is.0 𝟏-is.0 low high in
        rw (mul_commutes binary32 v 𝟒𝟎𝟗𝟓) (
          mul_mono_left binary32 𝟒𝟎𝟗𝟓 𝟎 v 4095 1 (lit< tt) 𝟒𝟎𝟗𝟓-is 𝟎-is.0 number low,
          mul_mono_left binary32 𝟒𝟎𝟗𝟓 v 𝟏 4095 1 (lit< tt) 𝟒𝟎𝟗𝟓-is number 𝟏-is.0 high,
        )

-- i + 1 is an entry of the table, as i is
pub entry_inside : (v : Float) → floor_of (position v) + 1 ≤ 4095
entry_inside v = omega (arith, floor_small (position v))
