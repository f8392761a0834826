-- The rows of floats that hold knots: what is at each place below the count,
-- and which number that is.
use Rattle.std.specs.Prelude.{◌≡◌, refl, List, ℕ, ◌+◌, ◌*◌, ◌<◌, T, length, get_or, replicate}
use Rattle.std.proofs.Common.{arith, lit<, lit≤}
use Rattle.std.specs.Float.Ieee.{nan, fits, div, of_int, of_bits}
use Rattle.std.specs.Float.{binary32}
use Rattle.std.specs.Float.Ieee.Fits.{div-fits}
use Rattle.lists.specs.Tabulate.{tabulate, tabulate_agree, get_d_filled}
use Rattle.floats.specs.Notation.{◌⊗◌}
use Rattle.floats.specs.Value.{Is, is_same}
use Rattle.floats.specs.Small.{dyadic_mul}
use Rattle.single.specs.Constants.{𝟎, 𝟐𝟓𝟔, 𝟏/𝟐𝟓𝟔, 𝟏/𝟐𝟓𝟔-is}
use Rattle.single.specs.Products.{times_256th}
use Rattle.single.specs.Rules.{float}
use Rattle.single.specs.RuleLaws.{float_is}
use Rattle.points.specs.declared.Point.{Point}
use Rattle.points.specs.Points.{level}
use Rattle.points.specs.Knots.{x_of, y_of, height_of, x_at, y_at, x_row, y_row}
use Rattle.points.specs.Order.{All, Proper, all_at}

-- ---- heights
-- a height is that many 256ths
pub height_is : (y : ℕ) → y < 65536 → Is (height_of y) y 0 256
height_is y h =
    rw (← times_256th (float y))
    (is_same (float y ⊗ 𝟏/𝟐𝟓𝟔) (y * 1 + 0 * 0) (y * 0 + 0 * 1) 256 y 0 256 (lit< tt)
    (dyadic_mul (float y) 𝟏/𝟐𝟓𝟔 y 0 1 0 0 8 (lit≤ tt) (omega arith) (omega arith)
    (float_is y (omega arith)) 𝟏/𝟐𝟓𝟔-is)
    (omega arith))

pub height_fits : (y : ℕ) → T (fits binary32 (height_of y))
height_fits y = div-fits binary32 (float y) 𝟐𝟓𝟔

-- a level is the float that document 01 has
level_floats : tabulate 256 (λ n. height_of (level n)) ≡ tabulate 256 float
unfolding tabulate div of_int of_bits
level_floats = refl

pub height_of_level : (n : ℕ) → n < 256 → height_of (level n) ≡ float n
height_of_level = tabulate_agree (λ n. height_of (level n)) float level_floats

-- ---- at each place below the count
module _ (ks : List Point) (i : ℕ) (inside : i < length ks) where
  pub x_at_lem : get_or (x_row ks) i nan ≡ float (x_of ks i)
  unfolding x_row x_at
  x_at_lem = get_d_filled (length ks) (x_at ks) (replicate 66 𝟎) i nan inside

  pub y_at_lem : get_or (y_row ks) i nan ≡ height_of (y_of ks i)
  unfolding y_row y_at
  y_at_lem = get_d_filled (length ks) (y_at ks) (replicate 66 𝟎) i nan inside

  pub x_is : All Proper ks → Is (get_or (x_row ks) i nan) (x_of ks i) 0 1
  x_is a = rw x_at_lem (float_is (x_of ks i) (omega (arith, (all_at Proper ks a i inside).0)))

  pub y_is : All Proper ks → Is (get_or (y_row ks) i nan) (y_of ks i) 0 256
  y_is a = rw y_at_lem (height_is (y_of ks i) (omega (arith, (all_at Proper ks a i inside).1)))
