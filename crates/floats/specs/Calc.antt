-- A float's value as a fraction, and the error of one rounding of a fraction in single precision.
use Rattle.std.specs.Prelude.{ℕ, ◌+◌, ◌*◌, ◌^◌, ◌≤◌, ◌<◌, T, Float}
use Rattle.std.proofs.Common.{mul-lt-mul_of_pos_right, arith}
use Rattle.std.specs.Float.{binary32}
use Rattle.std.specs.Float.Ieee.Scale.{finite}
use Rattle.std.specs.Float.Ieee.Positive.{den}
use Rattle.floats.specs.Value.{top, bot, Is}
use Rattle.floats.specs.Round.{Rounds}
use Rattle.floats.specs.Error.{rounds_near}
use Rattle.floats.specs.Frac.{Frac, frac, Ok, Close, Size}

abbrev pub val : Float → Frac
val x = frac (top x) (bot x) (den x)

-- x is the fraction r
abbrev pub IsF : Float → Frac → Type 0
IsF x r = Is x r.p r.n r.c

-- z is r rounded
abbrev pub RoundsF : Float → Frac → Type 0
RoundsF z r = Rounds binary32 z r.p r.n r.c

strict : (b e p n c : ℕ) → 0 < c → b < e → p ≤ n + b * c → p < n + e * c
strict b e p n c C h l = omega (arith, mul-lt-mul_of_pos_right h C)

-- r is at most b in size, for a b below 2 ^ k: the error is at most 2 ^ k / 2 ^ 25
pub rounds_close : (z : Float) (r : Frac) (b k : ℕ) → k ≤ 127 → Ok r → b < 2 ^ k → Size b r
    → RoundsF z r
    → T (finite z) × Close (2 ^ k) (2 ^ 25) (val z) r
rounds_close z r b k K C h s q =
    rounds_near z _ _ _ k K C q (strict b (2 ^ k) _ _ _ C h s.0)
    (strict b (2 ^ k) _ _ _ C h s.1)
