-- A whole number nearest to a value within 1 / 16,384 of a fraction is nearest to the fraction
-- itself, and to a fine fraction all but nearest.
-- Nothing here is about floats.
use Rattle.std.specs.Prelude.{ℕ, ◌<◌}
use Rattle.std.proofs.Common.{arith}
use Rattle.floats.specs.Frac.{Frac, frac, Ok, Close, close_through}

-- R is at most a half away from x: at an exact half it is one of two
abbrev pub Nearest : ℕ → Frac → Type 0
Nearest R x = Close 1 2 (frac R 0 1) x

module _ (R : ℕ) (x r : Frac) (X : Ok x) (n : Nearest R x) (near : Close 1 16384 x r) where
  -- within 1 / 2 + 1 / 16,384
  pub nearly : Close 8193 16384 (frac R 0 1) r
  nearly = close_through 8192 1 16384 _ x r X (omega arith) near

  -- a fraction of less than 8,192 parts leaves nothing between
  pub nearest : r.c < 8192 → Nearest R r
  nearest l = (omega (arith, nearly.0), omega (arith, nearly.1))
