-- The Thomas solve (L. H. Thomas, 1949) of a tridiagonal system of m rows,
--   aₖ xₖ₋₁ + bₖ xₖ + cₖ xₖ₊₁ = dₖ,   k from 0 to m − 1,
-- without the terms of x₋₁ and xₘ. Forward sweep: with the pivot p₀ = b₀ and pₖ = bₖ − aₖ c'ₖ₋₁,
--   c'ₖ = cₖ / pₖ,   d'₀ = d₀ / p₀,   d'ₖ = (dₖ − aₖ d'ₖ₋₁) / pₖ;
-- back substitution: xₖ = d'ₖ − c'ₖ xₖ₊₁ from the last row on. Definitions only.
use Rattle.std.specs.Prelude.{ℕ, zero, suc, ◌-◌, cond, List, eqb, Float}
use Rattle.floats.specs.Notation.{◌⊖◌, ◌⊗◌}
use Rattle.single.specs.Constants.{𝟎, 𝟏, pico}
use Rattle.single.specs.Rules.{guarded_quotient}
use Rattle.points.specs.Knots.{at}
use Rattle.spline.specs.declared.thomas.Row.{Row}
use Rattle.spline.specs.declared.thomas.Swept.{Swept}

-- "pivot below 1e-12 in size uses inverse 0"
abbrev pub inverse : Float → Float
inverse pivot = guarded_quotient 𝟏 pivot pico

-- a row over its pivot: c' is `above`, d' is `right`
unfoldable pub scaled : Float → Float → Float → Swept
scaled pivot c d = record { above = c ⊗ inverse pivot; right = d ⊗ inverse pivot }

-- c'ₖ and d'ₖ of the row r, which is the row k; p has c'ₖ₋₁ and d'ₖ₋₁
unfoldable pub sweep : ℕ → Swept → Row → Swept
sweep k p r =
    cond (eqb k 0) (scaled r.b r.c r.d)
    (scaled (r.b ⊖ r.a ⊗ p.above) r.c (r.d ⊖ r.a ⊗ p.right))

-- what is before the first row
abbrev pub none : Swept
none = record { above = 𝟎; right = 𝟎 }

-- c'ₖ₋₁ and d'ₖ₋₁; the rows are given by a rule
unfoldable pub swept : (ℕ → Row) → ℕ → Swept
swept rows zero = none
swept rows (suc k) = sweep k (swept rows k) (rows k)

-- c'ₖ and d'ₖ
unfoldable pub swept_row : (ℕ → Row) → ℕ → Swept
swept_row rows k = swept rows (suc k)

-- back substitution over m swept rows s: x at m − j; past the end is 0
unfoldable pub backward : (ℕ → Swept) → ℕ → ℕ → Float
backward s m zero = 𝟎
backward s m (suc j) = let p = s (m - suc j) in p.right ⊖ p.above ⊗ backward s m j

-- xₖ
unfoldable pub substituted : (ℕ → Swept) → ℕ → ℕ → Float
substituted s m k = backward s m (m - k)

-- the unknowns of the system of m rows
unfoldable pub solution : (ℕ → Row) → ℕ → ℕ → Float
solution rows m = substituted (swept_row rows) m

-- ---- in rows of floats
-- the rule of the swept rows whose parts are in two of them
unfoldable pub swept_in : List Float → List Float → ℕ → Swept
swept_in aboves rights k = record { above = at aboves k; right = at rights k }
