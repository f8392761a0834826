-- The straight piece between two knots, as the program computes it. Definitions only.
use Rattle.std.specs.Prelude.{Float}
use Rattle.floats.specs.Notation.{◌⊕◌, ◌⊖◌, ◌⊗◌, ◌⊘◌}

-- document 01's "t": how much of the way from x0 to x1 has been gone at v
abbrev pub part : Float → Float → Float → Float
part x0 x1 v = (v ⊖ x0) ⊘ (x1 ⊖ x0)

-- "Linear": the height at v of the line through (x0, y0) and (x1, y1)
abbrev pub line : Float → Float → Float → Float → Float → Float
line x0 y0 x1 y1 v = y0 ⊕ (y1 ⊖ y0) ⊗ part x0 x1 v
