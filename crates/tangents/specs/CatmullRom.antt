-- The tangents of CatmullRom and Cardinal (Catmull and Rom, "A class of local interpolating
-- splines", 1974), as document 01 has them. Definitions only.
use Rattle.std.specs.Prelude.{◌≡◌, ◌<◌, ℕ, List, Float}
use Rattle.floats.specs.Notation.{◌⊖◌, ◌⊗◌, ◌⊘◌}
use Rattle.single.specs.Constants.{𝟏, 𝟐𝟓𝟓, micro}
use Rattle.single.specs.Rules.{float, guarded_quotient}
use Rattle.points.specs.declared.Knot.{Knot}
use Rattle.points.specs.Knots.{knot_at, before, after}
use Rattle.segments.specs.Straight.{slope}

-- "CatmullRom: (right y − left y) / (right x − left x)"
unfoldable pub catmull_rom_at : List Float → List Float → ℕ → ℕ → Float
catmull_rom_at xs ys n i = slope (knot_at xs ys (before i)) (knot_at xs ys (after n i))

-- 1 − c, the tension q being decoded in this one place: "c = q / 255"
unfoldable pub looseness : ℕ → Float
looseness q = 𝟏 ⊖ float q ⊘ 𝟐𝟓𝟓

-- "Cardinal: (1 − c) times that rise first, then divided"; the scale is 1 − c
unfoldable pub loose_slope : Float → Knot → Knot → Float
loose_slope scale l r = guarded_quotient (scale ⊗ (r.y ⊖ l.y)) (r.x ⊖ l.x) micro

unfoldable pub cardinal_at : ℕ → List Float → List Float → ℕ → ℕ → Float
cardinal_at q xs ys n i =
    loose_slope (looseness q) (knot_at xs ys (before i)) (knot_at xs ys (after n i))

-- what may be said of each knot's neighbours is the rule's element at the knot
abbrev pub Follows : (Knot → Knot → Float → Type 0) → List Float → List Float → ℕ → (ℕ → Float) → Type 0
Follows post xs ys n rule =
    (i : ℕ) (m : Float) → i < n → post (knot_at xs ys (before i)) (knot_at xs ys (after n i)) m → m ≡ rule i
