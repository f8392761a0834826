-- The tangents of CentripetalCatmullRom and ChordalCatmullRom: the three-term tangent of Barry and
-- Goldman ("A recursive evaluation algorithm for a class of Catmull-Rom splines", 1988), as
-- `alpha_catmull_rom_tangents` of the Rust has it. Definitions only.
use Rattle.std.specs.Prelude.{◌≡◌, ℕ, ◌+◌, Bool, true, false, cond, ◌||◌, List, eqb, Float}
use Rattle.floats.specs.Notation.{◌⊕◌, ◌⊖◌, ◌⊗◌, ◌⊘◌}
use Rattle.single.specs.Constants.{𝟎, nano}
use Rattle.single.specs.Rules.{guarded_quotient, tiny}
use Rattle.single.specs.Root.{root_of}
use Rattle.points.specs.declared.Knot.{Knot}
use Rattle.points.specs.Knots.{knot_at, before, after}

-- the distance of a and b
unfoldable pub chord : Knot → Knot → Float
chord a b =
    let dx = b.x ⊖ a.x in
    let dy = b.y ⊖ a.y in
    root_of (dx ⊗ dx ⊕ dy ⊗ dy)

-- the parameter's way from a to b: the chord, and for the centripetal kind its root, which is
-- what `powf(0.5)` is here
abbrev pub spacing_of : Bool → Float → Float
spacing_of centripetal chord = cond centripetal (root_of chord) chord

unfoldable pub spacing : Bool → Knot → Knot → Float
spacing centripetal a b = spacing_of centripetal (chord a b)

-- p over d, and 0 for a d below 1e-9
abbrev pub over : Float → Float → Float
over p d = guarded_quotient p d nano

-- the three terms at an inner knot, by the rises to the right, across and from the left, and the
-- ways that belong to them
unfoldable pub three_terms : Float → Float → Float → Float → Float → Float → Float
three_terms right across left dr ds dl =
    cond (tiny dl || tiny dr || tiny ds) 𝟎 (right ⊘ dr ⊖ across ⊘ ds ⊕ left ⊘ dl)

-- dy/dt over dx/dt at a knot c between l and r, by the ways from l to c,
-- from l to r and from c to r
abbrev pub inner_tangent : Knot → Knot → Knot → Float → Float → Float → Float
inner_tangent l c r dl ds dr =
    over (three_terms (r.y ⊖ c.y) (r.y ⊖ l.y) (c.y ⊖ l.y) dr ds dl) (over (r.x ⊖ l.x) ds)

-- and at an end of the curve, where both are one-sided, by the way d from a to b
abbrev pub end_tangent : Knot → Knot → Float → Float
end_tangent a b d = over (over (b.y ⊖ a.y) d) (over (b.x ⊖ a.x) d)

unfoldable pub alpha_tangent : Bool → Bool → Bool → Knot → Knot → Knot → Float
alpha_tangent centripetal first last l c r =
    let dl = spacing centripetal l c in
    let dr = spacing centripetal c r in
    cond first (end_tangent c r dr)
    (cond last (end_tangent l c dl) (inner_tangent l c r dl (dl ⊕ dr) dr))

unfoldable pub alpha_at : Bool → List Float → List Float → ℕ → ℕ → Float
alpha_at centripetal xs ys n i =
    alpha_tangent centripetal (eqb i 0) (eqb (i + 1) n) (knot_at xs ys (before i)) (knot_at xs ys i)
    (knot_at xs ys (after n i))

-- the tangents of the two kinds
abbrev pub centripetal_at : List Float → List Float → ℕ → ℕ → Float
centripetal_at = alpha_at true

abbrev pub chordal_at : List Float → List Float → ℕ → ℕ → Float
chordal_at = alpha_at false

-- ---- what the code asks of a closure that says the spacing of a chord
abbrev pub Spaces : (Float → Float → Type 0) → Bool → Type 0
Spaces post centripetal = (chord s : Float) → post chord s → s ≡ spacing_of centripetal chord
