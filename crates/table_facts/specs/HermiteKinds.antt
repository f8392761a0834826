-- The six Hermite kinds together: every tangent is finite, and so is every height, and the
-- curve goes through the knots.
use Rattle.std.specs.Prelude.{◌≡◌, Bool, List, ℕ, ◌≤◌, ◌<◌, T, Float}
use Rattle.std.proofs.Common.{lit≤}
use Rattle.std.specs.Float.Ieee.Scale.{finite}
use Rattle.floats.specs.Value.{Is}
use Rattle.floats.specs.Within.{Within, widen}
use Rattle.points.specs.Knots.{at}
use Rattle.tangents.specs.CatmullRom.{catmull_rom_at, cardinal_at}
use Rattle.monotone.specs.Monotone.{monotone_at}
use Rattle.chords.specs.Alpha.{alpha_at}
use Rattle.segments.specs.Rows.{Rows}
use Rattle.segments.specs.SegmentLaws.{InRange}
use Rattle.table_facts.specs.CubicLaws.{cubic_at, cubic_at_knot}
use Rattle.table_facts.specs.CubicBounds.{cubic_within}
use Rattle.table_facts.specs.SlopeBounds.{catmull_rom_within, cardinal_within}
use Rattle.table_facts.specs.MonotoneBounds.{monotone_within}
use Rattle.table_facts.specs.AlphaBounds.{alpha_within}

-- the tangent of knot i of the n knots in two rows
abbrev pub TangentRule : Type 0
TangentRule = List Float → List Float → ℕ → ℕ → Float

-- the rules of the six kinds; Cardinal's tension is a byte
pub data HermiteRule : TangentRule → Type 0 where
  catmull_rom : HermiteRule catmull_rom_at
  cardinal : (q : ℕ) → q ≤ 255 → HermiteRule (cardinal_at q)
  monotone : (box : Bool) → HermiteRule (monotone_at box)
  alpha : (centripetal : Bool) → HermiteRule (alpha_at centripetal)

-- the row ms holds the tangents by a rule
abbrev pub MadeBy : TangentRule → (xs ys : List Float) → ℕ → List Float → Type 0
MadeBy rule xs ys n ms = (i : ℕ) → i < n → at ms i ≡ rule xs ys n i

module _ {xs ys : List Float} {n : ℕ} {a h : ℕ → ℕ} (r : Rows xs ys n a h) where
  -- at most 2 ^ 71 in size, which is 2 ^ 220 units
  pub tangent_within : {rule : TangentRule} → HermiteRule rule → (i : ℕ) → i < n
      → Within (rule xs ys n i) 220
  tangent_within catmull_rom i l = widen 220 (catmull_rom_within r i l) (lit≤ tt)
  tangent_within (cardinal q b) i l = widen 220 (cardinal_within r q b i l) (lit≤ tt)
  tangent_within (monotone box) i l = widen 220 (monotone_within r box i l) (lit≤ tt)
  tangent_within (alpha centripetal) i l = alpha_within r centripetal i l

  pub tangent_finite : {rule : TangentRule} → HermiteRule rule → (i : ℕ) → i < n
      → T (finite (rule xs ys n i))
  tangent_finite kind i l = (tangent_within kind i l).most.fin

  -- a row of such tangents: the curve has the knot's height at a knot, and a height everywhere
  module _ {rule : TangentRule} (kind : HermiteRule rule) (ms : List Float)
      (made : MadeBy rule xs ys n ms) where
    made_within : (i : ℕ) → i < n → Within (at ms i) 220
    made_within i l = rw (made i l) (tangent_within kind i l)

    pub kind_at_knot : (x : Float) (i : ℕ) → i < n → Is x (a i) 0 1
        → Is (cubic_at xs ys ms n x) (h i) 0 256
    kind_at_knot = cubic_at_knot r ms (λ i l. (made_within i l).most.fin)

    pub kind_finite : (x : Float) → InRange x → T (finite (cubic_at xs ys ms n x))
    kind_finite x p = (cubic_within r ms made_within x p).most.fin
