-- The ten kinds: their numbers, what they carry, how a piece is drawn, and the value at each knot,
-- as document 01's sections "Kinds and tables" and "Stored record" have them. Definitions only.
use Rattle.std.specs.Prelude.{ℕ, ◌<◌, Bool, cond, List, [], ◌∷◌, eqb, ℤ, pos, get_or, replicate, Float}
use Rattle.std.specs.Prelude.{ltb, Result, Ok, Err}
use Rattle.std.specs.Int.Signed.{mag}
use Rattle.lists.specs.Tabulate.{filled}
use Rattle.answers.specs.declared.Refusal.{Refusal}
use Rattle.answers.specs.declared.Refusal.TheVariants.{UnknownKind}
use Rattle.single.specs.Constants.{𝟎}
use Rattle.tangents.specs.CatmullRom.{catmull_rom_at, cardinal_at}
use Rattle.monotone.specs.Monotone.{circle_at, box_at}
use Rattle.chords.specs.Alpha.{centripetal_at, chordal_at}
use Rattle.spline.specs.declared.SplineBoundary.TheVariants.{Natural, Clamped, NotAKnot}
use Rattle.spline.specs.Segments.{slope_of}
use Rattle.spline.specs.Second.{second_at}
use Rattle.tables.specs.declared.CurveInterpolation.{CurveInterpolation}
use Rattle.tables.specs.declared.CurveInterpolation.TheVariants.{
  Linear,
  CatmullRom,
  MonotoneCubic,
  MonotoneCubicBox,
  NaturalCubic,
  CentripetalCatmullRom,
  ChordalCatmullRom,
  Cardinal,
  ClampedCubic,
  NotAKnotCubic,
}
use Rattle.tables.specs.declared.Carried.{Carried}
use Rattle.sampling.specs.declared.Form.{Form}
use Rattle.sampling.specs.declared.Form.TheVariants.{Straight, Cubic, Spline}

-- what a kind carries beside its number: 0 where it carries nothing
abbrev pub nothing : Carried
nothing = record { tension = 0; start = pos 0; end = pos 0 }

abbrev pub a_tension : ℕ → Carried
a_tension q = record { tension = q; start = pos 0; end = pos 0 }

abbrev pub two_slopes : ℤ → ℤ → Carried
two_slopes start end = record { tension = 0; start = start; end = end }

-- ---- the table of the kinds
-- "Kinds, numbered 0 to 9"; "Cardinal carries a tension", "ClampedCubic carries two slopes";
-- "Linear", "Hermite kinds (1, 2, 3, 5, 6, 7)", "Splines (4, 8, 9)"
pub record Description : Type 0 where
  pub number : ℕ
  pub carried : Carried
  pub form : Form

abbrev described : ℕ → Carried → Form → Description
described number carried form = record { number = number; carried = carried; form = form }

abbrev pub description_of : CurveInterpolation → Description
description_of Linear = described 0 nothing Straight
description_of CatmullRom = described 1 nothing Cubic
description_of MonotoneCubic = described 2 nothing Cubic
description_of MonotoneCubicBox = described 3 nothing Cubic
description_of NaturalCubic = described 4 nothing Spline
description_of CentripetalCatmullRom = described 5 nothing Cubic
description_of ChordalCatmullRom = described 6 nothing Cubic
description_of (Cardinal q) = described 7 (a_tension q) Cubic
description_of (ClampedCubic start end) = described 8 (two_slopes start end) Spline
description_of NotAKnotCubic = described 9 nothing Spline

abbrev pub kind_number : CurveInterpolation → ℕ
kind_number k = (description_of k).number

abbrev pub carried_of : CurveInterpolation → Carried
carried_of k = (description_of k).carried

-- how a piece of its curve is drawn
abbrev pub form_of : CurveInterpolation → Form
form_of k = (description_of k).form

-- ---- by number
-- the number of the last kind
abbrev pub last_kind : ℕ
last_kind = 9

-- the kinds in the order of their numbers, with a tension and two slopes for those that carry them
abbrev pub in_order : ℕ → ℤ → ℤ → List CurveInterpolation
in_order q start end =
    Linear ∷ CatmullRom ∷ MonotoneCubic ∷ MonotoneCubicBox ∷ NaturalCubic ∷ CentripetalCatmullRom
    ∷ ChordalCatmullRom ∷ Cardinal q ∷ ClampedCubic start end ∷ NotAKnotCubic ∷ []

-- a greater number is none: it is refused before anything is asked of its kind
unfoldable pub kind_of : ℕ → ℕ → ℤ → ℤ → CurveInterpolation
kind_of n q start end = get_or (in_order q start end) n Linear

-- 5 of a number above the last, else its kind
abbrev pub kind_from : ℕ → ℕ → ℤ → ℤ → Result CurveInterpolation Refusal
kind_from n q start end = cond (ltb last_kind n) (Err UnknownKind) (Ok (kind_of n q start end))

abbrev pub carries_tension : ℕ → Bool
carries_tension k = eqb k 7

abbrev pub carries_slopes : ℕ → Bool
carries_slopes k = eqb k 8

-- bits 5 and 6 of a kind in a stored record: bit 5 "with Cardinal only", bit 6 "with ClampedCubic
-- only, and always then"
abbrev pub kind_bits : ℕ → ℕ
kind_bits k = cond (carries_tension k) 1 (cond (carries_slopes k) 2 0)

-- a tension is a byte, a slope is of 16 bits: so it is of every kind that code holds, although ℕ
-- and ℤ have larger numbers
pub record LegalCarried (c : Carried) : Type 0 where
  pub tension : c.tension < 256
  pub start : mag c.start < 32768
  pub end : mag c.end < 32768

abbrev pub LegalKind : CurveInterpolation → Type 0
LegalKind k = LegalCarried (carried_of k)

-- ---- its curve
-- the value at each of n knots: a Hermite kind's tangent, a spline's second derivative
abbrev pub knot_value_at : CurveInterpolation → List Float → List Float → ℕ → ℕ → Float
knot_value_at Linear xs ys n i = 𝟎
knot_value_at CatmullRom xs ys n i = catmull_rom_at xs ys n i
knot_value_at MonotoneCubic xs ys n i = circle_at xs ys n i
knot_value_at MonotoneCubicBox xs ys n i = box_at xs ys n i
knot_value_at NaturalCubic xs ys n i = second_at xs ys n Natural i
knot_value_at CentripetalCatmullRom xs ys n i = centripetal_at xs ys n i
knot_value_at ChordalCatmullRom xs ys n i = chordal_at xs ys n i
knot_value_at (Cardinal q) xs ys n i = cardinal_at q xs ys n i
knot_value_at (ClampedCubic start end) xs ys n i =
    second_at xs ys n (Clamped (slope_of start) (slope_of end)) i
knot_value_at NotAKnotCubic xs ys n i = second_at xs ys n NotAKnot i

-- the row of them, with zeros behind
abbrev pub knot_value_row : CurveInterpolation → List Float → List Float → ℕ → List Float
knot_value_row kind xs ys n = filled n (knot_value_at kind xs ys n) (replicate 66 𝟎)
