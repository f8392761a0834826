-- Sets where a slip in the order of the checks would show: each line mends the first fault of the
-- line before it, and has later ones still. U9: 20 is "tested in each list after 3 and 4, before
-- the next list".
use Rattle.std.specs.Prelude.{ℕ, ◌-◌, ◌≡◌, refl, List, [], ◌∷◌, ◌++◌, length, replicate, Err}
use Rattle.points.specs.Joined.{curve_of}
use Rattle.answers.specs.declared.Refusal.TheVariants.{PointCount, PointsNotRising, HeightRange}
use Rattle.points.specs.declared.Point.{Point}
use Rattle.points.specs.declared.Curve.{Curve}
use Rattle.points.specs.declared.Heights.TheVariants.{Fine, Whole}
use Rattle.points.specs.Points.{pt, straight_curve, rises_from, all_allowed}
use Rattle.tables.specs.declared.CurveInterpolation.TheVariants.{Linear}
use Rattle.sets.specs.declared.Curves.{Curves}
use Rattle.sets.specs.Sets.{present_channel, curve_answer, set_answer}
use Rattle.answers.specs.Numbers.{done}

-- a list as a `Curve` stores it: in 64 places, zeros behind the list
abbrev pub stored : List Point → ℕ → Curve
stored l n = curve_of (l ++ replicate (64 - length l) (pt 0 0)) n

abbrev pub line : Curve
line = stored straight_curve 2

abbrev pub many : Curve
many = stored straight_curve 65

abbrev pub falling : Curve
falling = stored (pt 9 0 ∷ pt 8 0 ∷ []) 2

abbrev pub high : Curve
high = stored (pt 9 65281 ∷ []) 1

abbrev pub fine : Curve
fine = stored (pt 9 65279 ∷ []) 1

abbrev pub four : Curve → Curve → Curve → Curve → Curves
four master red green blue = record {
  master = master;
  red = present_channel red;
  green = present_channel green;
  blue = present_channel blue;
  interpolation = Linear;
}

-- 3, then 4, then 20
pub list_order :
    (curve_answer Fine (stored (pt 9 65281 ∷ pt 8 0 ∷ []) 65) ≡ Err PointCount)
    × (curve_answer Fine (stored (pt 9 65281 ∷ pt 8 0 ∷ []) 2) ≡ Err PointsNotRising)
    × (curve_answer Fine (stored (pt 8 65281 ∷ pt 9 0 ∷ []) 2) ≡ Err HeightRange)
    × (curve_answer Fine (stored (pt 8 65280 ∷ pt 9 0 ∷ []) 2) ≡ done)
unfolding curve_answer rises_from all_allowed
list_order = (refl, refl, refl, refl)

-- "before the next list": master, red, green, blue
pub master_first :
    (set_answer Fine (four many high falling many) ≡ Err PointCount)
    × (set_answer Fine (four falling many high many) ≡ Err PointsNotRising)
    × (set_answer Fine (four high many falling many) ≡ Err HeightRange)
unfolding set_answer rises_from all_allowed
master_first = (refl, refl, refl)

pub red_second :
    (set_answer Fine (four line many high falling) ≡ Err PointCount)
    × (set_answer Fine (four line falling many high) ≡ Err PointsNotRising)
    × (set_answer Fine (four line high many falling) ≡ Err HeightRange)
unfolding set_answer rises_from all_allowed
red_second = (refl, refl, refl)

pub green_third :
    (set_answer Fine (four line line many high) ≡ Err PointCount)
    × (set_answer Fine (four line line falling many) ≡ Err PointsNotRising)
    × (set_answer Fine (four line line high falling) ≡ Err HeightRange)
unfolding set_answer rises_from all_allowed
green_third = (refl, refl, refl)

pub blue_last :
    (set_answer Fine (four line line line many) ≡ Err PointCount)
    × (set_answer Fine (four line line line falling) ≡ Err PointsNotRising)
    × (set_answer Fine (four line line line high) ≡ Err HeightRange)
unfolding set_answer rises_from all_allowed
blue_last = (refl, refl, refl)

pub accepted : (set_answer Fine (four line line line line) ≡ done)
    × (set_answer Fine (four fine fine fine fine) ≡ done)
unfolding set_answer rises_from all_allowed
accepted = (refl, refl)

-- "when today's record is written, one that isn't a multiple of 256", in any list
pub fine_refused : (set_answer Whole (four line line line line) ≡ done)
    × (set_answer Whole (four fine line line line) ≡ Err HeightRange)
    × (set_answer Whole (four line fine line line) ≡ Err HeightRange)
    × (set_answer Whole (four line line fine line) ≡ Err HeightRange)
    × (set_answer Whole (four line line line fine) ≡ Err HeightRange)
unfolding set_answer rises_from all_allowed
fine_refused = (refl, refl, refl, refl, refl)
