-- Records by example: P10 of document 01 from the writer's side, what is left out,
-- and what a kind carries.
use Rattle.std.specs.Prelude.{◌≡◌, refl, [], ◌∷◌, pos, negsuc, Err}
use Rattle.std.proofs.Math.Option.{some}
use Rattle.answers.specs.declared.Refusal.TheVariants.{PointCount, OutputTooSmall, HeightRange}
use Rattle.answers.specs.Checks.{first_refusal}
use Rattle.points.specs.Points.{pt, straight_curve, rises_from, all_allowed}
use Rattle.tables.specs.declared.CurveInterpolation.TheVariants.{
  Linear,
  MonotoneCubic,
  MonotoneCubicBox,
  NaturalCubic,
  Cardinal,
  ClampedCubic,
}
use Rattle.sets.specs.declared.Colour.TheVariants.{Green}
use Rattle.sets.specs.Sets.{empty_view, master_only, with_colour, with_kind}
use Rattle.sets.specs.Examples.{line, many, falling, fine, four}
use Rattle.writing.specs.Encode.{pair_bytes, bits_under, encode, write_checks}
use Rattle.answers.specs.Numbers.{done}

pub P10-written : encode (with_kind Linear (master_only straight_curve))
    ≡ 0x91 ∷ 2 ∷ 0 ∷ 0 ∷ 0xff ∷ 0xff ∷ 0 ∷ []
unfolding encode bits_under pair_bytes
P10-written = refl

-- an empty master and kind 3 have no byte but the map
pub empty_written : encode empty_view ≡ 0x80 ∷ []
unfolding encode bits_under
empty_written = refl

-- a colour that is present and empty has its count
pub empty_colour_written : encode (with_colour Green (some []) empty_view) ≡ 0x84 ∷ 0 ∷ []
unfolding encode bits_under pair_bytes
empty_colour_written = refl

-- just 3 is left out: the kinds beside it are named
pub kind_3_left_out : encode (with_kind MonotoneCubicBox empty_view) ≡ 0x80 ∷ []
unfolding encode bits_under
kind_3_left_out = refl

pub kind_2_named : encode (with_kind MonotoneCubic empty_view) ≡ 0x90 ∷ 2 ∷ []
unfolding encode bits_under
kind_2_named = refl

pub kind_4_named : encode (with_kind NaturalCubic empty_view) ≡ 0x90 ∷ 4 ∷ []
unfolding encode bits_under
kind_4_named = refl

pub tension_written : encode (with_kind (Cardinal 255) empty_view) ≡ 0xb0 ∷ 7 ∷ 255 ∷ []
unfolding encode bits_under
tension_written = refl

-- slopes 256 and −32,768, low byte first
pub slopes_written : encode (with_kind (ClampedCubic (pos 256) (negsuc 32767)) empty_view)
    ≡ 0xd0 ∷ 8 ∷ 0 ∷ 1 ∷ 0 ∷ 0x80 ∷ []
unfolding encode bits_under
slopes_written = refl

-- the order of the refusals: 3, 4 and 20 of the lists, then 13
pub refused_3 : first_refusal (write_checks (four line many fine line) 0) ≡ Err PointCount
unfolding rises_from all_allowed
refused_3 = refl

-- "when today's record is written, one that isn't a multiple of 256", "before the next list and all
-- later checks"
pub refused_20 : first_refusal (write_checks (four line fine many falling) 0) ≡ Err HeightRange
unfolding rises_from all_allowed
refused_20 = refl

pub refused_13 : first_refusal (write_checks (four line line line line) 21) ≡ Err OutputTooSmall
unfolding rises_from all_allowed encode bits_under pair_bytes
refused_13 = refl

pub accepted : first_refusal (write_checks (four line line line line) 22) ≡ done
unfolding rises_from all_allowed encode bits_under pair_bytes
accepted = refl

-- a height of 256 is the level 1
pub level_written : encode (master_only (pt 0 256 ∷ [])) ≡ 0x81 ∷ 1 ∷ 0 ∷ 1 ∷ []
unfolding encode bits_under pair_bytes
level_written = refl
