-- A set with one member replaced holds what it held, but for that member.
use Rattle.std.specs.Prelude.{◌≡◌, refl}
use Rattle.points.specs.declared.Curve.{Curve}
use Rattle.points.specs.Points.{list_of}
use Rattle.tables.specs.declared.CurveInterpolation.{CurveInterpolation}
use Rattle.sets.specs.declared.Channel.{Channel}
use Rattle.sets.specs.declared.Colour.{Colour}
use Rattle.sets.specs.declared.Colour.TheVariants.{Red, Green, Blue}
use Rattle.sets.specs.declared.Curves.{Curves}
use Rattle.sets.specs.Sets.{
  view_of,
  channel_of,
  with_master,
  with_colour,
  with_kind,
  replace_master,
  replace_colour,
  replace_kind,
}

pub master_replaced : (c : Curve) (s : Curves)
    → view_of (replace_master c s) ≡ with_master (list_of c) (view_of s)
master_replaced c s = refl

pub colour_replaced : (colour : Colour) (c : Channel) (s : Curves)
    → view_of (replace_colour colour c s) ≡ with_colour colour (channel_of c) (view_of s)
colour_replaced Red c s = refl
colour_replaced Green c s = refl
colour_replaced Blue c s = refl

pub kind_replaced : (k : CurveInterpolation) (s : Curves)
    → view_of (replace_kind k s) ≡ with_kind k (view_of s)
kind_replaced k s = refl
