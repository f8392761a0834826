-- What a kind that a function is given tells because it is owned: its tension is a byte.
use mathlib.Core.List.{List}
use Prim.Native.Nat.{◌<◌}
use lib.Dec.{lit<}
use mir.Val.{Val}
use denote.Shadow.{shadow}
use Rattle.tables.specs.declared.CurveInterpolation.{CurveInterpolation}
use Rattle.tables.specs.declared.CurveInterpolation.TheVariants.{
  Linear,
  CatmullRom,
  MonotoneCubic,
  MonotoneCubicBox,
  NaturalCubic,
  CentripetalCatmullRom,
  ChordalCatmullRom,
  Cardinal,
  ClampedCubic,
  NotAKnotCubic,
}
use Rattle.tables.specs.Kinds.{carried_of}
use Rattle.tables.specs.contracts.CurveInterpolation.{the_field}

-- k is owned, as the values vs
abbrev IsOwned : CurveInterpolation → List Val → Type 0
IsOwned k vs = shadow (the_field.row.own_val (the_field.into k) vs)

pub tension_owned : (k : CurveInterpolation) (vs : List Val) → IsOwned k vs → (carried_of k).tension < 256
tension_owned Linear vs own = lit< tt
tension_owned CatmullRom vs own = lit< tt
tension_owned MonotoneCubic vs own = lit< tt
tension_owned MonotoneCubicBox vs own = lit< tt
tension_owned NaturalCubic vs own = lit< tt
tension_owned CentripetalCatmullRom vs own = lit< tt
tension_owned ChordalCatmullRom vs own = lit< tt
tension_owned (Cardinal q) vs own = own.1.1.1.1.0.1
tension_owned (ClampedCubic start end) vs own = lit< tt
tension_owned NotAKnotCubic vs own = lit< tt
