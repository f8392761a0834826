-- When two sets are the same, as document 01's section "The set" has it. Definitions only.
use Rattle.std.specs.Prelude.{◌≡◌, true}
use Rattle.points.specs.declared.Curve.{Curve}
use Rattle.points.specs.Points.{list_of}
use Rattle.sets.specs.declared.Channel.{Channel}
use Rattle.sets.specs.declared.Curves.{Curves}

-- lists agree "point by point"; a claim of more points than there are agrees
-- with the same claim only
pub record SameCurve (a b : Curve) : Type 0 where
  pub count : a.count ≡ b.count
  pub points : list_of a ≡ list_of b

pub record SameChannel (a b : Channel) : Type 0 where
  pub present : a.present ≡ b.present
  pub curve : a.present ≡ true → SameCurve a.curve b.curve

-- "Two sets are the same if their lists, point by point, the colours present, and the kind with its
-- tension or slopes agree"
pub record Same (a b : Curves) : Type 0 where
  pub master : SameCurve a.master b.master
  pub red : SameChannel a.red b.red
  pub green : SameChannel a.green b.green
  pub blue : SameChannel a.blue b.blue
  pub kind : a.interpolation ≡ b.interpolation
