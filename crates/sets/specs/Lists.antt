-- What holds of every list of a set: of the master and of each colour that is present. Definitions
-- only.
use Rattle.std.specs.Prelude.{List}
use Rattle.std.proofs.Math.Option.{Option, none, some}
use Rattle.points.specs.declared.Point.{Point}
use Rattle.sets.specs.Sets.{View}

-- P of a colour's list, where it is present
abbrev pub OfColour : (List Point → Type 0) → Option (List Point) → Type 0
OfColour P none = Unit {0}
OfColour P (some l) = P l

pub record EveryList (P : List Point → Type 0) (v : View) : Type 0 where
  pub master : P v.master
  pub red : OfColour P v.red
  pub green : OfColour P v.green
  pub blue : OfColour P v.blue
