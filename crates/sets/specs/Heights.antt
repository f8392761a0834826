-- 20 of a whole set: whether every list of it has such heights as it may have. What follows is in
-- proofs/HeightLaws. Definitions only.
use Rattle.std.specs.Prelude.{Bool, true, not, ◌&&◌, List}
use Rattle.std.proofs.Math.Option.{Option, none, some}
use Rattle.answers.specs.declared.Refusal.TheVariants.{HeightRange}
use Rattle.answers.specs.Checks.{Check, ◌when◌}
use Rattle.points.specs.declared.Point.{Point}
use Rattle.points.specs.declared.Heights.{Heights}
use Rattle.points.specs.Points.{all_allowed}
use Rattle.sets.specs.Sets.{View}

-- a colour that is not there has no height
abbrev pub colour_allowed : Heights → Option (List Point) → Bool
colour_allowed heights none = true
colour_allowed heights (some l) = all_allowed heights l

abbrev pub every_allowed : Heights → View → Bool
every_allowed heights v =
    ((all_allowed heights v.master && colour_allowed heights v.red)
    && colour_allowed heights v.green)
    && colour_allowed heights v.blue

-- 20 of any list of the set
abbrev pub heights_check : Heights → View → Check
heights_check heights v = HeightRange when not (every_allowed heights v)
