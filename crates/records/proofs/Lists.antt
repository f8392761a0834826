-- The check of a list that was read.
use Prim.Native.Nat.{◌≤◌}
use mathlib.Core.Path.{◌≡◌, ap}
use mathlib.Core.Bool.{true}
use mathlib.Core.List.{[]}
use native.Mathlib.Omega.{arith}
use borrow.Author.Tests.{le-ltb}
use lib.ListN.{length}
use Rattle.points.specs.declared.Curve.{Curve}
use Rattle.points.specs.Owned.{list_length}
use Rattle.points.specs.declared.Heights.TheVariants.{Whole}
use Rattle.points.specs.Joined.{FullRows, places_long}
use Rattle.points.specs.Points.{limit, list_of, rises, rises_from, all_allowed}
use Rattle.sets.specs.Sets.{curve_answer}
use Rattle.answers.specs.Numbers.{done}

pub list_passes : (c : Curve) → c.count ≤ limit → rises (list_of c) ≡ true → all_allowed Whole (list_of c) ≡ true
    → curve_answer Whole c ≡ done
unfolding curve_answer
list_passes c few rising whole = rw (le-ltb limit c.count few, rising, whole)

pub empty_passes : (c : Curve) → FullRows c → list_of c ≡ [] → curve_answer Whole c ≡ done
unfolding rises_from all_allowed
empty_passes c long e = list_passes c (omega (arith, list_length c (places_long c long), ap length e)) (rw e) (rw e)
