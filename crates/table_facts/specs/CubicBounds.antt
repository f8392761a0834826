-- The cubic piece is finite at every position, where its tangents are at most 2 ^ 220 units.
use Rattle.std.specs.Prelude.{List, ℕ, ◌+◌, ◌<◌, Float}
use Rattle.std.proofs.Common.{arith, lit≤}
use Rattle.floats.specs.Position.{part_low, part_high}
use Rattle.floats.specs.Within.{Within}
use Rattle.single.specs.Constants.{𝟎, 𝟏, 𝟎-is, 𝟏-is}
use Rattle.points.specs.declared.Knot.{Knot}
use Rattle.segments.specs.Segments.{segment}
use Rattle.points.specs.Knots.{at}
use Rattle.hermite.specs.Hermite.{hermite}
use Rattle.segments.specs.Rows.{Rows}
use Rattle.segments.specs.SegmentLaws.{InRange}
use Rattle.table_facts.specs.StraightLaws.{part_plain, on_piece, held}
use Rattle.table_facts.specs.CubicLaws.{cubic_at}
use Rattle.table_facts.specs.Sizes.{
  one_within,
  two_within,
  three_within,
  upto_within,
  plus,
  minus,
  times,
  Small,
  run_within,
  knot_small,
}

hermite_within : {a b : Knot} {ma mb t : Float} → Small a → Small b → Within ma 220 → Within mb 220
    → Within t 149 → Within (hermite a b ma mb t) 234
unfolding hermite
hermite_within p q va vb vt =
    let w = run_within p q in
    let rest = minus one_within vt tt in
    let twice = times two_within vt tt in
    let squared = times vt vt tt in
    let h00 = times (times (plus one_within twice tt) rest tt) rest tt in
    let h10 = times (times vt rest tt) rest tt in
    let h01 = times squared (minus three_within twice tt) tt in
    let h11 = times squared (minus vt one_within tt) tt in
    let left = plus (times h00 p.high tt) (times (times h10 w tt) va tt) tt in
    plus (plus left (times h01 q.high tt) tt) (times (times h11 w tt) vb tt) tt

module _ {xs ys : List Float} {n : ℕ} {a h : ℕ → ℕ} (r : Rows xs ys n a h) (ms : List Float)
    (tame : (i : ℕ) → i < n → Within (at ms i) 220) where
  pub cubic_within : (x : Float) → InRange x → Within (cubic_at xs ys ms n x) 234
  cubic_within x p =
      let s = segment xs n x in
      let k = held r p in
      let l : s < n = omega arith in
      let at_x = on_piece r p k in
      hermite_within (knot_small r s l) (knot_small r (s + 1) k.inside) (tame s l)
      (tame (s + 1) k.inside)
      (rw (part_plain r s x k.inside)
      (upto_within _ 𝟏 1 149 𝟏-is (part_low at_x 𝟎 𝟎-is) (part_high at_x 𝟏 𝟏-is) (lit≤ tt)))
