-- A position between two knots, and the part of the way gone there: 0 at the left knot, 1 at the
-- right one, between the two in order.
use Rattle.std.specs.Prelude.{refl, ℕ, ◌*◌, ◌≤◌, ◌<◌, false, pos, T, Float}
use Rattle.std.proofs.Common.{mul-pos, arith, lit<}
use Rattle.std.specs.Float.{fin, binary32}
use Rattle.std.specs.Float.Ieee.{fits, le}
use Rattle.std.specs.Float.Ieee.Scale.{finite}
use Rattle.floats.specs.Notation.{◌⊖◌}
use Rattle.floats.specs.Value.{Is, is_same, is_of_le}
use Rattle.floats.specs.Round.{Rounds, rounds_same}
use Rattle.floats.specs.Ops.{div_rounds}
use Rattle.floats.specs.Small.{zero_div, div_self}
use Rattle.floats.specs.Order.{above_equal, below_equal}
use Rattle.floats.specs.Mono.{sub_mono_left, div_mono_left, rounds_between}
use Rattle.floats.specs.Frac.{frac}
use Rattle.floats.specs.Approx.{Approx, rounds_by}
use Rattle.floats.specs.Line.{part}

-- v is k / h of the way from x0 to x1: the differences that `part` divides are
-- k / c and h / c, exactly
pub record Position (x0 x1 v : Float) (k h : ℕ) : Type 0 where
  pub fin : T (finite v)
  pub c : ℕ
  pub unit : 0 < c
  pub far : Is (v ⊖ x0) k 0 c
  pub width : Is (x1 ⊖ x0) h 0 c
  pub some : 0 < h
  pub inside : k ≤ h

pub part_start : {x0 x1 v : Float} {h : ℕ} → Position x0 x1 v 0 h → Is (part x0 x1 v) 0 0 1
part_start {x0} {x1} {v} {h} at =
    zero_div _ _ _ h at.c at.some at.unit
    (is_same (v ⊖ x0) 0 0 at.c 0 0 1 at.unit at.far (omega arith)) at.width

pub part_end : {x0 x1 v : Float} {h : ℕ} → Position x0 x1 v h h → Is (part x0 x1 v) 1 0 1
part_end {x0} {x1} {v} {h} at = div_self _ _ h at.c at.some at.unit at.far at.width

abbrev zero : Float
zero = fin false 0 (pos 0)

abbrev one : Float
one = fin false 1 (pos 0)

module _ {x0 x1 v : Float} {k h : ℕ} (at : Position x0 x1 v k h) where
  rounded : Rounds binary32 (part x0 x1 v) k 0 h
  rounded =
      let c = at.c in
      rounds_same _ _ (k * c) (0 * c) (c * h) k 0 h (mul-pos at.unit at.some) at.some
      (div_rounds _ _ _ k 0 c h c at.unit at.unit at.some at.far at.width)
      (omega arith)

  pub part_near : Approx 1 (part x0 x1 v) (frac k 0 h)
  part_near = rounds_by _ _ 1 (lit< tt) (lit< tt) at.some (omega arith) rounded

  between : T (finite (part x0 x1 v)) × T (le zero (part x0 x1 v)) × T (le (part x0 x1 v) one)
  between =
      rounds_between binary32 zero _ one k 0 h at.some (unfold fits in tt) (unfold fits in tt) tt
      tt rounded (omega arith) (omega arith)

  -- at least 0 and at most 1
  pub part_low : (z : Float) → Is z 0 0 1 → T (le z (part x0 x1 v))
  part_low z i = above_equal z zero _ 0 0 1 (lit< tt) i (tt, refl) between.1

  pub part_high : (z : Float) → Is z 1 0 1 → T (le (part x0 x1 v) z)
  part_high z i = below_equal z one _ 1 0 1 (lit< tt) i (tt, refl) between.2

-- ---- the order
pub part_order : {x0 x1 v w : Float} {k h j g : ℕ} → Position x0 x1 v k h → Position x0 x1 w j g
    → T (finite x0) → T (le v w)
    → T (le (part x0 x1 v) (part x0 x1 w))
part_order {x0} {x1} {v} {w} {k} {h} {j} at to f l =
    div_mono_left _ _ _ _ k 0 at.c j 0 to.c h at.c at.unit to.unit at.unit
    at.some at.far to.far at.width
    (is_of_le _ _ k 0 at.c j 0 to.c at.far to.far
    (sub_mono_left _ v w x0 at.fin to.fin f l))
