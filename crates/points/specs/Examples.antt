-- Document 01's marked examples, as far as they speak of lists: P3's kept points, the knots of an
-- empty list (P1) and of (128,200) (P2). And the words of points and of heights, and the exact
-- broken line of a list given unsorted, at their edges.
use Rattle.std.specs.Prelude.{◌≡◌, refl, List, [], ◌∷◌, ℕ, zero, suc, ◌-◌, ◌≤◌, ◌<◌, Err}
use Rattle.std.proofs.Common.{arith, lit<, lit≤}
use Rattle.answers.specs.declared.Refusal.TheVariants.{PointCount, HeightRange}
use Rattle.answers.specs.Checks.{first_refusal}
use Rattle.points.specs.declared.Point.{Point}
use Rattle.points.specs.declared.Curve.{Curve}
use Rattle.points.specs.declared.Heights.TheVariants.{Fine, Whole}
use Rattle.points.specs.Points.{
  pt,
  level,
  at_level,
  straight_curve,
  rounded,
  count_check,
  all_allowed,
  height_check,
  list_checks,
  first_at,
  kept_below,
  kept,
}
use Rattle.points.specs.Joined.{curve_of}
use Rattle.points.specs.Knots.{rest, knots, given_knots, x_of, OnLine}
use Rattle.points.specs.Order.{All, Typed, Proper, WholeHeight, Rising, NeverFalls}
use Rattle.answers.specs.Numbers.{done}

pub P3-kept
    : kept (at_level 10 5 ∷ at_level 10 9 ∷ at_level 0 0 ∷ []) ≡ at_level 0 0 ∷ at_level 10 5 ∷ []
unfolding kept kept_below first_at
P3-kept = refl

pub P1-knots : knots [] ≡ at_level 0 0 ∷ at_level 255 0 ∷ []
unfolding knots
P1-knots = refl

pub P2-knots : knots (at_level 128 200 ∷ [])
    ≡ at_level 0 200 ∷ at_level 128 200 ∷ at_level 255 200 ∷ []
unfolding rest knots
P2-knots = refl

-- "the straight curve", and at most 64 points
pub straight : straight_curve ≡ pt 0 0 ∷ pt 255 65280 ∷ []
straight = refl

-- "256ths of a level, 0 to 65,280"
pub levels_at_edges : (level 0 ≡ 0) × (level 1 ≡ 256) × (level 255 ≡ 65280)
levels_at_edges = (refl, refl, refl)

-- "its height rounded, a half upward"
pub rounded_at_edges : (rounded 0 ≡ 0) × (rounded 127 ≡ 0) × (rounded 128 ≡ 1) × (rounded 383 ≡ 1)
    × (rounded 384 ≡ 2) × (rounded 65151 ≡ 254) × (rounded 65152 ≡ 255) × (rounded 65280 ≡ 255)
rounded_at_edges = (refl, refl, refl, refl, refl, refl, refl, refl)

pub count_at_edges :
    (first_refusal (count_check 64 ∷ []) ≡ done) × (first_refusal (count_check 65 ∷ []) ≡ Err PointCount)
count_at_edges = (refl, refl)

-- a list with points at 0 and at 255 has no further knots, one with points next to them has two
pub knots_at_edges :
    (knots (pt 0 7 ∷ pt 255 9 ∷ []) ≡ pt 0 7 ∷ pt 255 9 ∷ [])
    × (knots (pt 1 0 ∷ pt 254 255 ∷ []) ≡ pt 0 0 ∷ pt 1 0 ∷ pt 254 255 ∷ pt 255 255 ∷ [])
unfolding rest knots
knots_at_edges = (refl, refl)

-- 20: "a height above 65,280", of any point; when today's record is written, also "one that isn't a
-- multiple of 256"
pub heights_at_edges :
    (first_refusal (height_check Fine (pt 0 1 ∷ pt 1 65280 ∷ []) ∷ []) ≡ done)
    × (first_refusal (height_check Fine (pt 0 1 ∷ pt 1 65281 ∷ []) ∷ []) ≡ Err HeightRange)
    × (first_refusal (height_check Fine (pt 0 65535 ∷ pt 1 0 ∷ []) ∷ []) ≡ Err HeightRange)
    × (first_refusal (height_check Whole (pt 0 256 ∷ pt 1 65280 ∷ []) ∷ []) ≡ done)
    × (first_refusal (height_check Whole (pt 0 0 ∷ pt 1 65281 ∷ []) ∷ []) ≡ Err HeightRange)
    × (first_refusal (height_check Whole (pt 0 0 ∷ pt 1 65279 ∷ []) ∷ []) ≡ Err HeightRange)
    × (first_refusal (height_check Whole (pt 0 1 ∷ pt 1 0 ∷ []) ∷ []) ≡ Err HeightRange)
    × (first_refusal (height_check Whole (pt 0 65536 ∷ []) ∷ []) ≡ Err HeightRange)
unfolding all_allowed
heights_at_edges = (refl, refl, refl, refl, refl, refl, refl, refl)

-- a given list: 3, then 20, also of a point that sorting drops; what is past the count is not asked
abbrev claiming : ℕ → Curve
claiming n = curve_of (pt 7 0 ∷ pt 7 65281 ∷ []) n

pub given_at_edges : (first_refusal (list_checks (claiming 65)) ≡ Err PointCount)
    × (first_refusal (list_checks (claiming 64)) ≡ Err HeightRange)
    × (first_refusal (list_checks (claiming 2)) ≡ Err HeightRange)
    × (first_refusal (list_checks (claiming 1)) ≡ done)
unfolding all_allowed
given_at_edges = (refl, refl, refl, refl)

-- x is a byte and y a 16-bit number, of every point; of a list that passed 20 it is at most 65,280
pub typed_at_edges :
    All Typed (pt 0 65535 ∷ pt 255 0 ∷ []) × (All Typed (pt 0 0 ∷ pt 256 0 ∷ []) → ⊥)
    × (All Typed (pt 0 65536 ∷ pt 1 0 ∷ []) → ⊥)
typed_at_edges = (
  ((lit< tt, lit< tt), ((lit< tt, lit< tt), tt)),
  λ b. omega (arith, b.1.0.0),
  λ b. omega (arith, b.0.1),
)

pub proper_at_edges :
    All Proper (pt 0 65280 ∷ pt 255 0 ∷ []) × (All Proper (pt 0 0 ∷ pt 256 0 ∷ []) → ⊥)
    × (All Proper (pt 0 65281 ∷ pt 1 0 ∷ []) → ⊥)
proper_at_edges = (
  ((lit< tt, lit≤ tt), ((lit< tt, lit≤ tt), tt)),
  λ b. omega (arith, b.1.0.0),
  λ b. omega (arith, b.0.1),
)

-- a whole height is a level, and 255 and 257 are none
pub whole_at_edges :
    All WholeHeight (at_level 0 0 ∷ at_level 1 1 ∷ at_level 2 255 ∷ [])
    × (All WholeHeight (pt 0 0 ∷ pt 1 255 ∷ []) → ⊥)
    × (All WholeHeight (pt 0 257 ∷ pt 1 0 ∷ []) → ⊥)
whole_at_edges = ((refl, (refl, (refl, tt))), λ w. omega (arith, w.1.0), λ w. omega (arith, w.0))

-- x rises from each point to the next, and does not stay
pub rising_at_edges :
    Rising (pt 0 9 ∷ pt 1 0 ∷ pt 2 0 ∷ []) × (Rising (pt 0 0 ∷ pt 0 9 ∷ pt 1 9 ∷ []) → ⊥)
    × (Rising (pt 0 0 ∷ pt 9 8 ∷ pt 9 9 ∷ []) → ⊥)
rising_at_edges =
    ((lit< tt, (lit< tt, tt)), λ r. omega (arith, r.0), λ r. omega (arith, r.1.0))

-- y may stay from each point to the next, and does not fall, by one even
pub never_falls_at_edges :
    NeverFalls (pt 9 4 ∷ pt 0 4 ∷ pt 0 5 ∷ []) × (NeverFalls (pt 0 4 ∷ pt 9 3 ∷ pt 9 4 ∷ []) → ⊥)
    × (NeverFalls (pt 0 4 ∷ pt 9 5 ∷ pt 9 4 ∷ []) → ⊥)
never_falls_at_edges =
    ((lit≤ tt, (lit≤ tt, tt)), λ f. omega (arith, f.0), λ f. omega (arith, f.1.0))

-- the line of (2,1),(0,0) joins (0,0), (2,1) and (255,1): at 1 it is 1 / 2
abbrev unsorted : List Point
unsorted = at_level 2 1 ∷ at_level 0 0 ∷ []

pub unsorted_line_at_1 : OnLine unsorted 1 256 512
unfolding kept kept_below first_at rest knots
unsorted_line_at_1 = record {
  divisor = lit< tt;
  i = 0;
  inside = lit< tt;
  left = lit≤ tt;
  right = lit≤ tt;
  width = refl;
  height = refl;
}

-- and that of (0,10),(255,20) is 3,060 / 255 at 51, which is 12
pub slanting_line_at_51 : OnLine (at_level 0 10 ∷ at_level 255 20 ∷ []) 51 783360 65280
unfolding kept kept_below first_at rest knots
slanting_line_at_51 = record {
  divisor = lit< tt;
  i = 0;
  inside = lit< tt;
  left = lit≤ tt;
  right = lit≤ tt;
  width = refl;
  height = refl;
}

-- "both ends included": at the first knot, at the last, and "At an inner knot both sides give the
-- knot's y"
pub line_at_ends : OnLine unsorted 0 0 512 × OnLine unsorted 255 64768 64768
unfolding kept kept_below first_at rest knots
line_at_ends = (
  record {
    divisor = lit< tt;
    i = 0;
    inside = lit< tt;
    left = lit≤ tt;
    right = lit≤ tt;
    width = refl;
    height = refl;
  },
  record {
    divisor = lit< tt;
    i = 1;
    inside = lit< tt;
    left = lit≤ tt;
    right = lit≤ tt;
    width = refl;
    height = refl;
  },
)

pub line_at_inner_knot : OnLine unsorted 2 512 512 × OnLine unsorted 2 64768 64768
unfolding kept kept_below first_at rest knots
line_at_inner_knot = (
  record {
    divisor = lit< tt;
    i = 0;
    inside = lit< tt;
    left = lit≤ tt;
    right = lit≤ tt;
    width = refl;
    height = refl;
  },
  record {
    divisor = lit< tt;
    i = 1;
    inside = lit< tt;
    left = lit≤ tt;
    right = lit≤ tt;
    width = refl;
    height = refl;
  },
)

-- three knots have two segments, and no more; a byte past a segment's ends is not on it
pub two_segments : {v n d : ℕ} (o : OnLine unsorted v n d) → o.i < 2
unfolding kept kept_below first_at rest knots
two_segments o = omega (arith, o.inside)

pub past_the_ends : (OnLine unsorted 256 64768 64768 → ⊥) × (OnLine unsorted 1 64768 64768 → ⊥)
unfolding kept kept_below first_at rest knots
past_the_ends = (
  λ o. beyond o.i o.inside (omega (arith, o.right)),
  λ o. before o.i (omega (arith, o.left)) (omega (arith, o.width)),
)
  where
    beyond : (i : ℕ) → suc i < 3 → 256 ≤ x_of (given_knots unsorted) (suc i) → ⊥
    beyond zero h r = omega (arith, r)
    beyond (suc zero) h r = omega (arith, r)
    beyond (suc (suc i)) h r = omega arith

    before : (i : ℕ) → x_of (given_knots unsorted) i ≤ 1
        → 253 ≡ x_of (given_knots unsorted) (suc i) - x_of (given_knots unsorted) i → ⊥
    before zero l w = omega (arith, w)
    before (suc zero) l w = omega (arith, l)
    before (suc (suc i)) l w = omega (arith, w)
