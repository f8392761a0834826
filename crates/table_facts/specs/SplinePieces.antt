-- The piece of a spline is finite at every position, where its second derivatives are at most
-- 2 ^ 225 units; and how large the slopes of a clamped curve are.
use Rattle.std.specs.Prelude.{Bool, true, false, List, ℕ, suc, ◌+◌, ◌*◌, ◌^◌, ◌≤◌, ◌<◌, ℤ, pos, negsuc, Float}
use Rattle.std.proofs.Common.{le_trans, le_of_lt, mul-le-mul_right, lit<, lit≤, pow_pos}
use native.Mathlib.Omega.{arith}
use Rattle.std.specs.Int.Signed.{mag}
use Rattle.std.specs.Float.{binary32}
use Rattle.std.specs.Float.Ieee.{round, of_int, of_bits}
use Rattle.floats.specs.Notation.{◌⊖◌, ◌⊗◌}
use Rattle.floats.specs.Exact.{rep_power}
use Rattle.floats.specs.Small.{whole_mul}
use Rattle.floats.specs.Bound.{round_at_most}
use Rattle.floats.specs.Within.{Within, Beyond, beyond_of, widen}
use Rattle.single.specs.Constants.{𝟐, 𝟔, 𝟐𝟓𝟓, 𝟐𝟓𝟔, 𝟔-is, 𝟐𝟓𝟓-is}
use Rattle.points.specs.declared.Knot.{Knot}
use Rattle.points.specs.Knots.{knot_at, at, too_thin}
use Rattle.segments.specs.Segments.{segment}
use Rattle.segments.specs.Rows.{Rows}
use Rattle.segments.specs.SegmentLaws.{InRange}
use Rattle.spline.specs.Segments.{between, segment_at, first_coefficient, spline_piece, slope_of}
use Rattle.table_facts.specs.Sizes.{upto_within, two_within, Small, knot_small}
use Rattle.table_facts.specs.Sizes.{plus, minus, times, divided, either}
use Rattle.table_facts.specs.StraightLaws.{held}
use Rattle.table_facts.specs.SplineBounds.{least_beyond, Sized, width_within, sized}

-- ---- slopes
-- a signed number of 16 bits
rounded_within : (s : Bool) (n : ℕ) → n ≤ 32768 → Within (round binary32 s n 1) 164
rounded_within s n h = record {
  most = round_at_most binary32 s n 1 (2 ^ 164) (2 ^ 149) (lit< tt) (pow_pos 149)
      (rep_power 164 (lit≤ tt)) (le_trans (mul-le-mul_right (2 ^ 149) h) (lit≤ tt));
}

signed_within : (q : ℤ) → mag q < 32768 → Within (of_int binary32 q) 164
unfolding of_int
signed_within (pos n) h = rounded_within false n (le_of_lt h)
signed_within (negsuc n) h = rounded_within true (suc n) h

-- no larger than what is known of a secant
pub slope_of_within : (q : ℤ) → mag q < 32768 → Within (slope_of q) 178
unfolding slope_of of_bits
slope_of_within q h =
    let divisor : Beyond 𝟐𝟓𝟔 157 = beyond_of tt (lit≤ tt) in
    widen 178 (divided (signed_within q h) divisor tt) (lit≤ tt)

-- ---- a piece
two_beyond : Beyond 𝟐 150
unfolding of_bits
two_beyond = beyond_of tt (lit≤ tt)

six_beyond : Beyond 𝟔 151
unfolding of_bits
six_beyond = beyond_of tt (lit≤ tt)

-- t is x less the x of the knot a
piece_within : {a : Knot} (b : Knot) {ma mb x : Float} {w : ℕ} → Small a → Sized (between a b) w
    → Within ma 225 → Within mb 225 → Within x 157 → Within (spline_piece a b ma mb x) 252
unfolding spline_piece first_coefficient between
piece_within {a} b {w = w} p z va vb vx =
    let t = minus vx p.across tt in
    let sum = plus (times two_within va tt) vb tt in
    let c1 = minus z.secant (divided (times (width_within z) sum tt) six_beyond tt) tt in
    let c2 = divided va two_beyond tt in
    let six-widths = whole_mul 𝟔 (b.x ⊖ a.x) 6 w (omega arith) 𝟔-is z.width in
    let divisor : Beyond (𝟔 ⊗ (b.x ⊖ a.x)) 151 =
    least_beyond _ (6 * w) 1 6 151 (lit< tt) six-widths (omega arith) (lit≤ tt) in
    let c3 = divided (minus vb va tt) divisor tt in
    let linear = plus p.high (times c1 t tt) tt in
    let square = plus linear (times (times c2 t tt) t tt) tt in
    let cubic = plus square (times (times (times c3 t tt) t tt) t tt) tt in
    either (too_thin a.x b.x) p.high cubic

-- ---- a curve
-- the piece in the segment of x, with the second derivatives of the row ms
abbrev pub spline_at : List Float → List Float → List Float → ℕ → Float → Float
spline_at xs ys ms n x =
    let s = segment xs n x in
    spline_piece (knot_at xs ys s) (knot_at xs ys (s + 1)) (at ms s) (at ms (s + 1)) x

module _ {xs ys : List Float} {n : ℕ} {a h : ℕ → ℕ} (r : Rows xs ys n a h) (ms : List Float)
    (tame : (i : ℕ) → i < n → Within (at ms i) 225) where
  pub spline_within : (x : Float) → InRange x → Within (spline_at xs ys ms n x) 252
  unfolding segment_at
  spline_within x p =
      let s = segment xs n x in
      let k = held r p in
      let l : s < n = omega arith in
      piece_within (knot_at xs ys (s + 1)) (knot_small r s l) (sized r s k.inside) (tame s l)
      (tame (s + 1) k.inside) (upto_within x 𝟐𝟓𝟓 255 157 𝟐𝟓𝟓-is p.low p.high (lit≤ tt))
