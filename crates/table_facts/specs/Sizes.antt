-- How large the numbers are that tangents are made of: constants, knots, and quotients with a
-- guard. Sizes are powers of two, in the units of `Within`, of which 1.0 has 2 ^ 149; a knot's x
-- and height are at most 2 ^ 8, so 2 ^ 157 units.
use Rattle.std.specs.Prelude.{◌≡◌, Bool, false, cond, List, ℕ, suc, ◌+◌, ◌-◌, ◌*◌, ◌^◌, max, ◌≤◌, ◌<◌, T, ltb, leb, Float}
use Rattle.std.proofs.Common.{sym, inl, le_trans, zero-add, mul_right_comm, mul-le-mul_right, arith, lit<, lit≤}
use Rattle.std.proofs.Math.Nat.{le-max_left, le-max_right}
use Rattle.std.specs.Float.Ieee.{lt, le, of_bits}
use Rattle.std.specs.Float.Ieee.Positive.{den, den_pos}
use Rattle.floats.specs.Notation.{◌⊕◌, ◌⊖◌, ◌⊗◌, ◌⊘◌}
use Rattle.floats.specs.Value.{Is, top, is_of_le, unsigned, absolute}
use Rattle.floats.specs.Order.{finite_between}
use Rattle.floats.specs.Within.{
  Within,
  Beyond,
  within_of,
  beyond_of,
  within_is,
  within_zero,
  widen,
  within_cond,
  within_test,
  within_add,
  within_sub,
  within_mul,
  within_div,
  guarded,
}
use Rattle.single.specs.Constants.{𝟎, ½, 𝟏, 𝟐, 𝟑, 𝟗, micro, nano, 𝟎-is}
use Rattle.single.specs.Rules.{guarded_quotient}
use Rattle.points.specs.declared.Knot.{Knot}
use Rattle.points.specs.Knots.{knot_at, before, after}
use Rattle.segments.specs.Rows.{Rows, x_most}
use Rattle.segments.specs.SegmentLaws.{nonnegative_is}

-- ---- numbers that are not negative: p / c, p being at most b
pub most_within : (x : Float) (p c b k : ℕ) → 0 < c → Is x p 0 c → p ≤ b → b * 2 ^ 149 ≤ 2 ^ k * c
    → Within x k
most_within x p c b k C i l h =
    within_is x p 0 c p k C i (inl (sym (zero-add p))) (le_trans (mul-le-mul_right (2 ^ 149) l) h)

-- what is from 0 to the whole number b
pub upto_within : (x y : Float) (b k : ℕ) → Is y b 0 1 → T (le 𝟎 x) → T (le x y)
    → b * 2 ^ 149 ≤ 2 ^ k → Within x k
upto_within x y b k e low high small =
    let i = nonnegative_is x (finite_between 𝟎 x y 𝟎-is.0 e.0 low high) low in
    let most = is_of_le x y (top x) 0 (den x) b 0 1 i e high in
    most_within x (top x) (den x) (b * den x) k (den_pos x) i (omega arith)
    (rw mul_right_comm (mul-le-mul_right (den x) small))

pub half_within : Within ½ 148
unfolding of_bits
half_within = within_of tt (lit≤ tt)

pub one_within : Within 𝟏 149
unfolding of_bits
one_within = within_of tt (lit≤ tt)

pub two_within : Within 𝟐 150
unfolding of_bits
two_within = within_of tt (lit≤ tt)

pub three_within : Within 𝟑 151
unfolding of_bits
three_within = within_of tt (lit≤ tt)

-- ---- operations on numbers whose sizes are numerals: the result's size is computed, and `tt` says
-- that it is at most 2 ^ 276 units
module _ {x y : Float} {j k : ℕ} (v : Within x j) (w : Within y k) where
  -- both, at the larger of their sizes
  left_wide : Within x (max j k)
  left_wide = widen (max j k) v (le-max_left j k)

  right_wide : Within y (max j k)
  right_wide = widen (max j k) w (le-max_right j k)

  pub plus : T (ltb (max j k) 276) → Within (x ⊕ y) (suc (max j k))
  plus small = within_add left_wide right_wide (lit< small)

  pub minus : T (ltb (max j k) 276) → Within (x ⊖ y) (suc (max j k))
  minus small = within_sub left_wide right_wide (lit< small)

  pub times : T (leb (j + k - 149) 276) → Within (x ⊗ y) (j + k - 149)
  times small = within_mul (j + k - 149) v w (omega arith) (lit≤ small)

pub divided : {x y : Float} {j l : ℕ} → Within x j → Beyond y l → T (leb (j + 149 - l) 276)
    → Within (x ⊘ y) (j + 149 - l)
divided {j = j} {l} v w small = within_div (j + 149 - l) v w (omega arith) (lit≤ small)

pub either : (b : Bool) {x y : Float} {j k : ℕ} → Within x j → Within y k
    → Within (cond b x y) (max j k)
either b v w = within_cond b (left_wide v w) (right_wide v w)

-- ---- a guard: a number above 0, of at least 2 ^ l units
pub record Guard (g : Float) (l : ℕ) : Type 0 where
  pub plus : T (unsigned g)
  pub least : Beyond g l

pub micro_guard : Guard micro 129
unfolding of_bits
micro_guard = record { plus = tt; least = beyond_of tt (lit≤ tt) }

pub nano_guard : Guard nano 119
unfolding of_bits
nano_guard = record { plus = tt; least = beyond_of tt (lit≤ tt) }

pub nine_guard : Guard 𝟗 152
unfolding of_bits
nine_guard = record { plus = tt; least = beyond_of tt (lit≤ tt) }

-- what it lets pass
pub passed : {d g : Float} {k l : ℕ} → Within d k → Guard g l → lt (absolute d) g ≡ false
    → Beyond d l
passed w g e = guarded w g.plus g.least e

pub guarded_within : {p d g : Float} {j k l : ℕ} (t : ℕ) → Guard g l → Within p j → Within d k
    → j + 149 ≤ t + l → t ≤ 276
    → Within (guarded_quotient p d g) t
unfolding guarded_quotient
guarded_within {d = d} {g = g} t guard v w h K =
    within_test (lt (absolute d) g) (within_zero 𝟎 t 𝟎-is)
    (λ e. within_div t v (passed w guard e) h K)

-- ---- knots
pub record Small (k : Knot) : Type 0 where
  pub across : Within k.x 157
  pub high : Within k.y 157

pub run_within : {l r : Knot} → Small l → Small r → Within (r.x ⊖ l.x) 158
run_within p q = minus q.across p.across tt

pub rise_within : {l r : Knot} → Small l → Small r → Within (r.y ⊖ l.y) 158
rise_within p q = minus q.high p.high tt

module _ {xs ys : List Float} {n : ℕ} {a h : ℕ → ℕ} (r : Rows xs ys n a h) where
  pub knot_small : (i : ℕ) → i < n → Small (knot_at xs ys i)
  knot_small i l = record {
    across = most_within _ _ 1 255 157 (lit< tt) (r.x_is i l) (x_most r i l) (lit≤ tt);
    high = most_within _ _ 256 65280 157 (lit< tt) (r.y_is i l) (r.high i l) (lit≤ tt);
  }

  pub before_small : (i : ℕ) → i < n → Small (knot_at xs ys (before i))
  before_small i l = knot_small (before i) (omega arith)

  pub after_small : (i : ℕ) → i < n → Small (knot_at xs ys (after n i))
  after_small i l = knot_small (after n i) (omega arith)
