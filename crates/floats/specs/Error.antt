-- The error of one rounding to single precision: at most 2 ^ k / 2 ^ 25 for an
-- exact value below 2 ^ k.
use Rattle.std.specs.Prelude.{◌≡◌, ℕ, ◌+◌, ◌*◌, ◌^◌, ◌≤◌, ◌<◌, Bool, true, false, T, Float}
use Rattle.std.proofs.Common.{sym, ap, ◌∙◌, le_of_eq, lt_of_lt_of_le, lt_of_le_of_lt, mul-le-mul, mul-le-mul_left, mul_right_comm, mul-lt-mul_of_pos_right, mul-pos, div-lt_iff_lt-mul, arith, pow-add, pow_pos, pow_mono}
use Rattle.std.proofs.Math.Pow.{pow-lt}
use Rattle.std.specs.Float.{Format, binary32}
use Rattle.std.specs.Float.Ieee.{prec, low, round}
use Rattle.std.specs.Float.Ieee.Digits.{size-le}
use Rattle.std.specs.Float.Ieee.Fits.{round_is}
use Rattle.std.specs.Float.Ieee.Exact.{HasValue, units_val}
use Rattle.std.specs.Float.Ieee.Order.{drop}
use Rattle.std.specs.Float.Ieee.Scale.{grid, overflow, finite}
use Rattle.std.specs.Float.Ieee.Positive.{den, den_pos}
use Rattle.floats.specs.Signed.{Near, poly, le_up, up_le, near_flip}
use Rattle.floats.specs.Value.{top, bot, Is, is_of_pos, is_of_neg, is→le, is→ge}
use Rattle.floats.specs.Round.{Rounds, over, under}
use Rattle.floats.specs.Closest.{closest_near, kept_le}

-- ---- in units of the format's smallest value: a / c below 2 ^ (prec + j) units rounds to `grid f
-- a c` units, with an error of at most 2 ^ j / 2
module _ (f : Format) (a c j : ℕ) (C : 0 < c) (h : a * 2 ^ low f < 2 ^ (prec f + j) * c) where
  drop_le : drop (prec f) (a * 2 ^ low f) c ≤ j
  drop_le = omega (arith, size-le _ _ ((div-lt_iff_lt-mul C).1 h))

  grid_le : grid f a c ≤ 2 ^ (prec f + j)
  grid_le = rw (pow-add 2 (prec f) j) (mul-le-mul (kept_le _ _ c) (pow_mono drop_le))

  pub grid_near : (grid f a c * c * 2 ≤ a * 2 ^ low f * 2 + c * 2 ^ j)
      × (a * 2 ^ low f * 2 ≤ grid f a c * c * 2 + c * 2 ^ j)
  grid_near =
      let n = a * 2 ^ low f in
      let d = drop (prec f) n c in
      go _ (2 ^ d) n (2 ^ j) (pow_mono drop_le) (closest_near n _ (mul-pos C (pow_pos d)))
    where
      go : (k t n w : ℕ) → t ≤ w
          → (k * (c * t) * 2 ≤ n * 2 + c * t) × (n * 2 ≤ k * (c * t) * 2 + c * t)
          → (k * t * c * 2 ≤ n * 2 + c * w) × (n * 2 ≤ k * t * c * 2 + c * w)
      go k t n w l g = omega (arith, mul-le-mul_left c l)

pub round_at : (f : Format) (s : Bool) (a c : ℕ) → grid f a c < overflow f
    → HasValue (round f s a c) s (grid f a c) (2 ^ low f)
round_at f s a c h = rw round_is (units_val f s _ _ h)

-- ---- single precision
powers : (i j k l : ℕ) → i + j ≡ k + l → 2 ^ i * 2 ^ j ≡ 2 ^ k * 2 ^ l
powers i j k l e = rw (← pow-add 2 i j, ← pow-add 2 k l, e)

below_units : (a c k : ℕ) → a < 2 ^ k * c → a * 2 ^ 149 < 2 ^ (24 + (k + 125)) * c
below_units a c k h =
    lt_of_lt_of_le (mul-lt-mul_of_pos_right h (pow_pos 149)) (le_of_eq (mul_right_comm (2 ^ k) c _
    ∙ ap (◌* c) (powers k 149 24 _ (omega arith) ∙ sym (pow-add 2 24 _))))

at_grid : (s : Bool) (a c k : ℕ) → k ≤ 127 → 0 < c → a < 2 ^ k * c
    → HasValue (round binary32 s a c) s (grid binary32 a c) (2 ^ 149)
at_grid s a c k K C h =
    round_at _ s a c (lt_of_le_of_lt (grid_le binary32 a c _ C (below_units a c k h))
    (pow-lt {j = 277} (omega arith)))

-- g of the u units in 1 are near a / c, where w / 2 units are the largest error
units_near : (g a c u w K t p n : ℕ)
    → (g * c * 2 ≤ a * u * 2 + c * w) × (a * u * 2 ≤ g * c * 2 + c * w) → w * K ≡ t * u → p ≡ n + a
    → Near t (K * 2) g 0 u p n c
units_near g a c u w K t p n h e i =
    let size = simp poly at (ap (λ x. K * (x * u)) i) in
    let most = simp poly at (mul-le-mul_left K h.0) in
    let least = simp poly at (mul-le-mul_left K h.1) in
    let slack = simp poly at (ap (c *◌) e) in
    (simp poly (omega arith), simp poly (omega arith))

grid_of : (a p n c k : ℕ) → 0 < c → a < 2 ^ k * c → p ≡ n + a
    → Near (2 ^ k) (2 ^ 25) (grid binary32 a c) 0 (2 ^ 149) p n c
grid_of a p n c k C h e =
    units_near _ a c _ _ _ (2 ^ k) p n (grid_near binary32 a c _ C (below_units a c k h))
    (powers _ 24 k 149 (omega arith)) e

-- ---- near a float is near any fraction that it equals
module _ (z : Float) (q m d p n c i k : ℕ) where
  near_is : 0 < d → Is z q m d → Near i k q m d p n c
      → T (finite z) × Near i k (top z) (bot z) (den z) p n c
  near_is D h g = (
    h.0,
    (
      le_up i k _ _ _ q m d p n c D (is→le z q m d h) g.0,
      up_le i k p n c q m d _ _ _ D g.1 (is→ge z q m d h),
    ),
  )

  pub is_near : Is z q m d → Near i k (top z) (bot z) (den z) p n c → Near i k q m d p n c
  is_near h g = (
    le_up i k q m d _ _ _ p n c (den_pos z) (is→ge z q m d h) g.0,
    up_le i k p n c _ _ _ q m d (den_pos z) g.1 (is→le z q m d h),
  )

pub part_less : (p n a b : ℕ) → p ≡ n + a → p < n + b → a < b
part_less p n a b e h = omega arith

-- below 256 the error is at most 2 ^ -17
pub rounds_near : (z : Float) (p n c k : ℕ) → k ≤ 127 → 0 < c → Rounds binary32 z p n c
    → p < n + 2 ^ k * c → n < p + 2 ^ k * c
    → T (finite z) × Near (2 ^ k) (2 ^ 25) (top z) (bot z) (den z) p n c
rounds_near z p n c k K C (over a e i) h g =
    let u = grid binary32 a c in
    let l = part_less p n a _ e h in
    let v : Is z u 0 (2 ^ 149) =
    rw i (is_of_pos (round binary32 false a c) u _ (at_grid false a c k K C l)) in
    near_is z u 0 _ p n c (2 ^ k) _ (pow_pos 149) v (grid_of a p n c k C l e)
rounds_near z p n c k K C (under a e i) h g =
    let u = grid binary32 a c in
    let l = part_less n p a _ e g in
    let v : Is z 0 u (2 ^ 149) =
    rw i (is_of_neg (round binary32 true a c) u _ (at_grid true a c k K C l)) in
    near_is z 0 u _ p n c (2 ^ k) _ (pow_pos 149) v
    (near_flip (2 ^ k) _ u 0 _ n p c (grid_of a n p c k C l e))
