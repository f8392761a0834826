-- Laws of the small rules on one float: a test by the values of its floats, whole numbers as
-- floats, the absolute value, the clamp and the guarded quotient. Laws of the byte and of the
-- whole part are in ByteLaws.
use Rattle.std.specs.Prelude.{◌≡◌, refl, ◌↔◌, true, false, not, ℕ, ◌+◌, ◌-◌, ◌*◌, ◌^◌, ◌≤◌, ◌<◌, T, Float}
use Rattle.std.proofs.Common.{ap, le_trans, not-le_of_lt, lt_of_not-le, add_comm, add-sub_of_le, le_of_mul-le-mul_right, arith, lit<}
use Rattle.std.specs.Float.{nan, inf, fin, binary32}
use Rattle.std.specs.Float.Ieee.{up, down, is_nan, lt, le, of_int, of_bits}
use Rattle.std.specs.Float.Ieee.Back.{round_whole}
use Rattle.std.specs.Float.Ieee.Fits.{down_pos}
use Rattle.std.specs.Float.Ieee.Scale.{finite}
use Rattle.lists.specs.Test.{by_test}
use Rattle.floats.specs.Notation.{◌⊘◌}
use Rattle.floats.specs.Signed.{Le, Lt}
use Rattle.floats.specs.Value.{Is, absolute, is_of_pos, of_lt, of_le, le_of_nlt, is_of_le, le_of_is}
use Rattle.single.specs.Constants.{𝟎, 𝟏, 𝟐𝟓𝟓, 𝟒𝟎𝟗𝟒, 𝟎-is, 𝟐𝟓𝟓-is}
use Rattle.single.specs.Rules.{float, clamped, guarded_quotient}
use Rattle.floats.specs.Order as Order
use Rattle.floats.specs.Order.{le_numbers, le_of_lt, le_of_not_lt, not_lt_of_le}

-- ---- tests, by any fractions that the two floats equal
module _ (x y : Float) (p n c q m d : ℕ) (C : 0 < c) (D : 0 < d) (i : Is x p n c)
    (j : Is y q m d) where
  less : lt x y ≡ true → Lt p n c q m d
  less e = lt_of_not-le (λ (g : Le q m d p n c).
      not-le_of_lt (of_lt x y i.0 j.0 (rw e tt))
      (of_le y x j.0 i.0 (le_of_is y x q m d p n c D C j i g)))

  not_less : lt x y ≡ false → Le q m d p n c
  not_less e =
      is_of_le y x q m d p n c j i
      (le_of_nlt x y i.0 j.0 (rw e tt))

  pub lt_true : (lt x y ≡ true) ↔ Lt p n c q m d
  lt_true = (
    less,
    λ (h : Lt p n c q m d). by_test (lt x y) (λ e. e)
        (λ e. absurd (not-le_of_lt h (not_less e))),
  )

  pub lt_false : (lt x y ≡ false) ↔ Le q m d p n c
  lt_false = (
    not_less,
    λ (h : Le q m d p n c). by_test (lt x y) (λ e. absurd (not-le_of_lt (less e) h)) (λ e. e),
  )

-- ---- whole numbers as floats
pub float_is : (n : ℕ) → n ≤ 2 ^ 24 → Is (float n) n 0 1
unfolding of_int
float_is n h = is_of_pos (float n) n 1 (round_whole binary32 false n h)

pub float_le : (m n : ℕ) → m ≤ n → n ≤ 2 ^ 24 → T (le (float m) (float n))
float_le m n h k =
    le_of_is (float m) (float n) m 0 1 n 0 1 (lit< tt) (lit< tt) (float_is m (le_trans h k))
    (float_is n k) (omega arith)

pub 𝟎-float : 𝟎 ≡ float 0
unfolding of_bits of_int
𝟎-float = refl

pub 𝟏-float : 𝟏 ≡ float 1
unfolding of_bits of_int
𝟏-float = refl

pub 𝟐𝟓𝟓-float : 𝟐𝟓𝟓 ≡ float 255
unfolding of_bits of_int
𝟐𝟓𝟓-float = refl

pub 𝟒𝟎𝟗𝟒-float : 𝟒𝟎𝟗𝟒 ≡ float 4094
unfolding of_bits of_int
𝟒𝟎𝟗𝟒-float = refl

-- ---- the absolute value of (p - n) / c is |p - n| / c
-- a / d is (p - n) / c, so n is at most p
pub excess : (a c p n d : ℕ) → 0 < d → a * c + n * d ≡ p * d → (n ≤ p) × (a * c ≡ (p - n) * d)
excess a c p n d D e =
    let l : n ≤ p = le_of_mul-le-mul_right {k = d} (omega arith) D in
    (l, omega (arith, ap (λ (z : ℕ). z * d) (add-sub_of_le l)))

apart : (a c p n d : ℕ) → 0 < d → a * c + n * d ≡ p * d
    → a * c + 0 * d ≡ (p - n + (n - p)) * d + 0 * c
apart a c p n d D e =
    let (l, g) = excess a c p n d D e in
    let z : p - n + (n - p) ≡ p - n = omega arith in
    rw z (omega (arith, g))

pub absolute_is : (x : Float) (p n c : ℕ) → Is x p n c → Is (absolute x) (p - n + (n - p)) 0 c
unfolding absolute
absolute_is nan p n c i = absurd i.0
absolute_is (inf s) p n c i = absurd i.0
absolute_is (fin false m e) p n c i =
    (tt, apart (m * up e) c p n (down e) (down_pos e) (omega (arith, i.1)))
absolute_is (fin true m e) p n c i = (
  tt,
  rw (add_comm (p - n) (n - p))
      (apart (m * up e) c n p (down e) (down_pos e) (omega (arith, i.1))),
)

-- ---- the clamp
-- what holds of 𝟎 where x is below it, of 𝟐𝟓𝟓 where x is above it, and else
-- of x, holds of x clamped
pub clamped_cases : (P : Float → Type 0) (x : Float)
    → (T (lt x 𝟎) → P 𝟎)
    → (T (lt 𝟐𝟓𝟓 x) → P 𝟐𝟓𝟓)
    → (lt x 𝟎 ≡ false → lt 𝟐𝟓𝟓 x ≡ false → P x)
    → P (clamped x)
unfolding clamped
clamped_cases P x low high else =
    by_test (lt x 𝟎)
    (λ e. rw e (low (rw e tt)))
    (λ e. by_test (lt 𝟐𝟓𝟓 x) (λ g. rw (e, g) (high (rw g tt)))
    (λ g. rw (e, g) (else e g)))

pub clamped_keeps : (x : Float) → T (le 𝟎 x) → T (le x 𝟐𝟓𝟓) → clamped x ≡ x
unfolding clamped
clamped_keeps x h k = rw (not_lt_of_le 𝟎 x h, not_lt_of_le x 𝟐𝟓𝟓 k)

pub clamped_finite : (x : Float) → T (finite x) → T (finite (clamped x))
clamped_finite x f =
    clamped_cases (λ (z : Float). T (finite z)) x (λ e. 𝟎-is.0) (λ e. 𝟐𝟓𝟓-is.0) (λ e g. f)

-- NaN stays (Examples); any other float, an infinity too, comes to lie within 0..255
pub clamped_within : (x : Float) → T (not (is_nan x)) → T (le 𝟎 (clamped x)) × T (le (clamped x) 𝟐𝟓𝟓)
unfolding is_nan le of_bits
clamped_within x p =
    clamped_cases (λ (z : Float). T (le 𝟎 z) × T (le z 𝟐𝟓𝟓)) x
    (λ e. (tt, tt))
    (λ e. (tt, tt))
    (λ e g. (le_of_not_lt x 𝟎 p tt e, le_of_not_lt 𝟐𝟓𝟓 x tt p g))

below_clamped : (z x : Float) → T (le z x) → T (le z 𝟐𝟓𝟓) → T (le z (clamped x))
below_clamped z x h k =
    clamped_cases (λ (y : Float). T (le z y)) x (λ e. Order.le_trans z x 𝟎 h (le_of_lt x 𝟎 e))
    (λ e. k) (λ e g. h)

-- The order is kept, infinities included. A comparison that holds has no NaN.
pub clamped_le : (x y : Float) → T (le x y) → T (le (clamped x) (clamped y))
unfolding is_nan le of_bits
clamped_le x y h =
    let numbers = le_numbers x y h in
    clamped_cases (λ (z : Float). T (le z (clamped y))) x
    (λ e. (clamped_within y numbers.1).0)
    (λ e. below_clamped 𝟐𝟓𝟓 y (Order.le_trans 𝟐𝟓𝟓 x y (le_of_lt 𝟐𝟓𝟓 x e) h) tt)
    (λ e g. below_clamped x y h (le_of_not_lt 𝟐𝟓𝟓 x tt numbers.0 g))

-- ---- the guarded quotient
pub guarded_plain : (a b limit : Float) → T (le limit (absolute b))
    → guarded_quotient a b limit ≡ a ⊘ b
unfolding guarded_quotient
guarded_plain a b limit h = rw (not_lt_of_le limit (absolute b) h)

-- the same by value: |p - n| / c is at least q / d
pub guarded_value : (a b limit : Float) (p n c q d : ℕ) → 0 < c → 0 < d → Is b p n c
    → Is limit q 0 d
    → q * c ≤ (p - n + (n - p)) * d → guarded_quotient a b limit ≡ a ⊘ b
guarded_value a b limit p n c q d C D i j h =
    guarded_plain a b limit
    (le_of_is limit (absolute b) q 0 d (p - n + (n - p)) 0 c D C j (absolute_is b p n c i)
    (omega arith))
