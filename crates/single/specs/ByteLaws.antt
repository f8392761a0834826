-- Laws of the whole numbers that floats are turned into: to a byte, and the whole part.
-- Both are `whole_by` a rule for fractions, and the laws hold for any rule that
-- grows with the fraction.
use Rattle.std.specs.Prelude.{◌≡◌, refl, T, Float}
use Rattle.std.proofs.Common.{sym, ◌∙◌, le_antisymm, le_of_eq, div-one, div-mul-le_self, lit<, lit≤}
use Rattle.std.proofs.Math.Path.{ap}
use Rattle.std.proofs.Math.Bool.{true, false}
use Prim.Native.Nat.{ℕ, ◌+◌, ◌-◌, ◌*◌, ◌/◌, ◌^◌, ◌≤◌, ◌<◌, min, zero-le}
use Rattle.std.proofs.Math.Nat.{le_refl, sub-zero, lt-div-mul-add}
use native.Mathlib.Omega.{arith}
use Rattle.std.specs.Float.Ieee.{nan, up, down, le, of_bits}
use Rattle.std.specs.Float.{inf, fin}
use Rattle.std.specs.Float.Ieee.Fits.{down_pos}
use Rattle.std.specs.Float.Ieee.Nearest.{div_mono}
use Rattle.floats.specs.Value.{Is, of_le}
use Rattle.single.specs.Constants.{𝟎, 𝟐𝟓𝟓}
use Rattle.single.specs.Rules.{float, clamped, whole_by, nearest_whole, byte_of, floor_of}
use Rattle.single.specs.RuleLaws.{clamped_cases, excess, float_is, 𝟎-float, 𝟐𝟓𝟓-float}
use Rattle.floats.specs.Order.{le_of_lt}

-- a rule for fractions that grows with the fraction and leaves whole numbers alone
pub record Rule (rule : ℕ → ℕ → ℕ) : Type 0 where
  pub grows : (a d b c : ℕ) → 0 < d → 0 < c → a * c ≤ b * d → rule a d ≤ rule b c
  pub whole : (k : ℕ) → rule k 1 ≡ k

pub nearest_rule : Rule nearest_whole
nearest_rule = record {
  grows = λ a d b c D C h. div_mono (2 * a + d) (2 * d) (2 * b + c) (2 * c) (omega arith)
      (omega arith) (omega arith);
  whole = λ k. omega arith;
}

pub floor_rule : Rule ◌/◌
floor_rule = record { grows = div_mono; whole = div-one }

module _ (rule : ℕ → ℕ → ℕ) (most : ℕ) where
  pub whole_small : (x : Float) → whole_by rule most x ≤ most
  unfolding whole_by
  whole_small nan = zero-le
  whole_small (inf true) = zero-le
  whole_small (inf false) = le_refl most
  whole_small (fin true m e) = zero-le
  whole_small (fin false m e) = omega arith

  module _ (R : Rule rule) where
    same : (a d b c : ℕ) → 0 < d → 0 < c → a * c ≡ b * d → rule a d ≡ rule b c
    same a d b c D C e =
        le_antisymm (R.grows a d b c D C (le_of_eq e)) (R.grows b c a d C D (le_of_eq (sym e)))

    rule_zero : (d : ℕ) → 0 < d → rule 0 d ≡ 0
    rule_zero d D = same 0 d 0 1 D (lit< tt) (omega arith) ∙ R.whole 0

    -- the float's whole number is that of any fraction it equals, a negative one cut off at 0
    pub whole_value : (x : Float) (p n d : ℕ) → 0 < d → Is x p n d
        → whole_by rule most x ≡ min (rule (p - n) d) most
    unfolding whole_by
    whole_value nan p n d D i = absurd i.0
    whole_value (inf s) p n d D i = absurd i.0
    whole_value (fin false m e) p n d D i =
        let cross : m * up e * d ≡ (p - n) * down e =
        (excess (m * up e) d p n (down e) (down_pos e) (omega (arith, i.1))).1 in
        ap (λ (k : ℕ). min k most) (same (m * up e) (down e) (p - n) d (down_pos e) D cross)
    whole_value (fin true m e) p n d D i =
        let l : p ≤ n = (excess (m * up e) d n p (down e) (down_pos e) (omega (arith, i.1))).0 in
        let z : p - n ≡ 0 = omega arith in
        rw (z, rule_zero d D) (omega arith)

    -- from 0 to most nothing is cut off
    pub whole_uncut : (x : Float) (s d : ℕ) → 0 < d → s ≤ most * d → Is x s 0 d
        → whole_by rule most x ≡ rule s d
    whole_uncut x s d D h i =
        let l = R.grows s d most 1 D (lit< tt) (omega arith) in
        whole_value x s 0 d D i ∙ rw (sub-zero s) (omega (arith, l, R.whole most))

    pub whole_le : (x y : Float) → T (le x y) → whole_by rule most x ≤ whole_by rule most y
    unfolding whole_by le
    whole_le nan y h = absurd h
    whole_le (inf s) nan h = absurd h
    whole_le (inf true) (inf t) h = zero-le
    whole_le (inf false) (inf true) h = absurd h
    whole_le (inf false) (inf false) h = le_refl most
    whole_le (inf true) (fin t n d) h = zero-le
    whole_le (inf false) (fin t n d) h = absurd h
    whole_le (fin s m e) nan h = absurd h
    whole_le (fin s m e) (inf true) h = absurd h
    whole_le (fin s m e) (inf false) h = whole_small (fin s m e)
    whole_le (fin true m e) (fin t n d) h = zero-le
    whole_le (fin false m e) (fin true n d) h =
        let l = of_le (fin false m e) (fin true n d) tt tt h in
        let g = R.grows (m * up e) (down e) 0 (down d) (down_pos e) (down_pos d)
        (omega (arith, l)) in
        omega (arith, g, rule_zero (down d) (down_pos d))
    whole_le (fin false m e) (fin false n d) h =
        let l = of_le (fin false m e) (fin false n d) tt tt h in
        let g = R.grows (m * up e) (down e) (n * up d) (down d) (down_pos e) (down_pos d)
        (omega (arith, l)) in
        omega (arith, g)

    pub whole_float : (k : ℕ) → k ≤ most → k ≤ 2 ^ 24 → whole_by rule most (float k) ≡ k
    whole_float k h l =
        whole_value (float k) k 0 1 (lit< tt) (float_is k l) ∙ rw (R.whole (k - 0)) (omega arith)

    -- at and past the ends
    pub whole_low : (x : Float) → T (le x 𝟎) → whole_by rule most x ≡ 0
    whole_low x h =
        let z : whole_by rule most 𝟎 ≡ 0 = rw 𝟎-float (whole_float 0 zero-le zero-le) in
        omega (arith, whole_le x 𝟎 h)

    pub whole_high : most ≤ 2 ^ 24 → (x : Float) → T (le (float most) x)
        → whole_by rule most x ≡ most
    whole_high l x h =
        omega (arith, whole_small x, whole_float most (le_refl most) l, whole_le (float most) x h)

-- ---- to a byte
pub byte_small : (x : Float) → byte_of x ≤ 255
unfolding byte_of
byte_small = whole_small nearest_whole 255

-- from 0 to 255 nothing is cut off
pub byte_nearest : (x : Float) (s d : ℕ) → 0 < d → s ≤ 255 * d → Is x s 0 d
    → byte_of x ≡ nearest_whole s d
unfolding byte_of
byte_nearest = whole_uncut nearest_whole 255 nearest_rule

-- the byte R of s / d is within a half of it, 2 * |R * d - s| ≤ d, and a half goes up
pub byte_near : (x : Float) (s d : ℕ) → 0 < d → s ≤ 255 * d → Is x s 0 d
    → (byte_of x * (2 * d) ≤ 2 * s + d) × (2 * s + d < byte_of x * (2 * d) + 2 * d)
byte_near x s d D h i =
    rw (byte_nearest x s d D h i)
    (div-mul-le_self (2 * s + d) (2 * d), lt-div-mul-add (omega arith))

-- of a height in 256ths
pub byte_256ths : (x : Float) (p : ℕ) → p ≤ 65280 → Is x p 0 256 → byte_of x ≡ (p + 128) / 256
byte_256ths x p h i = byte_nearest x p 256 (lit< tt) (omega arith) i ∙ omega arith

pub byte_float : (n : ℕ) → n ≤ 255 → byte_of (float n) ≡ n
unfolding byte_of
byte_float n h = whole_float nearest_whole 255 nearest_rule n h (omega arith)

-- The order is kept, infinities included. A comparison that holds has no NaN.
pub byte_le : (x y : Float) → T (le x y) → byte_of x ≤ byte_of y
unfolding byte_of
byte_le = whole_le nearest_whole 255 nearest_rule

pub byte_low : (x : Float) → T (le x 𝟎) → byte_of x ≡ 0
unfolding byte_of
byte_low = whole_low nearest_whole 255 nearest_rule

pub byte_high : (x : Float) → T (le 𝟐𝟓𝟓 x) → byte_of x ≡ 255
unfolding byte_of
byte_high x h = whole_high nearest_whole 255 nearest_rule (lit≤ tt) x (rw (← 𝟐𝟓𝟓-float) h)

-- clamping changes no byte
pub byte_clamped : (x : Float) → byte_of (clamped x) ≡ byte_of x
unfolding le of_bits
byte_clamped x =
    clamped_cases (λ (z : Float). byte_of z ≡ byte_of x) x
    (λ e. byte_low 𝟎 tt ∙ sym (byte_low x (le_of_lt x 𝟎 e)))
    (λ e. byte_high 𝟐𝟓𝟓 tt ∙ sym (byte_high x (le_of_lt 𝟐𝟓𝟓 x e)))
    (λ e g. refl)

-- ---- the whole part
pub floor_small : (x : Float) → floor_of x ≤ 4094
unfolding floor_of
floor_small = whole_small ◌/◌ 4094

-- from 0 to 4,094 nothing is cut off
pub floor_quotient : (x : Float) (s d : ℕ) → 0 < d → s ≤ 4094 * d → Is x s 0 d → floor_of x ≡ s / d
unfolding floor_of
floor_quotient = whole_uncut ◌/◌ 4094 floor_rule
