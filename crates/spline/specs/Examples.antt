-- Few knots: the cases where document 01 says what comes out; and slopes as floats.
use Rattle.std.specs.Prelude.{◌≡◌, refl, List, [], ◌∷◌, map, ℕ, ℤ, pos, negsuc, Float}
use Rattle.std.specs.Float.{binary32}
use Rattle.std.specs.Float.Ieee.{div, of_int, of_bits, to_bits}
use Rattle.single.specs.Constants.{𝟎}
use Rattle.spline.specs.declared.SplineBoundary.TheVariants.{Natural, NotAKnot}
use Rattle.spline.specs.Segments.{segment_at, slope_of}
use Rattle.spline.specs.Second.{parabola, framed, natural_at, not_a_knot_at, second_at}

-- ---- not-a-knot: two knots, three knots
pub two_knots : (xs ys : List Float) (i : ℕ) → second_at xs ys 2 NotAKnot i ≡ 𝟎
unfolding not_a_knot_at second_at
two_knots xs ys i = refl

pub three_knots : (xs ys : List Float) (i : ℕ)
    → second_at xs ys 3 NotAKnot i ≡ parabola (segment_at xs ys 0) (segment_at xs ys 1)
unfolding not_a_knot_at second_at
three_knots xs ys i = refl

-- ---- natural: the first knot
pub natural_start : (xs ys : List Float) (n : ℕ) → second_at xs ys n Natural 0 ≡ 𝟎
unfolding framed natural_at second_at
natural_start xs ys n = refl

-- ---- slopes, the lowest and the highest among them, in bits: those of a processor's quotients by
-- 256, which the test `products` of bindings/rust asks for. In ℤ the number −(n + 1) is negsuc n
abbrev slope_bits : ℤ → ℕ
slope_bits q = to_bits binary32 (slope_of q)

pub slopes : map slope_bits (
    negsuc 32767 ∷ negsuc 32766 ∷ negsuc 0 ∷ pos 0 ∷ pos 1 ∷ pos 255 ∷ pos 256 ∷ pos 257
    ∷ pos 32767 ∷ [])
    ≡ 0xc300_0000 ∷ 0xc2ff_fe00 ∷ 0xbb80_0000 ∷ 0 ∷ 0x3b80_0000 ∷ 0x3f7f_0000 ∷ 0x3f80_0000
    ∷ 0x3f80_8000 ∷ 0x42ff_fe00 ∷ []
unfolding slope_of div of_int of_bits to_bits
slopes = refl
