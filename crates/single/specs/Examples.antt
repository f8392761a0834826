-- The small rules on single floats where a slip would show, computed: halves, the float just below
-- one, both zeros, and NaN; roots of the smallest and the largest float; products with ½ and
-- 1 / 256, of numbers so small that the result is rounded among others.
use Rattle.std.specs.Prelude.{◌≡◌, refl, List, [], ◌∷◌, map, ℕ, Float}
use Rattle.std.specs.Float.{nan, binary32}
use Rattle.std.specs.Float.Ieee.{lt, add, mul, of_bits, to_bits}
use Rattle.floats.specs.Notation.{◌⊕◌, ◌⊗◌}
use Rattle.floats.specs.Value.{Is, absolute}
use Rattle.single.specs.Constants.{𝟎, 𝟏/𝟐𝟓𝟔, ½, 𝟏, 𝟐}
use Rattle.single.specs.Rules.{clamped, byte_of}
use Rattle.single.specs.Root.{root_of}

abbrev pub −𝟎 : Float
−𝟎 = of_bits binary32 0x8000_0000

-- ---- to a byte
-- the largest float below a half
abbrev pub below_half : Float
below_half = of_bits binary32 0x3eff_ffff

pub below_half_byte : byte_of below_half ≡ 0
unfolding byte_of of_bits
below_half_byte = refl

-- "Adding 0.5 and cutting turns the float just below 0.5 into 1": the sum is rounded, up to 1.
pub below_half_added : below_half ⊕ ½ ≡ 𝟏
unfolding add of_bits
below_half_added = refl

pub half_byte : byte_of ½ ≡ 1
unfolding byte_of of_bits
half_byte = refl

abbrev pub last_half : Float
last_half = of_bits binary32 0x437e_8000

pub last_half_is : Is last_half 509 0 2
unfolding of_bits
last_half_is = (tt, refl)

pub last_half_byte : byte_of last_half ≡ 255
unfolding byte_of of_bits
last_half_byte = refl

pub minus_zero_byte : byte_of −𝟎 ≡ 0
unfolding byte_of of_bits
minus_zero_byte = refl

pub nan_byte : byte_of nan ≡ 0
unfolding byte_of
nan_byte = refl

-- ---- clamp and absolute value
pub clamped_nan : clamped nan ≡ nan
unfolding clamped lt of_bits
clamped_nan = refl

pub clamped_minus_zero : clamped −𝟎 ≡ −𝟎
unfolding clamped lt of_bits
clamped_minus_zero = refl

pub absolute_minus_zero : absolute −𝟎 ≡ 𝟎
unfolding absolute of_bits
absolute_minus_zero = refl

-- ---- the square root
pub root_of_four : root_of (of_bits binary32 0x4080_0000) ≡ 𝟐
unfolding root_of of_bits
root_of_four = refl

-- the smallest positive float, a unit, and the largest
pub root_of_unit : to_bits binary32 (root_of (of_bits binary32 1)) ≡ 0x1a35_04f3
unfolding root_of of_bits to_bits
root_of_unit = refl

pub root_of_largest : to_bits binary32 (root_of (of_bits binary32 0x7f7f_ffff)) ≡ 0x5f7f_ffff
unfolding root_of of_bits to_bits
root_of_largest = refl

-- ---- x / 2 and x / 256 as products, in bits. They are the bits of a processor's quotients: the
-- test `products` of bindings/rust has the same pairs, and asks the processor for each
abbrev times_bits : Float → List ℕ → List ℕ
times_bits h l = map (λ (x : ℕ). to_bits binary32 (of_bits binary32 x ⊗ h)) l

pub halves : times_bits ½ (
    1 ∷ 3 ∷ 0x007f_ffff ∷ 0x0080_0001 ∷ 0x8000_0000 ∷ 0x8000_0003 ∷ 0x3f80_0001 ∷ 0x7f7f_ffff
    ∷ 0x7f80_0000 ∷ 0xff80_0000 ∷ [])
    ≡ 0 ∷ 2 ∷ 0x0040_0000 ∷ 0x0040_0000 ∷ 0x8000_0000 ∷ 0x8000_0002 ∷ 0x3f00_0001 ∷ 0x7eff_ffff
    ∷ 0x7f80_0000 ∷ 0xff80_0000 ∷ []
unfolding mul of_bits to_bits
halves = refl

pub 256ths : times_bits 𝟏/𝟐𝟓𝟔 (
    0x80 ∷ 0x81 ∷ 0x180 ∷ 0x03ff_ffff ∷ 0x0400_0001 ∷ 0x8000_0000 ∷ 0x8000_0180 ∷ 0x3f80_0001
    ∷ 0x7f7f_ffff ∷ 0x7f80_0000 ∷ 0xff80_0000 ∷ [])
    ≡ 0 ∷ 1 ∷ 2 ∷ 0x0040_0000 ∷ 0x0040_0000 ∷ 0x8000_0000 ∷ 0x8000_0002 ∷ 0x3b80_0001
    ∷ 0x7b7f_ffff ∷ 0x7f80_0000 ∷ 0xff80_0000 ∷ []
unfolding mul of_bits to_bits
256ths = refl
