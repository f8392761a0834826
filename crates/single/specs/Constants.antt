-- The constants of the engine, each under one name, and that each is the number meant: `NAME-is`
-- gives the value, whole or in fractions of a power of two.
use Rattle.std.specs.Prelude.{◌≡◌, refl, false, ◌^◌, Float}
use Rattle.std.specs.Float.{binary32}
use Rattle.std.specs.Float.Ieee.{of_bits, round}
use Rattle.floats.specs.Value.{Is}

abbrev pub 𝟎 : Float
𝟎 = of_bits binary32 0

abbrev pub 𝟏/𝟐𝟓𝟔 : Float
𝟏/𝟐𝟓𝟔 = of_bits binary32 0x3b80_0000

abbrev pub ½ : Float
½ = of_bits binary32 0x3f00_0000

abbrev pub 𝟏 : Float
𝟏 = of_bits binary32 0x3f80_0000

abbrev pub 𝟐 : Float
𝟐 = of_bits binary32 0x4000_0000

abbrev pub 𝟑 : Float
𝟑 = of_bits binary32 0x4040_0000

abbrev pub 𝟔 : Float
𝟔 = of_bits binary32 0x40c0_0000

abbrev pub 𝟗 : Float
𝟗 = of_bits binary32 0x4110_0000

abbrev pub 𝟐𝟓𝟓 : Float
𝟐𝟓𝟓 = of_bits binary32 0x437f_0000

abbrev pub 𝟐𝟓𝟔 : Float
𝟐𝟓𝟔 = of_bits binary32 0x4380_0000

abbrev pub 𝟒𝟎𝟗𝟒 : Float
𝟒𝟎𝟗𝟒 = of_bits binary32 0x457f_e000

abbrev pub 𝟒𝟎𝟗𝟓 : Float
𝟒𝟎𝟗𝟓 = of_bits binary32 0x457f_f000

-- 2 ^ 23: from here on single precision has whole numbers only
abbrev pub 𝟐²³ : Float
𝟐²³ = of_bits binary32 0x4b00_0000

-- 1e-6, 1e-9 and 1e-12
abbrev pub micro : Float
micro = of_bits binary32 0x3586_37bd

abbrev pub nano : Float
nano = of_bits binary32 0x3089_705f

abbrev pub pico : Float
pico = of_bits binary32 0x2b8c_bccc

-- ---- they are the numbers meant
pub 𝟎-is : Is 𝟎 0 0 1
unfolding of_bits
𝟎-is = (tt, refl)

pub 𝟏/𝟐𝟓𝟔-is : Is 𝟏/𝟐𝟓𝟔 1 0 256
unfolding of_bits
𝟏/𝟐𝟓𝟔-is = (tt, refl)

pub ½-is : Is ½ 1 0 2
unfolding of_bits
½-is = (tt, refl)

pub 𝟏-is : Is 𝟏 1 0 1
unfolding of_bits
𝟏-is = (tt, refl)

pub 𝟐-is : Is 𝟐 2 0 1
unfolding of_bits
𝟐-is = (tt, refl)

pub 𝟑-is : Is 𝟑 3 0 1
unfolding of_bits
𝟑-is = (tt, refl)

pub 𝟔-is : Is 𝟔 6 0 1
unfolding of_bits
𝟔-is = (tt, refl)

pub 𝟗-is : Is 𝟗 9 0 1
unfolding of_bits
𝟗-is = (tt, refl)

pub 𝟐𝟓𝟓-is : Is 𝟐𝟓𝟓 255 0 1
unfolding of_bits
𝟐𝟓𝟓-is = (tt, refl)

pub 𝟐𝟓𝟔-is : Is 𝟐𝟓𝟔 256 0 1
unfolding of_bits
𝟐𝟓𝟔-is = (tt, refl)

pub 𝟒𝟎𝟗𝟒-is : Is 𝟒𝟎𝟗𝟒 4094 0 1
unfolding of_bits
𝟒𝟎𝟗𝟒-is = (tt, refl)

pub 𝟒𝟎𝟗𝟓-is : Is 𝟒𝟎𝟗𝟓 4095 0 1
unfolding of_bits
𝟒𝟎𝟗𝟓-is = (tt, refl)

pub 𝟐²³-is : Is 𝟐²³ (2 ^ 23) 0 1
unfolding of_bits
𝟐²³-is = (tt, refl)

pub micro_is : Is micro 8796093 0 (2 ^ 43)
unfolding of_bits
micro_is = (tt, refl)

pub nano_is : Is nano 9007199 0 (2 ^ 53)
unfolding of_bits
nano_is = (tt, refl)

pub pico_is : Is pico 9223372 0 (2 ^ 63)
unfolding of_bits
pico_is = (tt, refl)

-- the three that are no exact decimals are the floats nearest to them
pub micro_nearest : micro ≡ round binary32 false 1 (10 ^ 6)
unfolding of_bits round
micro_nearest = refl

pub nano_nearest : nano ≡ round binary32 false 1 (10 ^ 9)
unfolding of_bits round
nano_nearest = refl

pub pico_nearest : pico ≡ round binary32 false 1 (10 ^ 12)
unfolding of_bits round
pico_nearest = refl
