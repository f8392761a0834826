-- The quotients by 2 and by 256 as products, of every float.
use Rattle.std.specs.Prelude.{◌≡◌, refl, Float}
use Rattle.std.specs.Float.{binary32}
use Rattle.std.specs.Float.Ieee.{of_bits}
use Rattle.floats.specs.Notation.{◌⊗◌, ◌⊘◌}
use Rattle.floats.specs.Reciprocal.{product_is_quotient}
use Rattle.single.specs.Constants.{𝟏/𝟐𝟓𝟔, ½, 𝟐, 𝟐𝟓𝟔}

pub times_half : (x : Float) → x ⊗ ½ ≡ x ⊘ 𝟐
unfolding of_bits
times_half = product_is_quotient binary32 𝟐 ½ (refl, refl)

pub times_256th : (x : Float) → x ⊗ 𝟏/𝟐𝟓𝟔 ≡ x ⊘ 𝟐𝟓𝟔
unfolding of_bits
times_256th = product_is_quotient binary32 𝟐𝟓𝟔 𝟏/𝟐𝟓𝟔 (refl, refl)
