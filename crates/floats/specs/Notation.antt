-- The signs of the numerical literature for the operations of IEEE 754 at single precision: each
-- rounds once, to the nearest, a tie to even.
-- They bind as + - * / do, to the left. Definitions only.
use Rattle.std.specs.Prelude.{Float}
use Rattle.std.specs.Float.{binary32}
use Rattle.std.specs.Float.Ieee.{add, sub, mul, div}

infixl 65 ◌⊕◌ ◌⊖◌
infixl 70 ◌⊗◌ ◌⊘◌
abbrev pub ◌⊕◌ : Float → Float → Float
◌⊕◌ = add binary32

abbrev pub ◌⊖◌ : Float → Float → Float
◌⊖◌ = sub binary32

abbrev pub ◌⊗◌ : Float → Float → Float
◌⊗◌ = mul binary32

abbrev pub ◌⊘◌ : Float → Float → Float
◌⊘◌ = div binary32
