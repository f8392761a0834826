-- The bit map, a record's first byte. Definitions only.
use Rattle.std.specs.Prelude.{ℕ, ◌/◌, ◌%◌, Bool, eqb}
use Rattle.sets.specs.declared.Colour.{Colour}
use Rattle.sets.specs.declared.Colour.TheVariants.{Red, Green, Blue}

-- the bit of this weight is set in the map
abbrev pub bit : ℕ → ℕ → Bool
bit w m = eqb (m / w % 2) 1

-- bits 1 to 3: "red, green, blue"
abbrev pub colour_bit : Colour → ℕ
colour_bit Red = 2
colour_bit Green = 4
colour_bit Blue = 8

-- bits 5 and 6 as a number
abbrev pub carried_bits : ℕ → ℕ
carried_bits m = m / 32 % 4
