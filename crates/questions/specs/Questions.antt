-- What a question means, how bytes are printed, and the step of a digest.
use Rattle.std.specs.Prelude.{ℕ, ◌+◌, ◌-◌, ◌*◌, ◌/◌, ◌%◌, ◌^◌, ◌&&◌, nat_le, if◌then◌else◌}
use Rattle.std.specs.Prelude.{false, List, [], ◌∷◌, map, length, take, slice_index}
use Rattle.std.specs.Prelude.{bit_and, bit_xor}
use Rattle.std.specs.Prelude.{Option, Some, None}
use Rattle.std.specs.Fmt.{digit_glyph}
use Rattle.std.specs.List.{flat_map, range_with_len}

-- what a hexadecimal digit in lower case means: `0` to `9` are 48 to 57, and `a` to `f` 97 to 102;
-- any other byte means 0
abbrev pub digit_value : ℕ → ℕ
digit_value c =
    if nat_le 48 c && nat_le c 57 then c - 48
    else if nat_le 97 c && nat_le c 102 then c - 87
    else 0

-- byte i of a line of digits
abbrev pub byte_of : List ℕ → ℕ → ℕ
byte_of line i =
    16 * digit_value (slice_index line (2 * i)) + digit_value (slice_index line (2 * i + 1))

-- the n bytes of a line from a place on
abbrev pub bytes_of : List ℕ → ℕ → ℕ → List ℕ
bytes_of line from n = map (byte_of line) (range_with_len from n)

-- the first n of some bytes, if there are so many
abbrev pub whole : ℕ → List ℕ → Option (List ℕ)
whole n s = if nat_le n (length s) then Some (take n s) else None

-- a byte in two hexadecimal digits in lower case, the high one first
abbrev pub two_digits : ℕ → List ℕ
two_digits byte = digit_glyph false (byte / 16) ∷ digit_glyph false (byte % 16) ∷ []

-- bytes in two digits each
abbrev pub in_digits : List ℕ → List ℕ
in_digits bytes = flat_map two_digits bytes

-- a digest after one byte more
abbrev pub joined : ℕ → ℕ → ℕ → ℕ → ℕ
joined prime mask state byte = bit_and ((bit_xor state byte * prime) % 2 ^ 64) mask
