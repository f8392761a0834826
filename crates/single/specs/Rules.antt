-- What document 01's section "Arithmetic" says of one float: clamp, to a byte, and the small rules
-- that the curves share. Definitions only.
use Rattle.std.specs.Prelude.{ℕ, ◌+◌, ◌*◌, ◌/◌, min, Bool, cond, pos, Float}
use Rattle.std.specs.Float.{nan, inf, fin, binary32}
use Rattle.std.specs.Float.Ieee.{up, down, lt, of_int}
use Rattle.floats.specs.Notation.{◌⊘◌}
use Rattle.floats.specs.Value.{absolute}
use Rattle.single.specs.Constants.{𝟎, 𝟐𝟓𝟓, nano}

-- the whole number n as a float
abbrev pub float : ℕ → Float
float n = of_int binary32 (pos n)

-- "Clamp to 0..255": below gives 0, above gives 255, else the value, NaN and −0 too
unfoldable pub clamped : Float → Float
clamped x = cond (lt x 𝟎) 𝟎 (cond (lt 𝟐𝟓𝟓 x) 𝟐𝟓𝟓 x)

-- x kept to 0..top; NaN and −0 give 0: where the ways to a byte and to a whole part begin
unfoldable pub held : Float → Float → Float
held top x = cond (lt 𝟎 x) (cond (lt x top) x top) 𝟎

-- a float's whole number by a rule for fractions, kept to 0..most; NaN gives 0.
-- The float fin s m e is m * up e / down e, negative where s is true.
unfoldable pub whole_by : (ℕ → ℕ → ℕ) → ℕ → Float → ℕ
whole_by rule most nan = 0
whole_by rule most (inf s) = cond s 0 most
whole_by rule most (fin s m e) = cond s 0 (min (rule (m * up e) (down e)) most)

-- the whole number nearest to a / d, a half upward
abbrev pub nearest_whole : ℕ → ℕ → ℕ
nearest_whole a d = (2 * a + d) / (2 * d)

-- "To a byte": the nearest whole number, a half away from zero, kept to 0..255; NaN gives 0
unfoldable pub byte_of : Float → ℕ
unfolding whole_by
byte_of x = whole_by nearest_whole 255 x

-- the whole part, kept to 0..4,094: the first of the two entries that the fine
-- lookup reads; NaN gives 0
unfoldable pub floor_of : Float → ℕ
unfolding whole_by
floor_of x = whole_by ◌/◌ 4094 x

-- a over b, and 0 where b is smaller in size than limit
unfoldable pub guarded_quotient : Float → Float → Float → Float
guarded_quotient a b limit = cond (lt (absolute b) limit) 𝟎 (a ⊘ b)

-- "below 1e-9 in size"
abbrev pub tiny : Float → Bool
tiny d = lt (absolute d) nano
