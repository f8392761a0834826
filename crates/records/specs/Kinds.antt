-- The kind of the record: its byte, and the tension or the slopes that it carries.
-- Definitions only.
use Rattle.std.specs.Prelude.{ℕ, ◌+◌, ◌-◌, ◌*◌, List, [], ◌∷◌, Bool, true, false, cond, not, length, get_or, drop, ltb, eqb, ℤ, pos, negsuc}
use Rattle.answers.specs.declared.Refusal.TheVariants.{RecordTruncated, UnknownKind, FieldMismatch}
use Rattle.answers.specs.Checks.{Check, ◌when◌}
use Rattle.tables.specs.declared.CurveInterpolation.{CurveInterpolation}
use Rattle.tables.specs.declared.CurveInterpolation.TheVariants.{MonotoneCubic, MonotoneCubicBox}
use Rattle.tables.specs.Kinds.{kind_number, last_kind, kind_of}
use Rattle.tables.specs.Kinds.{carries_tension, carries_slopes, kind_bits}
use Rattle.records.specs.Parse.{Parse, good, refused, ◌▷◌, checked}
use Rattle.records.specs.Map.{bit, carried_bits}

-- "two's complement", of 16 bits
abbrev pub signed16 : ℕ → ℤ
signed16 n = cond (ltb n 32768) (pos n) (negsuc (65535 - n))

-- "low byte first"
abbrev pub stored_slope : ℕ → ℕ → ℤ
stored_slope low high = signed16 (low + high * 256)

-- The kind of a record that names none, by its bit 7: records without it "relied on kind 2"; bit 7
-- says "new default": "with it, a missing kind means 3". Stored records keep what they mean: this
-- is not the default of new sets, which may change again.
abbrev pub unnamed_kind : Bool → CurveInterpolation
unnamed_kind false = MonotoneCubic
unnamed_kind true = MonotoneCubicBox

-- 5: "The kind byte is above 9"
abbrev pub kind_check : ℕ → Check
kind_check k = UnknownKind when ltb last_kind k

-- "a missing kind byte, 5"; where the record names no kind, it is the unnamed one
unfoldable pub read_number : CurveInterpolation → Bool → List ℕ → Parse ℕ
read_number unnamed false s = good (kind_number unnamed) s
read_number unnamed true [] = refused RecordTruncated
read_number unnamed true (k ∷ s) = checked (kind_check k ∷ []) (good k s)

-- a kind of number k that carries a tension, and one that carries slopes
unfoldable pub read_tension : ℕ → List ℕ → Parse CurveInterpolation
read_tension k [] = refused RecordTruncated
read_tension k (q ∷ s) = good (kind_of k q (pos 0) (pos 0)) s

unfoldable pub read_slopes : ℕ → List ℕ → Parse CurveInterpolation
read_slopes k s =
    let start = stored_slope (get_or s 0 0) (get_or s 1 0) in
    let end = stored_slope (get_or s 2 0) (get_or s 3 0) in
    checked (RecordTruncated when ltb (length s) 4 ∷ []) (good (kind_of k 0 start end) (drop 4 s))

-- the kind of number k with what it carries: "only then 2 for tension or slopes"
unfoldable pub read_carried : ℕ → List ℕ → Parse CurveInterpolation
read_carried k s =
    cond (carries_tension k) (read_tension k s)
    (cond (carries_slopes k) (read_slopes k s) (good (kind_of k 0 (pos 0) (pos 0)) s))

-- 6: "Bit 5 or bit 6 disagrees with the kind, tested before either's bytes"
abbrev pub bits_check : ℕ → ℕ → Check
bits_check m k = FieldMismatch when not (eqb (carried_bits m) (kind_bits k))

abbrev pub read_agreed : ℕ → ℕ → List ℕ → Parse CurveInterpolation
read_agreed m k s = checked (bits_check m k ∷ []) (read_carried k s)

unfoldable pub read_kind : CurveInterpolation → ℕ → List ℕ → Parse CurveInterpolation
read_kind unnamed m s = read_number unnamed (bit 16 m) s ▷ read_agreed m
