-- The checks of a stored record in document 01's order, "When a call says no", as a flat
-- list: the places of the fields are reckoned from their counts, so that the order can be
-- read without the parser of `Format`, whose answer is the first refusal of the list
-- (proofs/AnswerLaws). Definitions only.
use Rattle.std.specs.Prelude.{ℕ, ◌*◌, Bool, true, false, cond, not, ◌&&◌, List, [], ◌∷◌, ◌++◌, ltb, length, get_or, drop}
use Rattle.answers.specs.declared.Refusal.TheVariants.{RecordTruncated, TrailingBytes}
use Rattle.answers.specs.Checks.{Check, ◌when◌}
use Rattle.tables.specs.declared.CurveInterpolation.{CurveInterpolation}
use Rattle.tables.specs.Kinds.{kind_number, carries_tension, carries_slopes}
use Rattle.records.specs.declared.point_lists.Edition.TheVariants.{One}
use Rattle.records.specs.Map.{bit}
use Rattle.records.specs.PointLists.{point_bytes, point_checks}
use Rattle.records.specs.Kinds.{unnamed_kind, kind_check, bits_check}

abbrev pub is_empty : List ℕ → Bool
is_empty [] = true
is_empty (b ∷ s) = false

-- a list of at least so many points at the front of s: "a missing count, 3, missing points, 4"
abbrev pub stored_list_checks : ℕ → List ℕ → List Check
stored_list_checks least s =
    RecordTruncated when is_empty s ∷ point_checks least (get_or s 0 0) (drop 1 s)

-- "only the fields whose bit stands"; and what follows the field
abbrev pub field_checks : Bool → ℕ → List ℕ → List Check
field_checks present least s = cond present (stored_list_checks least s) []

abbrev pub after_field : Bool → List ℕ → List ℕ
after_field present s = cond present (drop (get_or s 0 0 * point_bytes One) (drop 1 s)) s

-- the kind's number, where its bit is set its byte, else that of the unnamed kind; and what follows
-- that byte
abbrev pub kind_is : CurveInterpolation → Bool → List ℕ → ℕ
kind_is unnamed present s = cond present (get_or s 0 0) (kind_number unnamed)

abbrev pub after_byte : Bool → List ℕ → List ℕ
after_byte present s = cond present (drop 1 s) s

-- a tension is one byte, two slopes are four
abbrev pub carried_length : ℕ → ℕ
carried_length k = cond (carries_tension k) 1 (cond (carries_slopes k) 4 0)

-- "a missing kind byte, 5; then 6, and only then 2 for tension or slopes"
abbrev pub kind_checks : CurveInterpolation → Bool → ℕ → List ℕ → List Check
kind_checks unnamed present m s =
    let k = kind_is unnamed present s in
    RecordTruncated when (present && is_empty s)
    ∷ kind_check k
    ∷ bits_check m k
    ∷ RecordTruncated when ltb (length (after_byte present s)) (carried_length k)
    ∷ []

abbrev pub after_kind : CurveInterpolation → Bool → List ℕ → List ℕ
after_kind unnamed present s = drop (carried_length (kind_is unnamed present s)) (after_byte present s)

-- "Inside a record 2 to 5 run field by field": master, red, green, blue and kind, after the map m,
-- each present where its bit is set; `bit 4 m` is the bit of weight 4;
-- then 7
abbrev pub map_checks : ℕ → List ℕ → List Check
map_checks m master =
    let red = after_field (bit 1 m) master in
    let green = after_field (bit 2 m) red in
    let blue = after_field (bit 4 m) green in
    let kind = after_field (bit 8 m) blue in
    let unnamed = unnamed_kind (bit 128 m) in
    field_checks (bit 1 m) 1 master ++ field_checks (bit 2 m) 0 red ++ field_checks (bit 4 m) 0 green
    ++ field_checks (bit 8 m) 0 blue
    ++ kind_checks unnamed (bit 16 m) m kind
    ++ TrailingBytes when not (is_empty (after_kind unnamed (bit 16 m) kind)) ∷ []

-- `read_record`: a record without its map has nothing else to check
abbrev pub record_checks : List ℕ → List Check
record_checks [] = RecordTruncated when true ∷ []
record_checks (m ∷ s) = map_checks m s
