-- A list of the record: "a count byte, then x, y pairs". Definitions only.
use Rattle.std.specs.Prelude.{ℕ, zero, suc, ◌+◌, ◌*◌, List, [], ◌∷◌, ◌++◌, Bool, cond, length, get_or, drop, ltb}
use Rattle.answers.specs.declared.Refusal.TheVariants.{RecordTruncated, PointCount}
use Rattle.answers.specs.Checks.{Check, ◌when◌}
use Rattle.points.specs.declared.Point.{Point}
use Rattle.points.specs.Points.{pt, at_level, count_check}
use Rattle.sets.specs.Sets.{rising_check}
use Rattle.records.specs.declared.point_lists.Edition.{Edition}
use Rattle.records.specs.declared.point_lists.Edition.TheVariants.{One, Two}
use Rattle.records.specs.Parse.{Parse, good, refused, checked}

-- a point is its x, and its y in one byte or in two
abbrev pub point_bytes : Edition → ℕ
point_bytes One = 2
point_bytes Two = 3

-- "Today's stored record holds whole heights only": its y is a level. In edition 2 "each y takes
-- two bytes, low byte first", and so it does where a caller gives points as bytes.
abbrev pub point_of : Edition → List ℕ → Point
point_of One s = at_level (get_or s 0 0) (get_or s 1 0)
point_of Two s = pt (get_or s 0 0) (get_or s 1 0 + get_or s 2 0 * 256)

-- the first n points of s
unfoldable pub pairs : Edition → ℕ → List ℕ → List Point
pairs edition zero s = []
pairs edition (suc n) s = point_of edition s ∷ pairs edition n (drop (point_bytes edition) s)

-- 3: "A count of points is above 64, or a record's master count is 0", n being the count of a list
-- of at least so many points
abbrev pub count_checks : ℕ → ℕ → List Check
count_checks least n = count_check n ∷ PointCount when ltb n least ∷ []

-- the x, y pairs of n points at the front of s: "missing points, 4"
abbrev pub pair_checks : ℕ → List ℕ → List Check
pair_checks n s =
    RecordTruncated when ltb (length s) (n * point_bytes One) ∷ rising_check (pairs One n s) ∷ []

-- a list with the count n, s being what follows it: "3, missing points, 4"
abbrev pub point_checks : ℕ → ℕ → List ℕ → List Check
point_checks least n s = count_checks least n ++ pair_checks n s

unfoldable pub read_points : ℕ → ℕ → List ℕ → Parse (List Point)
read_points least n s =
    checked (point_checks least n s) (good (pairs One n s) (drop (n * point_bytes One) s))

-- "a missing count" comes first
unfoldable pub read_list : ℕ → List ℕ → Parse (List Point)
read_list least [] = refused RecordTruncated
read_list least (n ∷ s) = read_points least n s

-- "only the fields whose bit stands": without it the list is empty
abbrev pub read_field : Bool → ℕ → List ℕ → Parse (List Point)
read_field present least s = cond present (read_list least s) (good [] s)
