-- The stored record, edition 1: what a reader makes of a list of bytes, as document 01's sections
-- "Stored record" and "When a call says no" have it. Here are the fields in their order;
-- `PointLists` has a list, `Kinds` the kind, `Map` the bits of the first byte.
-- Definitions only.
use Rattle.std.specs.Prelude.{ℕ, ◌+◌, ◌*◌, List, [], ◌∷◌, Bool, cond, Err}
use Rattle.std.proofs.Math.Option.{Option, none, some}
use Rattle.answers.specs.declared.Refusal.TheVariants.{RecordTruncated, TrailingBytes}
use Rattle.points.specs.declared.Point.{Point}
use Rattle.points.specs.Points.{limit}
use Rattle.tables.specs.declared.CurveInterpolation.{CurveInterpolation}
use Rattle.sets.specs.declared.Colour.{Colour}
use Rattle.sets.specs.declared.Colour.TheVariants.{Red, Green, Blue}
use Rattle.sets.specs.Sets.{View, empty_view, with_master, with_colour, with_kind}
use Rattle.records.specs.declared.point_lists.Edition.TheVariants.{One}
use Rattle.records.specs.Parse.{Parse, good, refused, ◌▷◌}
use Rattle.records.specs.Map.{bit, colour_bit}
use Rattle.records.specs.PointLists.{point_bytes, read_field}
use Rattle.records.specs.Kinds.{unnamed_kind, read_kind}
use Rattle.answers.specs.Numbers.{Answer, done}

-- ---- the fields in their order, each replacing one member of the set
-- a master has at least one point: refusal 3 otherwise
abbrev pub master_step : ℕ → View → List ℕ → Parse View
master_step m v s = read_field (bit 1 m) 1 s ▷ λ l t. good (with_master l v) t

-- "1 to 3 off: absent colour, a count of 0 being an empty one"
abbrev pub colour_list : Bool → List Point → Option (List Point)
colour_list present l = cond present (some l) none

abbrev pub colour_step : Colour → ℕ → View → List ℕ → Parse View
colour_step c m v s =
    read_field (bit (colour_bit c) m) 0 s ▷ λ l t.
    good (with_colour c (colour_list (bit (colour_bit c) m) l) v) t

abbrev pub kind_step : CurveInterpolation → ℕ → View → List ℕ → Parse View
kind_step unnamed m v s = read_kind unnamed m s ▷ λ k t. good (with_kind k v) t

-- 7: "Bytes follow the last field"
abbrev pub end_step : View → List ℕ → Parse View
end_step v [] = good v []
end_step v (b ∷ s) = refused TrailingBytes

-- "from bit 0": the fields after the map m, unnamed being the kind where it names none
unfoldable pub read_fields : CurveInterpolation → ℕ → List ℕ → Parse View
read_fields unnamed m s =
    good empty_view s ▷ master_step m ▷ colour_step Red m ▷ colour_step Green m ▷ colour_step Blue m ▷
    kind_step unnamed m ▷ end_step

-- ---- the record
pub record Read : Type 0 where
  pub answer : Answer
  pub set : View

-- "a record reader hands back the empty set of the default kind, without colours"
abbrev pub read_result : Parse View → Read
read_result (good v s) = record { answer = done; set = v }
read_result (refused r) = record { answer = Err r; set = empty_view }

-- a record without its map is refused with 2
unfoldable pub read_record : List ℕ → Read
read_record [] = read_result (refused RecordTruncated)
read_record (m ∷ s) = read_result (read_fields (unnamed_kind (bit 128 m)) m s)

-- ---- its length
-- the most bytes of a list: its count and as many points as a list may have
abbrev pub longest_field : ℕ
longest_field = 1 + limit * point_bytes One

-- and of a record: the map, four lists, the kind, two slopes
abbrev pub longest : ℕ
longest = 1 + 4 * longest_field + 1 + 4
