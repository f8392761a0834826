-- For the refusals 2 to 6 a record that has it, and their order within a field; 7 is in document
-- 01's P10. What bit 7 says of a missing kind, and that it says nothing else.
use Rattle.std.specs.Prelude.{◌≡◌, refl, true, false, [], ◌∷◌, pos, negsuc}
use Rattle.std.proofs.Math.Option.{some}
use Rattle.answers.specs.declared.Refusal.TheVariants.{RecordTruncated, PointCount, PointsNotRising, UnknownKind, FieldMismatch, TrailingBytes}
use Rattle.points.specs.Points.{rises_from}
use Rattle.tables.specs.declared.CurveInterpolation.TheVariants.{
  MonotoneCubic,
  MonotoneCubicBox,
  Cardinal,
  ClampedCubic,
  NotAKnotCubic,
}
use Rattle.sets.specs.declared.Colour.TheVariants.{Red}
use Rattle.sets.specs.Sets.{empty_view, default, with_colour, with_kind}
use Rattle.tables.specs.Kinds.{kind_number, kind_of}
use Rattle.records.specs.Parse.{refused}
use Rattle.records.specs.PointLists.{pairs, read_points, read_list}
use Rattle.records.specs.Kinds.{unnamed_kind, read_number, read_tension, read_slopes}
use Rattle.records.specs.Kinds.{read_carried, read_kind}
use Rattle.records.specs.Format.{read_fields, read_record, read_result}
use Rattle.answers.specs.Numbers.{done}

-- ---- a kind that is not named
-- "relied on kind 2", and bit 7: "a missing kind means 3", which today is the default too
pub unnamed_kinds : (kind_number (unnamed_kind false) ≡ 2) × (kind_number (unnamed_kind true) ≡ 3)
unnamed_kinds = (refl, refl)

pub default_unnamed : unnamed_kind true ≡ default
default_unnamed = refl

pub old_empty : read_record (0x00 ∷ [])
    ≡ record { answer = done; set = with_kind MonotoneCubic empty_view }
unfolding read_record read_fields read_kind read_number read_carried kind_of
old_empty = refl

-- every bit below it beside bit 7 asks for its field
pub all_bits : read_record (0xff ∷ 0 ∷ []) ≡ read_result (refused PointCount)
unfolding read_record read_fields read_list read_points
all_bits = refl

-- "a count of 0 being an empty one"
pub red_empty : read_record (2 ∷ 0 ∷ [])
    ≡ record { answer = done; set = with_kind MonotoneCubic (with_colour Red (some []) empty_view) }
unfolding read_record read_fields read_list read_points pairs read_kind read_number read_carried rises_from
    kind_of
red_empty = refl

pub new_red_empty : read_record (0x82 ∷ 0 ∷ [])
    ≡ record { answer = done; set = with_kind MonotoneCubicBox (with_colour Red (some []) empty_view) }
unfolding read_record read_fields read_list read_points pairs read_kind read_number read_carried rises_from
    kind_of
new_red_empty = refl

-- ---- a kind that is named stands, bit 7 or not: 2 and 3 each way
pub new_names_2 : read_record (0x90 ∷ 2 ∷ [])
    ≡ record { answer = done; set = with_kind MonotoneCubic empty_view }
unfolding read_record read_fields read_kind read_number read_carried kind_of
new_names_2 = refl

pub old_names_3 : read_record (0x10 ∷ 3 ∷ [])
    ≡ record { answer = done; set = with_kind MonotoneCubicBox empty_view }
unfolding read_record read_fields read_kind read_number read_carried kind_of
old_names_3 = refl

pub cardinal : read_record (0x30 ∷ 7 ∷ 128 ∷ [])
    ≡ record { answer = done; set = with_kind (Cardinal 128) empty_view }
unfolding read_record read_fields read_kind read_number read_carried read_tension kind_of
cardinal = refl

pub clamped : read_record (0x50 ∷ 8 ∷ 0x00 ∷ 0x80 ∷ 0xff ∷ 0x7f ∷ [])
    ≡ record { answer = done; set = with_kind (ClampedCubic (negsuc 32767) (pos 32767)) empty_view }
unfolding read_record read_fields read_kind read_number read_carried read_slopes kind_of
clamped = refl

-- ---- 2, 3 and 4 of a list
pub no_map : read_record [] ≡ read_result (refused RecordTruncated)
unfolding read_record
no_map = refl

pub no_count : read_record (1 ∷ []) ≡ read_result (refused RecordTruncated)
unfolding read_record read_fields read_list
no_count = refl

pub master_none : read_record (1 ∷ 0 ∷ []) ≡ read_result (refused PointCount)
unfolding read_record read_fields read_list read_points
master_none = refl

-- 3 comes before missing points
pub too_many : read_record (1 ∷ 65 ∷ []) ≡ read_result (refused PointCount)
unfolding read_record read_fields read_list read_points
too_many = refl

-- missing points come before 4
pub one_missing : read_record (1 ∷ 3 ∷ 9 ∷ 0 ∷ 9 ∷ 0 ∷ []) ≡ read_result (refused RecordTruncated)
unfolding read_record read_fields read_list read_points pairs rises_from
one_missing = refl

pub not_rising : read_record (1 ∷ 2 ∷ 9 ∷ 0 ∷ 9 ∷ 0 ∷ []) ≡ read_result (refused PointsNotRising)
unfolding read_record read_fields read_list read_points pairs rises_from
not_rising = refl

-- ---- 2, 5 and 6 of a kind
pub no_kind_byte : read_record (0x10 ∷ []) ≡ read_result (refused RecordTruncated)
unfolding read_record read_fields read_kind read_number
no_kind_byte = refl

-- 9 is a kind
pub last_kind_lem : read_record (0x10 ∷ 9 ∷ [])
    ≡ record { answer = done; set = with_kind NotAKnotCubic empty_view }
unfolding read_record read_fields read_kind read_number read_carried kind_of
last_kind_lem = refl

-- 10 is none; 5 comes before 6
pub unknown_kind : read_record (0x30 ∷ 10 ∷ []) ≡ read_result (refused UnknownKind)
unfolding read_record read_fields read_kind read_number
unknown_kind = refl

-- 6 comes before missing slopes: bit 6 is set with Cardinal
pub bits_disagree : read_record (0x50 ∷ 7 ∷ []) ≡ read_result (refused FieldMismatch)
unfolding read_record read_fields read_kind read_number
bits_disagree = refl

pub bit_without_kind : read_record (0x20 ∷ []) ≡ read_result (refused FieldMismatch)
unfolding read_record read_fields read_kind read_number
bit_without_kind = refl

pub no_tension : read_record (0x30 ∷ 7 ∷ []) ≡ read_result (refused RecordTruncated)
unfolding read_record read_fields read_kind read_number read_carried read_tension kind_of
no_tension = refl

pub slope_cut : read_record (0x50 ∷ 8 ∷ 0 ∷ 0 ∷ 0 ∷ []) ≡ read_result (refused RecordTruncated)
unfolding read_record read_fields read_kind read_number read_carried read_slopes kind_of
slope_cut = refl

-- ---- the same beside bit 7
-- the map needs nothing, and nothing may follow it
pub new_trailing : read_record (0x80 ∷ 0 ∷ []) ≡ read_result (refused TrailingBytes)
unfolding read_record read_fields read_kind read_number read_carried kind_of
new_trailing = refl

pub new_no_kind_byte : read_record (0x90 ∷ []) ≡ read_result (refused RecordTruncated)
unfolding read_record read_fields read_kind read_number
new_no_kind_byte = refl

pub new_unknown_kind : read_record (0x90 ∷ 10 ∷ []) ≡ read_result (refused UnknownKind)
unfolding read_record read_fields read_kind read_number
new_unknown_kind = refl

pub new_bit_without_kind : read_record (0xa0 ∷ []) ≡ read_result (refused FieldMismatch)
unfolding read_record read_fields read_kind read_number
new_bit_without_kind = refl

pub new_bits_disagree : read_record (0xf0 ∷ 7 ∷ 0 ∷ []) ≡ read_result (refused FieldMismatch)
unfolding read_record read_fields read_kind read_number
new_bits_disagree = refl

pub new_clamped : read_record (0xd0 ∷ 8 ∷ 0x00 ∷ 0x80 ∷ 0xff ∷ 0x7f ∷ [])
    ≡ record { answer = done; set = with_kind (ClampedCubic (negsuc 32767) (pos 32767)) empty_view }
unfolding read_record read_fields read_kind read_number read_carried read_slopes kind_of
new_clamped = refl

-- ---- what is handed back with a refusal has the default kind, which is 3
pub refused_kind : kind_number (read_record (0x00 ∷ 0 ∷ [])).set.kind ≡ 3
unfolding read_record read_fields read_kind read_number read_carried kind_of
refused_kind = refl
