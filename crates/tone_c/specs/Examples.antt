-- The definitions where a slip would show: bytes left over, the numbers of the formats, the order
-- of each call's refusals, the greatest count of points, and arguments that a kind does not read.
use Rattle.std.specs.Prelude.{◌≡◌, refl, List, [], ◌∷◌, ℕ, ℤ, replicate, Err}
use Rattle.std.proofs.Common.{sym, ap, ◌∙◌, eqb-true}
use Rattle.lists.specs.Test.{by_test}
use Rattle.answers.specs.declared.Refusal.TheVariants.{PointCount, UnknownKind, TrailingBytes, UnsupportedFormat, PictureTooLarge, MissingPlane, RowStep, PlaneTooShort, OutputTooSmall, TableLength, HeightRange}
use Rattle.answers.specs.Checks.{first_refusal}
use Rattle.points.specs.Points.{pt, all_allowed}
use Rattle.tables.specs.declared.Carried.{Carried}
use Rattle.tables.specs.Kinds.{kind_of, carries_tension, carries_slopes}
use Rattle.tables.specs.KindLaws.{kind_with, carried_for, kind_unread}
use Rattle.rows.specs.Rows.{needed}
use Rattle.formats.specs.declared.PixelFormat.TheVariants.{Gray8, Rgba, Yuv420P, YuvJ444P}
use Rattle.formats.specs.Formats.{format_of}
use Rattle.records.specs.PointLists.{pairs}
use Rattle.records.specs.Kinds.{read_kind, read_number, read_carried}
use Rattle.records.specs.Format.{read_record, read_fields}
use Rattle.writing.specs.Encode.{bits_under, encode}
use Rattle.tone_c.specs.Boundary.{
  pairs_of,
  tone_table_checks,
  tone_fine_table_checks,
  tone_plane_checks,
  tone_picture_checks,
  tone_record_table_checks,
  tone_record_copy_checks,
}
use Rattle.tone_c.specs.Version.{version}
use Rattle.answers.specs.Numbers.{Answer, done}

-- ---- the version
-- the third: points with heights in 256ths, and 20
pub this_version : version ≡ 3
this_version = refl

-- ---- a curve that is given
-- "low byte first"; one or two bytes left over are no point
pub bytes_left_over :
    (pairs_of (10 ∷ 5 ∷ 1 ∷ 0 ∷ 0 ∷ 255 ∷ 77 ∷ []) ≡ pt 10 261 ∷ pt 0 65280 ∷ [])
    × (pairs_of (10 ∷ 5 ∷ 1 ∷ 0 ∷ 0 ∷ 255 ∷ 77 ∷ 78 ∷ []) ≡ pt 10 261 ∷ pt 0 65280 ∷ [])
    × (pairs_of (10 ∷ 5 ∷ 1 ∷ 0 ∷ 0 ∷ 255 ∷ 77 ∷ 78 ∷ 79 ∷ [])
    ≡ pt 10 261 ∷ pt 0 65280 ∷ pt 77 20302 ∷ [])
unfolding pairs
bytes_left_over = (refl, refl, refl)

-- 65 points, then a height of 65,535, then kind 10, then an output one byte too short; 64 points
-- and two bytes left over pass
pub table_order : (first_refusal (tone_table_checks (replicate 195 255) 10 255) ≡ Err PointCount)
    × (first_refusal (tone_table_checks (replicate 194 255) 10 255) ≡ Err HeightRange)
    × (first_refusal (tone_table_checks (replicate 194 7) 10 255) ≡ Err UnknownKind)
    × (first_refusal (tone_table_checks (replicate 194 7) 9 255) ≡ Err OutputTooSmall)
    × (first_refusal (tone_table_checks (replicate 194 7) 9 256) ≡ done)
unfolding pairs all_allowed
table_order = (refl, refl, refl, refl, refl)

pub fine_table_order : (first_refusal (tone_fine_table_checks (replicate 195 255) 10 257) ≡ Err PointCount)
    × (first_refusal (tone_fine_table_checks (replicate 194 255) 10 257) ≡ Err HeightRange)
    × (first_refusal (tone_fine_table_checks (replicate 194 7) 10 257) ≡ Err UnknownKind)
    × (first_refusal (tone_fine_table_checks (replicate 194 7) 9 257) ≡ Err TableLength)
    × (first_refusal (tone_fine_table_checks (replicate 194 7) 9 4096) ≡ done)
unfolding pairs all_allowed
fine_table_order = (refl, refl, refl, refl, refl)

-- the tension matters to kind 7 only, the slopes to kind 8 only
pub unread : (k q r : ℕ) (s t e f : ℤ) → (k ≡ 7 → q ≡ r) → (k ≡ 8 → (s ≡ t) × (e ≡ f))
    → kind_of k q s e ≡ kind_of k r t f
unread k q r s t e f tension slopes =
    let a : Carried = record { tension = q; start = s; end = e } in
    let b : Carried = record { tension = r; start = t; end = f } in
    let carried : carried_for k a ≡ carried_for k b =
    by_test (carries_tension k) (λ h. rw (h, tension (eqb-true k 7 h)))
    (λ h. by_test (carries_slopes k)
    (λ i. let same = slopes (eqb-true k 8 i) in rw (h, i, same.0, same.1))
    (λ i. rw (h, i))) in
    sym (kind_unread k a) ∙ ap (kind_with k) carried ∙ kind_unread k b

-- ---- pictures
pub formats : (format_of 0 ≡ Gray8) × (format_of 3 ≡ Rgba) × (format_of 6 ≡ Yuv420P)
    × (format_of 11 ≡ YuvJ444P)
unfolding format_of
formats = (refl, refl, refl, refl)

-- an unknown format, then a side of 4,097; the last format passes
pub plane_order : (first_refusal (tone_plane_checks 12 4097 1 0 0) ≡ Err UnsupportedFormat)
    × (first_refusal (tone_plane_checks 11 4097 1 0 0) ≡ Err PictureTooLarge)
    × (first_refusal (tone_plane_checks 11 4 1 3 0) ≡ Err RowStep)
    × (first_refusal (tone_plane_checks 11 4 1 4 3) ≡ Err PlaneTooShort)
    × (first_refusal (tone_plane_checks 11 4 1 4 4) ≡ done)
unfolding format_of needed
plane_order = (refl, refl, refl, refl, refl)

-- the record of an empty set of kind 0, and with a byte more
abbrev empty : List ℕ
empty = 0x10 ∷ 0 ∷ []

abbrev longer : List ℕ
longer = 0x10 ∷ 0 ∷ 0 ∷ []

-- of planes of 4 bytes, chroma of 1 byte, and a last output of so many bytes
abbrev picture_answered : List ℕ → ℕ → ℕ → ℕ → ℕ → ℕ → Answer
picture_answered stored format w planes step room =
    first_refusal (tone_picture_checks (record {
      stored = stored;
      format = format;
      width = w;
      height = 1;
      planes = planes;
      lent = record {
        plane = record { bytes = replicate 4 5; step = step };
        cb = record { bytes = 1 ∷ []; step = 0 };
        cr = record { bytes = 2 ∷ []; step = 0 };
        outputs = record { first = replicate 4 0; cb = 0 ∷ []; cr = replicate room 0 };
      };
    }))

-- the record's 7 before all others; an unknown format, or one that the set call does not take,
-- before a width of 4,097; the output last
pub picture_order : (picture_answered longer 12 4097 0 0 0 ≡ Err TrailingBytes)
    × (picture_answered empty 12 4097 0 0 0 ≡ Err UnsupportedFormat)
    × (picture_answered empty 1 4097 0 0 0 ≡ Err UnsupportedFormat)
    × (picture_answered empty 6 4097 2 0 0 ≡ Err PictureTooLarge)
    × (picture_answered empty 6 4 2 3 0 ≡ Err MissingPlane) × (picture_answered empty 6 4 3 3 0 ≡ Err RowStep)
    × (picture_answered empty 6 4 3 4 0 ≡ Err OutputTooSmall) × (picture_answered empty 6 4 3 4 1 ≡ done)
unfolding format_of needed
picture_order = (refl, refl, refl, refl, refl, refl, refl, refl)

-- chroma of 2 and of 3 bytes: each output is measured by its own plane
abbrev room_answered : ℕ → ℕ → ℕ → Answer
room_answered roomY roomU roomV =
    first_refusal (tone_picture_checks (record {
      stored = empty;
      format = 6;
      width = 4;
      height = 1;
      planes = 3;
      lent = record {
        plane = record { bytes = replicate 4 5; step = 4 };
        cb = record { bytes = replicate 2 6; step = 0 };
        cr = record { bytes = replicate 3 7; step = 0 };
        outputs = record {
          first = replicate roomY 0;
          cb = replicate roomU 0;
          cr = replicate roomV 0;
        };
      };
    }))

pub picture_rooms : (room_answered 4 2 3 ≡ done) × (room_answered 3 4 4 ≡ Err OutputTooSmall)
    × (room_answered 4 1 4 ≡ Err OutputTooSmall) × (room_answered 4 4 2 ≡ Err OutputTooSmall)
unfolding format_of needed
picture_rooms = (refl, refl, refl, refl)

-- ---- records
pub record_table_order : (first_refusal (tone_record_table_checks longer 255) ≡ Err TrailingBytes)
    × (first_refusal (tone_record_table_checks empty 255) ≡ Err OutputTooSmall)
    × (first_refusal (tone_record_table_checks empty 256) ≡ done)
record_table_order = (refl, refl, refl)

-- the copy of a record that names kind 3 leaves it out, 1 byte for 2; where a record has neither
-- bit 7 nor a kind, it names kind 2, 2 bytes for 1
pub record_copy_order : (first_refusal (tone_record_copy_checks longer 0) ≡ Err TrailingBytes)
    × (first_refusal (tone_record_copy_checks empty 1) ≡ Err OutputTooSmall)
    × (first_refusal (tone_record_copy_checks empty 2) ≡ done)
    × (first_refusal (tone_record_copy_checks (0x10 ∷ 3 ∷ []) 1) ≡ done)
    × (first_refusal (tone_record_copy_checks (0x00 ∷ []) 1) ≡ Err OutputTooSmall)
    × (first_refusal (tone_record_copy_checks (0x00 ∷ []) 2) ≡ done)
unfolding read_record read_fields read_kind read_number read_carried encode bits_under kind_of
record_copy_order = (refl, refl, refl, refl, refl, refl)
