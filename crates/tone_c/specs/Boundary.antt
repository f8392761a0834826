-- The calls for a C or Rust caller, as the page of the C boundary has them: what a caller gives as
-- bytes and numbers, for each call its refusals in the papers' order, and what is in lent memory
-- after it. Definitions only.
use Rattle.std.specs.Prelude.{ℕ, ◌/◌, ◌≡◌, cond, List, [], ◌∷◌, ◌++◌, ltb, eqb, ℤ, length, drop, Float, Result}
use Rattle.answers.specs.declared.Refusal.{Refusal}
use Rattle.answers.specs.declared.Refusal.TheVariants.{UnsupportedFormat}
use Rattle.answers.specs.Numbers.{Answer, number_of, is_done, answer_of, done}
use Rattle.answers.specs.Checks.{Check, ◌when◌, first_refusal, room_check}
use Rattle.points.specs.declared.Point.{Point}
use Rattle.points.specs.declared.Heights.TheVariants.{Fine}
use Rattle.points.specs.Points.{count_check, height_check}
use Rattle.tables.specs.declared.CurveInterpolation.{CurveInterpolation}
use Rattle.tables.specs.Kinds.{kind_of}
use Rattle.tables.specs.Tables.{byte_table, fine_table, length_check}
use Rattle.sets.specs.declared.Curves.{Curves}
use Rattle.sets.specs.Sets.{View}
use Rattle.formats.specs.Formats.{format_of, last_format}
use Rattle.formats.specs.Checks.{lut_checks, picture_checks}
use Rattle.records.specs.declared.RecordRead.{RecordRead}
use Rattle.records.specs.declared.point_lists.Edition.TheVariants.{Two}
use Rattle.records.specs.PointLists.{point_bytes, pairs}
use Rattle.records.specs.Kinds.{kind_check}
use Rattle.records.specs.Format.{read_record}
use Rattle.records.specs.Checks.{record_checks}
use Rattle.records.specs.Views.{ReadRecordCall}
use Rattle.writing.specs.Encode.{encode}
use Rattle.pictures.specs.declared.Steps.{Steps}
use Rattle.pictures.specs.OneTable.{toned_within}
use Rattle.pictures.specs.Runs.{Outputs, Lent, Run, held, SetCall}
use Rattle.lookup.specs.Lookup.{lookup_checks, looked_up}

-- ---- what a caller gives
-- points as edition 2 stores them: x, then the height, low byte first; one or two bytes left over
-- are ignored
abbrev pub count_of : List ℕ → ℕ
count_of points = length points / point_bytes Two

abbrev pub pairs_of : List ℕ → List Point
pairs_of points = pairs Two (count_of points) points

-- a curve, its points and its kind's number: 3, then 20, then 5
abbrev pub given_checks : List ℕ → ℕ → List Check
given_checks points kind =
    count_check (count_of points) ∷ height_check Fine (pairs_of points) ∷ kind_check kind ∷ []

-- a format's number: 8 where no format has it
abbrev pub format_check : ℕ → Check
format_check n = UnsupportedFormat when ltb last_format n

-- the set that a record holds
abbrev pub set_of : List ℕ → View
set_of stored = (read_record stored).set

-- 13, and the byte table of a list in place of an output's first 256 bytes, or on a refusal the
-- output unchanged
pub record PutTable (kind : CurveInterpolation) (list : List Point) (old : List ℕ) (a : Answer)
    (new : List ℕ) : Type 0 where
  pub answer : a ≡ first_refusal (room_check 256 (length old) ∷ [])
  pub table : new ≡ cond (is_done a) (byte_table kind list ++ drop 256 old) old

-- ---- tone_table
-- 3 20 5 13: the table is 256 bytes
abbrev pub tone_table_checks : List ℕ → ℕ → ℕ → List Check
tone_table_checks points kind held = given_checks points kind ++ room_check 256 held ∷ []

-- the number answered; and the output: the byte table in place of its first 256 bytes,
-- or on a refusal unchanged
pub record ToneTableCall (points : List ℕ) (kind tension : ℕ) (start end : ℤ) (old : List ℕ) (r : ℕ)
    (new : List ℕ) : Type 0 where
  pub number : r ≡ number_of (first_refusal (tone_table_checks points kind (length old)))
  pub table : new
      ≡ cond (eqb r 0) (byte_table (kind_of kind tension start end) (pairs_of points) ++ drop 256 old)
      old

-- ---- tone_fine_table
-- 3 20 5 14: "A float table's length isn't 256 or 4,096 (build)"
abbrev pub tone_fine_table_checks : List ℕ → ℕ → ℕ → List Check
tone_fine_table_checks points kind S = given_checks points kind ++ length_check S ∷ []

-- the number answered; and the lent table: filled, or on a refusal unchanged
pub record ToneFineTableCall (points : List ℕ) (kind tension : ℕ) (start end : ℤ) (old : List Float)
    (r : ℕ) (new : List Float) : Type 0 where
  pub number : r ≡ number_of (first_refusal (tone_fine_table_checks points kind (length old)))
  pub table : new
      ≡ cond (eqb r 0) (fine_table (kind_of kind tension start end) (pairs_of points) (length old)) old

-- ---- tone_lookup
-- the number answered; and the lent values: each replaced, or on a refusal unchanged
pub record ToneLookupCall (table old : List Float) (r : ℕ) (new : List Float) : Type 0 where
  pub number : r ≡ number_of (first_refusal (lookup_checks (length table)))
  pub values : new ≡ looked_up table old

-- ---- tone_plane
-- 8 of the format's number, then 9 11 12 of the one-table call
abbrev pub tone_plane_checks : ℕ → ℕ → ℕ → ℕ → ℕ → List Check
tone_plane_checks format w h step held =
    format_check format ∷ lut_checks (format_of format) w h step held

-- the number answered; and the plane: toned, or on a refusal unchanged
pub record TonePlaneCall (table : List ℕ) (format w h step : ℕ) (old : List ℕ) (r : ℕ)
    (new : List ℕ) : Type 0 where
  pub number : r ≡ number_of (first_refusal (tone_plane_checks format w h step (length old)))
  pub plane : new ≡ cond (eqb r 0) (toned_within (format_of format) w h step table old) old

-- ---- tone_picture
-- what a caller asks: as a run of the set call, but the record's bytes in place of the set and the
-- format's number in place of the format
pub record PictureAsked : Type 0 where
  pub stored : List ℕ
  pub format : ℕ
  pub width : ℕ
  pub height : ℕ
  pub planes : ℕ
  pub lent : Lent

-- the run of the set call by a set
abbrev pub run_of : PictureAsked → Curves → Run
run_of asked set = record {
  job = record {
    set = set;
    format = format_of asked.format;
    width = asked.width;
    height = asked.height;
    planes = asked.planes;
  };
  lent = asked.lent;
}

-- 2 to 7 of the record, whose lists have then passed 3, 4 and 20; 8 of the format's number, then 8
-- to 13 of the set call
abbrev pub tone_picture_checks : PictureAsked → List Check
tone_picture_checks asked =
    record_checks asked.stored ++ (format_check asked.format ∷ [])
    ++ picture_checks (format_of asked.format) asked.width asked.height asked.planes
    asked.lent.plane.step (held asked.lent)

-- the run of the set call that a call answered with 0 is, on the set that the record's reader
-- handed back
pub record PictureRun (asked : PictureAsked) (after : Outputs) : Type 0 where
  pub handed : RecordRead
  pub toned : Result Steps Refusal
  pub read : ReadRecordCall asked.stored handed
  pub call : SetCall (run_of asked handed.set) toned after
  pub done : answer_of toned ≡ done

-- the number answered; on a refusal the outputs unchanged; and with 0 the run, which says what the
-- outputs hold: `PictureLaws` has it by the record's bytes
pub record TonePictureCall (asked : PictureAsked) (r : ℕ) (after : Outputs) : Type 0 where
  pub number : r ≡ number_of (first_refusal (tone_picture_checks asked))
  pub unchanged : (r ≡ 0 → ⊥) → after ≡ asked.lent.outputs
  pub run : r ≡ 0 → PictureRun asked after

-- ---- tone_record_table
-- 2 to 7 of the record, then 13: the table is 256 bytes
abbrev pub tone_record_table_checks : List ℕ → ℕ → List Check
tone_record_table_checks stored held = record_checks stored ++ room_check 256 held ∷ []

-- the number answered; and the output: the master's byte table in place of its first 256 bytes,
-- or on a refusal unchanged
pub record ToneRecordTableCall (stored old : List ℕ) (r : ℕ) (new : List ℕ) : Type 0 where
  pub number : r ≡ number_of (first_refusal (tone_record_table_checks stored (length old)))
  pub table : new
      ≡ cond (eqb r 0) (byte_table (set_of stored).kind (set_of stored).master ++ drop 256 old) old

-- ---- tone_record_copy
-- what the present writer makes of the record's set
abbrev pub copy_of : List ℕ → List ℕ
copy_of stored = encode (set_of stored)

-- 2 to 7 of the record, then 13
abbrev pub tone_record_copy_checks : List ℕ → ℕ → List Check
tone_record_copy_checks stored held =
    record_checks stored ++ room_check (length (copy_of stored)) held ∷ []

-- the number answered; the output: the copy in place of its first bytes; and its length; on
-- a refusal both unchanged
pub record ToneRecordCopyCall (stored old : List ℕ) (oldWritten r : ℕ) (new : List ℕ)
    (newWritten : ℕ) : Type 0 where
  pub number : r ≡ number_of (first_refusal (tone_record_copy_checks stored (length old)))
  pub out : new ≡ cond (eqb r 0) (copy_of stored ++ drop (length (copy_of stored)) old) old
  pub written : newWritten ≡ cond (eqb r 0) (length (copy_of stored)) oldWritten
