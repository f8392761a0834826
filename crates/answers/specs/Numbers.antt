-- The numbers of document 01, "When a call says no", and of document 02, one for each answer; that
-- different answers have different numbers, none of them 1, which document 02 took away: at_number,
-- and proofs/NumberLaws.
use Rattle.std.specs.Prelude.{ℕ, ◌≡◌, refl, Bool, true, false, List, [], ◌∷◌, get_or, Result, Ok, Err}
use Rattle.answers.specs.declared.Refusal.{Refusal}
use Rattle.answers.specs.declared.Refusal.TheVariants.{
  RecordTruncated,
  PointCount,
  PointsNotRising,
  UnknownKind,
  FieldMismatch,
  TrailingBytes,
  UnsupportedFormat,
  PictureTooLarge,
  MissingPlane,
  RowStep,
  PlaneTooShort,
  OutputTooSmall,
  TableLength,
  HeightRange,
}

-- what a call answers that hands nothing back: done, or a refusal
abbrev pub Answer : Type 0
Answer = Result (Unit {0}) Refusal

abbrev pub done : Answer
done = Ok tt

abbrev pub refusal_number : Refusal → ℕ
-- A record ends before its map or inside a field whose bit stands.
refusal_number RecordTruncated = 2
-- A count of points is above 64, or a record's master count is 0.
refusal_number PointCount = 3
-- A record's or set's points don't strictly rise in x.
refusal_number PointsNotRising = 4
-- The kind byte is above 9.
refusal_number UnknownKind = 5
-- Bit 5 or bit 6 disagrees with the kind.
refusal_number FieldMismatch = 6
-- Bytes follow the last field.
refusal_number TrailingBytes = 7
-- The set call is given Ya8, Cmyk or CmykInverted.
refusal_number UnsupportedFormat = 8
-- Width or height is above 4,096.
refusal_number PictureTooLarge = 9
-- The set call has no plane, or fewer than three for YUV.
refusal_number MissingPlane = 10
-- The first plane's row step is below the row bytes or above 32,768.
refusal_number RowStep = 11
-- The first plane has fewer bytes than needed.
refusal_number PlaneTooShort = 12
-- An output holds less than what would be written.
refusal_number OutputTooSmall = 13
-- A float table's length isn't 256 or 4,096 (build) or 4,096 (lookup).
refusal_number TableLength = 14
-- A height above 65,280 in a list or set, or, when today's record is written, one that isn't a
-- multiple of 256.
refusal_number HeightRange = 20

-- "answers one number", 0 where it did its work
abbrev pub number_of : Answer → ℕ
number_of (Ok _) = 0
number_of (Err r) = refusal_number r

abbrev pub is_done : Answer → Bool
is_done (Ok _) = true
is_done (Err _) = false

-- what is answered by a call that hands a value back, or its refusal
abbrev pub answer_of : {A : Type 0} → Result A Refusal → Answer
answer_of (Ok _) = done
answer_of (Err r) = Err r

-- the first refusal of two answers
abbrev pub first_of : Answer → Answer → Answer
first_of (Ok _) b = b
first_of (Err r) b = Err r

-- ---- different answers have different numbers

-- the answers in the order of their numbers; done fills the places of those that no answer has
abbrev pub in_order : List Answer
in_order =
    done ∷ done ∷ Err RecordTruncated ∷ Err PointCount ∷ Err PointsNotRising ∷ Err UnknownKind
    ∷ Err FieldMismatch ∷ Err TrailingBytes ∷ Err UnsupportedFormat ∷ Err PictureTooLarge
    ∷ Err MissingPlane ∷ Err RowStep ∷ Err PlaneTooShort ∷ Err OutputTooSmall ∷ Err TableLength
    ∷ done ∷ done ∷ done ∷ done ∷ done ∷ Err HeightRange ∷ []

pub at_number : (a : Answer) → get_or in_order (number_of a) done ≡ a
at_number (Ok tt) = refl
at_number (Err RecordTruncated) = refl
at_number (Err PointCount) = refl
at_number (Err PointsNotRising) = refl
at_number (Err UnknownKind) = refl
at_number (Err FieldMismatch) = refl
at_number (Err TrailingBytes) = refl
at_number (Err UnsupportedFormat) = refl
at_number (Err PictureTooLarge) = refl
at_number (Err MissingPlane) = refl
at_number (Err RowStep) = refl
at_number (Err PlaneTooShort) = refl
at_number (Err OutputTooSmall) = refl
at_number (Err TableLength) = refl
at_number (Err HeightRange) = refl
