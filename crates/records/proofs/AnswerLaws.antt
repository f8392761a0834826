-- The record reader answers the first refusal of the record's checks.
use Rattle.std.specs.Prelude.{ℕ, ◌≡◌, refl, Bool, true, false, List, [], ◌∷◌, ltb}
use Rattle.std.proofs.Common.{le-ltb}
use Rattle.lists.specs.Test.{by_test}
use Rattle.answers.specs.declared.Refusal.TheVariants.{RecordTruncated, UnknownKind}
use Rattle.answers.specs.Checks.{◌when◌, first_refusal}
use Rattle.tables.specs.declared.CurveInterpolation.{CurveInterpolation}
use Rattle.tables.specs.Kinds.{kind_number, last_kind}
use Rattle.tables.specs.KindLaws.{number_known}
use Rattle.sets.specs.declared.Colour.TheVariants.{Red, Green, Blue}
use Rattle.records.specs.Parse.{◌▷◌}
use Rattle.records.specs.Map.{bit}
use Rattle.records.specs.Kinds.{unnamed_kind, read_agreed, read_number, read_kind}
use Rattle.records.specs.Format.{colour_step, kind_step, end_step, read_fields, read_record}
use Rattle.records.specs.Checks.{after_field, kind_checks, after_kind, map_checks, record_checks}
use Rattle.records.specs.CheckLaws.{
  Reads,
  reads_then,
  checked_read,
  field_read,
  step_read,
  agreed_read,
  end_read,
  result_answer,
}

-- the kind
kind_read_lem : (unnamed : CurveInterpolation) (present : Bool) (m : ℕ) (s : List ℕ)
    → Reads (kind_checks unnamed present m s) (after_kind unnamed present s)
    (read_number unnamed present s ▷ read_agreed m)
unfolding read_number
kind_read_lem unnamed false m s =
    rw (le-ltb last_kind (kind_number unnamed) (number_known unnamed))
    (checked_read (RecordTruncated when false ∷ UnknownKind when false ∷ [])
    (agreed_read m (kind_number unnamed) s))
kind_read_lem unnamed true m [] = record { answer = refl; goes_on = tt }
kind_read_lem unnamed true m (k ∷ s) =
    by_test (ltb last_kind k) (λ t. rw t (record { answer = refl; goes_on = tt }))
    (λ t.
    rw t (checked_read (RecordTruncated when false ∷ UnknownKind when false ∷ [])
    (agreed_read m k s)))

-- the fields in their order
fields_read : (m : ℕ) (s : List ℕ)
    → Reads (map_checks m s) [] (read_fields (unnamed_kind (bit 128 m)) m s)
unfolding read_fields read_kind
fields_read m s =
    let red = after_field (bit 1 m) s in
    let green = after_field (bit 2 m) red in
    let blue = after_field (bit 4 m) green in
    let kind = after_field (bit 8 m) blue in
    let unnamed = unnamed_kind (bit 128 m) in
    reads_then end_step
    (reads_then (kind_step unnamed m)
    (reads_then (colour_step Blue m)
    (reads_then (colour_step Green m)
    (reads_then (colour_step Red m) (step_read _ (field_read (bit 1 m) 1 s))
    (λ v. step_read _ (field_read (bit 2 m) 0 red)))
    (λ v. step_read _ (field_read (bit 4 m) 0 green)))
    (λ v. step_read _ (field_read (bit 8 m) 0 blue)))
    (λ v. step_read _ (kind_read_lem unnamed (bit 16 m) m kind)))
    (λ v. end_read v (after_kind unnamed (bit 16 m) kind))

pub read_answer : (s : List ℕ) → (read_record s).answer ≡ first_refusal (record_checks s)
unfolding read_record
read_answer [] = refl
read_answer (m ∷ s) = result_answer (fields_read m s)
