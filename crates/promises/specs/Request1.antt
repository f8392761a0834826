-- Document 02, U1, "Gentler curves unless the set says otherwise": what it says of any run of the
-- calls on sets and records, from their contracts alone. Kinds are said by their numbers, those of
-- document 01; m is a record's map, its first byte, and s the bytes after it.
-- P10 and P11 are in Marked of the crate `examples`.
use Rattle.std.specs.Prelude.{ℕ, ◌+◌, ◌<◌, ◌≡◌, true, false, cond, not, List, ◌∷◌, eqb, get_or, Result, Ok}
use Rattle.std.proofs.Common.{sym, ap, ◌∙◌}
use Rattle.answers.specs.declared.Refusal.{Refusal}
use Rattle.answers.specs.Numbers.{is_done, done}
use Rattle.answers.proofs.NumberLaws.{never_one}
use Rattle.answers.specs.Checks.{Check, first_refusal}
use Rattle.points.specs.declared.Curve.{Curve}
use Rattle.tables.specs.declared.CurveInterpolation.TheVariants.{MonotoneCubic, MonotoneCubicBox}
use Rattle.tables.specs.Kinds.{kind_number}
use Rattle.sets.specs.declared.Curves.{Curves}
use Rattle.sets.specs.Sets.{View, view_of, empty_view, with_kind, MasterOnly}
use Rattle.records.specs.declared.RecordRead.{RecordRead}
use Rattle.records.specs.Map.{bit}
use Rattle.records.specs.Format.{Read, read_fields, read_result, read_record}
use Rattle.records.specs.CheckLaws.{read_empty}
use Rattle.records.specs.Views.{ReadRecordCall}
use Rattle.writing.specs.Statements.{WriteRecordCall}
use Rattle.record_facts.specs.NewDefault as NewDefault
use Rattle.record_facts.specs.Runs as Writing
use Rattle.promises.specs.Checks.{Answers}

-- ---- "MonotoneCubicBox (3) as the default for new sets"
-- `Curves::new` and `Curves::empty`
pub new_set : {master : Curve} {r : Curves} → MasterOnly master r
    → kind_number r.interpolation ≡ 3
new_set call = ap (λ (v : View). kind_number v.kind) call.view

pub empty_set : (r : Curves) → view_of r ≡ empty_view → kind_number r.interpolation ≡ 3
empty_set r call = ap (λ (v : View). kind_number v.kind) call

-- "also in the set handed back with a refused record"
pub refused_record : (s : List ℕ) {r : RecordRead} → ReadRecordCall s r
    → is_done r.answer ≡ false → kind_number r.set.interpolation ≡ 3
refused_record s {r} call refused =
    empty_set r.set (call.set ∙ read_empty s (rw call.answer at refused))

-- ---- a record that names no kind
module _ (m : ℕ) (s : List ℕ) {r : RecordRead} (call : ReadRecordCall (m ∷ s) r)
    (accepted : r.answer ≡ done) (unnamed : bit 16 m ≡ false) where
  read : (read_record (m ∷ s)).answer ≡ done
  read = sym call.answer ∙ accepted

  kind_read_lem : kind_number r.set.interpolation ≡ kind_number (read_record (m ∷ s)).set.kind
  kind_read_lem = ap (λ (v : View). kind_number v.kind) call.set

  -- "Records in the racks without bit 4 relied on kind 2 and must still show kind 2": bit 7 was
  -- refused
  pub without_bit_7 : bit 128 m ≡ false → kind_number r.set.interpolation ≡ 2
  without_bit_7 older = kind_read_lem ∙ ap kind_number (NewDefault.old_kind m s read unnamed older)

  -- "bit 7 says 'new default': with it, a missing kind means 3"
  pub with_bit_7 : bit 128 m ≡ true → kind_number r.set.interpolation ≡ 3
  with_bit_7 newer = kind_read_lem ∙ ap kind_number (NewDefault.new_kind m s read unnamed newer)

-- ---- every other record
-- one without bit 7 is read as ever: its fields by the definition that there was before bit 7, with
-- the unnamed kind 2
pub old_as_before : (m : ℕ) (s : List ℕ) {r : RecordRead} → ReadRecordCall (m ∷ s) r
    → bit 128 m ≡ false
    → (r.answer ≡ (read_result (read_fields MonotoneCubic m s)).answer)
    × (view_of r.set ≡ (read_result (read_fields MonotoneCubic m s)).set)
old_as_before m s call older =
    let e = NewDefault.old_as_before m s older in
    (call.answer ∙ ap (λ (x : Read). x.answer) e, call.set ∙ ap (λ (x : Read). x.set) e)

-- bit 7 put into a map that is without it changes no answer, no list and no kind that is named
pub bit_7_alone : (m : ℕ) (s : List ℕ) {old new : RecordRead} → m < 128
    → ReadRecordCall (m ∷ s) old → ReadRecordCall ((m + 128) ∷ s) new
    → (new.answer ≡ old.answer)
    × (view_of new.set
    ≡ cond (bit 16 m) (view_of old.set) (with_kind MonotoneCubicBox (view_of old.set)))
bit_7_alone m s small before after =
    let e = NewDefault.bit_7_alone m s small in (
      after.answer ∙ ap (λ (x : Read). x.answer) e ∙ sym before.answer,
      after.set ∙ ap (λ (x : Read). x.set) e
          ∙ ap (λ (v : View). cond (bit 16 m) v (with_kind MonotoneCubicBox v)) (sym before.set),
    )

-- ---- "The writer sets bit 7 always and leaves the kind out when it is 3"
-- and only then, bit 4 telling whether it is there
pub writer_map : {set : Curves} {old new : List ℕ} {w : Result ℕ Refusal} {n : ℕ}
    → WriteRecordCall set old w new → w ≡ Ok n
    → (bit 128 (get_or new 0 0) ≡ true)
    × (bit 16 (get_or new 0 0) ≡ not (eqb (kind_number set.interpolation) 3))
writer_map = Writing.written_map

-- ---- "Refusal 1 therefore never occurs any more"
-- of every call that answers as the first demand has it, at the C boundary too
pub never_1 : {checks : List Check} {number : ℕ} {Unchanged : Type 0}
    → Answers checks number Unchanged
    → number ≡ 1 → ⊥
never_1 {checks} call one = never_one (first_refusal checks) (sym call.first ∙ one)
