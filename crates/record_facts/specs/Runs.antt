-- What holds of any runs of the reader and the writer, from their contracts alone: the same bytes
-- for the same set, room for a record that was read, and which heights are read and written. Others
-- are in proofs/: the round trip in RoundTripLaws, room for every record in RoomLaws, and which
-- come back byte for byte in WriterFormLaws.
use Rattle.std.specs.Prelude.{ℕ, ◌+◌, ◌≤◌, ◌≡◌, List, [], ◌∷◌, true, false, not, eqb, ltb, length, get_or, Result, Ok, Err}
use Rattle.std.proofs.Common.{arith, ap, ◌∙◌}
use Rattle.std.proofs.Math.Path.{refl, sym}
use Rattle.lists.specs.Test.{by_test}
use Rattle.answers.specs.declared.Refusal.{Refusal}
use Rattle.answers.specs.declared.Refusal.TheVariants.{OutputTooSmall, HeightRange}
use Rattle.answers.specs.Numbers.{number_of, answer_of, is_done, done}
use Rattle.answers.proofs.NumberLaws.{done_is, handed_value}
use Rattle.answers.specs.Checks.{first_refusal, room_check}
use Rattle.answers.proofs.CheckLaws.{first_stops, first_goes_on}
use Rattle.points.specs.declared.Heights.TheVariants.{Fine, Whole}
use Rattle.tables.specs.Kinds.{kind_number}
use Rattle.sets.specs.declared.Curves.{Curves}
use Rattle.sets.specs.Sets.{view_of, curve_checks, set_checks, set_answer}
use Rattle.sets.specs.Legal.{fine_set}
use Rattle.sets.specs.Same.{Same}
use Rattle.records.specs.declared.RecordRead.{RecordRead}
use Rattle.records.specs.Map.{bit}
use Rattle.records.specs.Format.{read_record}
use Rattle.records.specs.Views.{ReadRecordCall}
use Rattle.writing.specs.Encode.{one_if, Write, encode}
use Rattle.writing.specs.Cases.{write_answer, write_done, done_case}
use Rattle.writing.specs.Cases.{run_answer, run_refused, run_done}
use Rattle.writing.proofs.RunLaws.{run_writes}
use Rattle.writing.specs.Statements.{length_or_refusal, WriteRecordCall}
use Rattle.record_facts.specs.Levels.{
  HoldsLevels,
  read_whole,
  never_20,
  passed_whole_set,
  whole_set_passes,
  refused_20,
}
use Rattle.record_facts.specs.Canonical.{leaves_two_out, accepted_length, same_written, writer_sets}

-- a set that passes the writer's check of its lists is refused for its room alone
passed_not_refused : {set : Curves} {before after : List ℕ} {w : Result ℕ Refusal}
    → WriteRecordCall set before w after → set_answer Whole set ≡ done
    → answer_of w
    ≡ first_refusal (room_check (length (encode (view_of set))) (length before) ∷ [])
unfolding set_answer
passed_not_refused {set} {before} wrote passed =
    run_answer wrote ∙ write_answer set before
    ∙ sym (first_goes_on (set_checks (curve_checks Whole) set) _ passed refl)

-- a set that was read is never refused for its lists: the answer is done, or 13 where the buffer is
-- shorter than the set's record
pub accepted_not_refused : (s : List ℕ) {before after : List ℕ} {r : RecordRead} {w : Result ℕ Refusal}
    → ReadRecordCall s r → WriteRecordCall r.set before w after
    → answer_of w
    ≡ first_refusal (room_check (length (encode (read_record s).set)) (length before) ∷ [])
accepted_not_refused s handed wrote = rw handed.set at (passed_not_refused wrote handed.legal)

-- and of a record that was accepted its length is answered, into every buffer that has room for that
-- record, with a byte more where it leaves kind 2 out
pub accepted_fits : (s : List ℕ) {before after : List ℕ} {r : RecordRead} {w : Result ℕ Refusal}
    → ReadRecordCall s r → r.answer ≡ done
    → WriteRecordCall r.set before w after
    → length s + one_if (leaves_two_out s) ≤ length before
    → w ≡ Ok (length (encode (read_record s).set))
accepted_fits s handed accepted wrote room =
    let long = accepted_length s (sym handed.answer ∙ accepted) in
    rw handed.set at (run_writes wrote handed.legal (rw handed.set (omega arith)))

-- same sets, written into buffers that held the same, give the same length or refusal and
-- the same bytes
pub same_runs : {a b : Curves} {before after-a after-b : List ℕ} {w x : Result ℕ Refusal} → Same a b
    → WriteRecordCall a before w after-a → WriteRecordCall b before x after-b
    → (w ≡ x) × (after-a ≡ after-b)
same_runs {a} {b} {before} same left right =
    let e = same_written a b before same in (
      left.answer ∙ ap length_or_refusal e ∙ sym right.answer,
      left.buffer ∙ ap (λ (r : Write). r.buffer) e ∙ sym right.buffer,
    )

-- of a run that answers a length, the first byte of the buffer is a map with bit 7, and with bit 4
-- unless the kind is 3
pub written_map : {set : Curves} {before after : List ℕ} {w : Result ℕ Refusal} {n : ℕ}
    → WriteRecordCall set before w after → w ≡ Ok n
    → (bit 128 (get_or after 0 0) ≡ true)
    × (bit 16 (get_or after 0 0) ≡ not (eqb (kind_number set.interpolation) 3))
unfolding encode
written_map {set} {before} wrote done =
    let d = done_case set before (run_done wrote done) in
    rw (wrote.buffer, write_done set before d.0 d.1) (writer_sets (view_of set))

-- ---- heights
module _ (s : List ℕ) {r : RecordRead} (handed : ReadRecordCall s r) where
  -- a set that was read, on a refusal too, has whole heights
  pub read_heights : HoldsLevels (view_of r.set)
  read_heights = rw handed.set (read_whole s)

  -- and passes the check of a set call
  pub read_passes : set_answer Fine r.set ≡ done
  read_passes = fine_set Whole r.set handed.legal

  -- the reader never answers 20
  pub reader_never_20 : r.answer ≡ Err HeightRange → ⊥
  reader_never_20 e = never_20 s (ap number_of (sym handed.answer ∙ e))

module _ {set : Curves} {before after : List ℕ} {w : Result ℕ Refusal}
    (wrote : WriteRecordCall set before w after)
  where
    -- a set that was written has whole heights
    pub written_heights : {n : ℕ} → w ≡ Ok n → HoldsLevels (view_of set)
    written_heights done = passed_whole_set set (done_case set before (run_done wrote done)).0

    -- of one that passes the check of a set call
    module _ (fine : set_answer Fine set ≡ done) where
      lists_refused : is_done (set_answer Whole set) ≡ false → w ≡ Err HeightRange
      unfolding set_answer
      lists_refused t =
          run_refused wrote
          (write_answer set before
          ∙ sym (first_stops (set_checks (curve_checks Whole) set) _ (refused_20 set fine t)))

      -- every refusal but 13 is 20
      pub only_20 : ((n : ℕ) → w ≡ Ok n → ⊥) → (w ≡ Err OutputTooSmall → ⊥) → w ≡ Err HeightRange
      only_20 refused roomy =
          by_test (is_done (set_answer Whole set))
          (λ t.
          let e = passed_not_refused wrote (done_is (set_answer Whole set) t) in
          by_test (ltb (length before) (length (encode (view_of set))))
          (λ u. absurd (roomy (run_refused wrote (sym (run_answer wrote) ∙ e ∙ rw u))))
          (λ u. let v = handed_value w (e ∙ rw u) in absurd (refused v.0 v.1)))
          lists_refused

      -- where a height is no multiple of 256, it is refused with 20, whatever the room
      pub not_whole_refused : (HoldsLevels (view_of set) → ⊥) → w ≡ Err HeightRange
      not_whole_refused not_whole =
          by_test (is_done (set_answer Whole set))
          (λ t. absurd (not_whole (passed_whole_set set (done_is (set_answer Whole set) t))))
          lists_refused

      -- where each is, for its room alone
      pub whole_not_refused : HoldsLevels (view_of set)
          → answer_of w
          ≡ first_refusal (room_check (length (encode (view_of set))) (length before) ∷ [])
      whole_not_refused whole = passed_not_refused wrote (whole_set_passes set fine whole)
