-- A record that has the writer's form comes back byte for byte, by the definitions and in any run.
use Rattle.std.specs.Prelude.{ℕ, ◌≡◌, List, [], ◌∷◌, true, length, take, drop, Bool, Result, Ok}
use Rattle.std.proofs.Common.{ap, ◌∙◌}
use Rattle.std.proofs.Math.Path.{sym}
use Rattle.std.proofs.Math.Seq.{take-append_seam}
use Rattle.sets.specs.Sets.{view_of}
use Rattle.records.specs.declared.RecordRead.{RecordRead}
use Rattle.records.specs.Map.{bit}
use Rattle.records.specs.Format.{read_record}
use Rattle.records.specs.Views.{ReadRecordCall}
use Rattle.writing.specs.Encode.{encode}
use Rattle.writing.specs.Cases.{write_done, done_case, run_done, run_length}
use Rattle.writing.specs.Statements.{WriteRecordCall}
use Rattle.record_facts.specs.Found.{AllBytes}
use Rattle.record_facts.specs.Canonical.{has_writer_form, encode_is, no_map, as_written}
use Rattle.record_facts.specs.Spelling.{record_naming, record_is}
use Rattle.answers.specs.declared.Refusal.{Refusal}
use Rattle.answers.specs.Numbers.{done}

-- one that has the writer's form is what the writer makes of its set
pub accepted_is : (s : List ℕ) → AllBytes s → (read_record s).answer ≡ done → has_writer_form s ≡ true
    → encode (read_record s).set ≡ s
accepted_is [] bytes accepted e = absurd (no_map accepted)
accepted_is (m ∷ s) bytes accepted e =
    let w = as_written m s accepted e in
    let set = (read_record (m ∷ s)).set in
    encode_is set
    ∙ sym (record_is m s accepted bytes
    ∙ ap (λ (b : Bool). record_naming b (bit 16 m) set) w.0
    ∙ ap (λ (b : Bool). record_naming true b set) w.1)

-- a record that was accepted and has the writer's form comes back byte for byte
pub returned : (s : List ℕ) {before after : List ℕ} {r : RecordRead} {w : Result ℕ Refusal} {n : ℕ} → AllBytes s
    → ReadRecordCall s r → r.answer ≡ done
    → has_writer_form s ≡ true → WriteRecordCall r.set before w after → w ≡ Ok n
    → (n ≡ length s) × (take n after ≡ s)
returned s {before} {r = r} {n = n} bytes handed accepted form wrote done =
    let d = done_case r.set before (run_done wrote done) in
    let made : encode (view_of r.set) ≡ s =
    rw handed.set (accepted_is s bytes (sym handed.answer ∙ accepted) form) in
    let e = write_done r.set before d.0 d.1 in
    let long : n ≡ length s = run_length wrote done ∙ rw (e, made) in
    (long, rw (long, wrote.buffer, e, made) (take-append_seam s (drop (length s) before)))
