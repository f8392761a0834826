-- Reading what the writer wrote gives the same set back, for every set that the writer takes, and
-- so with whole heights, and every buffer with room.
use Rattle.std.specs.Prelude.{ℕ, ◌≡◌, refl, List, [], ◌∷◌, ◌++◌, length, take, drop, Result, Ok}
use Rattle.std.proofs.Common.{arith}
use Rattle.std.proofs.Math.Option.{Option, none, some}
use Rattle.std.proofs.Math.Seq.{take-append_seam}
use Rattle.points.specs.declared.Point.{Point}
use Rattle.points.specs.declared.Heights.TheVariants.{Whole}
use Rattle.tables.specs.Kinds.{LegalKind}
use Rattle.sets.specs.declared.Curves.{Curves}
use Rattle.sets.specs.Legal.{LegalList, LegalColour, Legal, legal_view}
use Rattle.sets.specs.Sets.{View, view_of}
use Rattle.records.specs.Parse.{good}
use Rattle.records.specs.PointLists.{read_field}
use Rattle.records.specs.Format.{read_fields, read_record}
use Rattle.writing.specs.Encode.{field_bytes, master_field, kind_bytes, carried_bytes, there, encode, write_record}
use Rattle.writing.specs.Cases.{write_done, done_case, run_done, run_length, run_held}
use Rattle.writing.specs.Map.{map_back}
use Rattle.sets.specs.Same.{Same}
use Rattle.sets.specs.SameLaws.{view_same}
use Rattle.records.specs.declared.RecordRead.{RecordRead}
use Rattle.records.specs.Views.{ReadRecordCall}
use Rattle.writing.specs.Statements.{WriteRecordCall}
use Rattle.record_facts.specs.RoundTrip.{list_or, list_back, colour_back, kind_back, regroup}
use Rattle.answers.specs.declared.Refusal.{Refusal}
use Rattle.answers.specs.Numbers.{done}

-- ---- a field
field_back : (o : Option (List Point)) (t : List ℕ) → LegalColour Whole o
    → read_field (there o) 0 (field_bytes o ++ t) ≡ good (list_or o) t
field_back none t h = refl
field_back (some l) t h = list_back 0 l t h (omega arith)

master_back : (l : List Point) (t : List ℕ) → LegalList Whole l
    → read_field (there (master_field l)) 1 (field_bytes (master_field l) ++ t) ≡ good l t
master_back [] t h = refl
master_back (p ∷ l) t h = list_back 1 (p ∷ l) t h (omega arith)

-- ---- the record
-- for every set whose lists, with whole heights, and kind are legal
pub round_trip : (v : View) → Legal Whole v → LegalKind v.kind
    → read_record (encode v) ≡ record { answer = done; set = v }
unfolding read_record encode read_fields
round_trip v h legal =
    let master = master_field v.master in
    let red = field_bytes v.red in
    let green = field_bytes v.green in
    let blue = field_bytes v.blue in
    let kind = kind_bytes v.kind in
    let carried = carried_bytes v.kind in
    let map = map_back master v.red v.green v.blue v.kind in
    rw (
      map.newer,
      regroup (field_bytes master) red green blue kind carried,
      map.master,
      master_back v.master (red ++ (green ++ (blue ++ (kind ++ carried)))) h.master,
      map.red,
      field_back v.red (green ++ (blue ++ (kind ++ carried))) h.red,
      map.green,
      field_back v.green (blue ++ (kind ++ carried)) h.green,
      map.blue,
      field_back v.blue (kind ++ carried) h.blue,
      kind_back v.kind _ legal map.kind map.carried,
      colour_back v.red,
      colour_back v.green,
      colour_back v.blue,
    )

-- what the writer leaves in the buffer, read up to the length written
pub written_back : (s : Curves) (buffer : List ℕ) → LegalKind s.interpolation
    → (write_record s buffer).answer ≡ done
    → read_record (take (write_record s buffer).length (write_record s buffer).buffer)
    ≡ record { answer = done; set = view_of s }
written_back s buffer legal done =
    let d = done_case s buffer done in
    let e = encode (view_of s) in
    rw (write_done s buffer d.0 d.1, take-append_seam e (drop (length e) buffer))
    (round_trip (view_of s) (legal_view Whole s d.0) legal)

-- ---- a run of each
module _ {set : Curves} {before after : List ℕ} {w : Result ℕ Refusal} {n : ℕ} {r : RecordRead} where
  -- "reading what the writer wrote gives the same set back": of a run that answers a length, the bytes
  -- up to it are read as the same set
  pub written_then_read : WriteRecordCall set before w after → w ≡ Ok n
      → ReadRecordCall (take n after) r
      → (r.answer ≡ done) × Same r.set set
  written_then_read wrote done handed =
      let written = run_done wrote done in
      let held = run_held wrote done in
      let back = written_back set before held.kind written in
      let h = rw (run_length wrote done, wrote.buffer, back) at handed in (
        h.answer,
        view_same Whole r.set set h.full held.full h.legal
            (done_case set before written).0 h.set,
      )
