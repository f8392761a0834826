-- The second demand. "Everywhere else tables and pictures equal the Rust's, bit for bit": that is
-- a matter of running both, and docs/DIFFERENCES.md has what was compared. What is proved is
-- here: each call that answers 0 gives what its definition says, the definitions are those of the
-- published curves, and records survive writing then reading. What a call gives with another
-- number is the first demand's.
use Rattle.std.specs.Prelude.{ℕ, ◌+◌, ◌≤◌, ◌<◌, ◌≡◌, true, List, [], ◌∷◌, ◌++◌, ℤ, length, take, drop, T, Float, Result, Ok, Err}
use Rattle.std.proofs.Common.{arith}
use Rattle.std.specs.Float.Ieee.Scale.{finite}
use Rattle.lists.specs.Tabulate.{tabulate}
use Rattle.answers.specs.declared.Refusal.{Refusal}
use Rattle.answers.specs.declared.Refusal.TheVariants.{OutputTooSmall}
use Rattle.answers.specs.Numbers.{number_of, answer_of, Answer, done}
use Rattle.answers.specs.Checks.{first_refusal, room_check}
use Rattle.single.specs.Rules.{byte_of}
use Rattle.points.specs.declared.Point.{Point}
use Rattle.points.specs.declared.Curve.{Curve}
use Rattle.points.specs.declared.Sorted.{Sorted}
use Rattle.points.specs.declared.Heights.TheVariants.{Whole}
use Rattle.points.specs.Points.{list_of, kept, NewCall}
use Rattle.points.specs.Order.{All, Proper}
use Rattle.tangents.specs.CatmullRom.{catmull_rom_at, cardinal_at}
use Rattle.monotone.specs.Monotone.{circle_at, box_at}
use Rattle.chords.specs.Alpha.{centripetal_at, chordal_at}
use Rattle.spline.specs.declared.SplineBoundary.TheVariants.{Natural, Clamped, NotAKnot}
use Rattle.spline.specs.Segments.{slope_of}
use Rattle.sampling.specs.Pieces.{piece_height}
use Rattle.tables.specs.declared.CurveInterpolation.{CurveInterpolation}
use Rattle.tables.specs.declared.CurveInterpolation.TheVariants.{
  Linear,
  CatmullRom,
  MonotoneCubic,
  MonotoneCubicBox,
  NaturalCubic,
  CentripetalCatmullRom,
  ChordalCatmullRom,
  Cardinal,
  ClampedCubic,
  NotAKnotCubic,
}
use Rattle.tables.specs.declared.Lut.{Lut}
use Rattle.tables.specs.Kinds.{LegalKind}
use Rattle.tables.specs.Tables.{sample_of, entry_of, BuildTableCall, BuildLutCall}
use Rattle.table_facts.specs.Through.{byte_sample_finite, fine_sample_finite}
use Rattle.lookup.specs.Lookup.{looked, LookupCall}
use Rattle.sets.specs.declared.Curves.{Curves}
use Rattle.sets.specs.Sets.{View, view_of, set_answer}
use Rattle.sets.specs.Legal.{Legal}
use Rattle.sets.specs.Same.{Same}
use Rattle.records.specs.declared.RecordRead.{RecordRead}
use Rattle.records.specs.Format.{read_record}
use Rattle.records.specs.Views.{ReadRecordCall}
use Rattle.writing.specs.Encode.{one_if, encode}
use Rattle.writing.specs.Statements.{WriteRecordCall}
use Rattle.record_facts.specs.Found.{AllBytes}
use Rattle.record_facts.specs.Canonical as Canonical
use Rattle.record_facts.specs.Canonical.{leaves_two_out, has_writer_form, named_in_full}
use Rattle.record_facts.specs.NotLonger as NotLonger
use Rattle.record_facts.specs.Runs as Writing
use Rattle.record_facts.proofs.RoomLaws as RoomLaws
use Rattle.record_facts.proofs.RoundTripLaws as RoundTripLaws
use Rattle.record_facts.proofs.WriterFormLaws as WriterFormLaws
use Rattle.formats.specs.declared.PixelFormat.{PixelFormat}
use Rattle.pictures.specs.OneTable.{OneTableCall}
use Rattle.promises.specs.Words.{Call, Accepted, ExactPicture}
use Rattle.promises.specs.Results.{straightly, hermite_by, spline_by, ExactPlane}
use Rattle.promises.specs.ResultFacts as Fact
use Rattle.promises.specs.Drawn.{drawn}
use Rattle.promises.specs.RunFacts.{output_holds, tight_entry, alpha_copied}
use Rattle.promises.specs.PictureFacts.{defined_by}

-- ---- "tables"
-- `Curve::new`: the kept points
pub new : {given : Curve} {r : Sorted} → NewCall given r → number_of r.answer ≡ 0
    → list_of r.curve ≡ kept (list_of given)
new = Fact.new_sorts

-- `build_lut`: each of 256 samples to a byte
pub build_lut : {given : Curve} {kind : CurveInterpolation} {r : Lut} → BuildLutCall given kind r
    → number_of r.answer ≡ 0
    → r.table ≡ tabulate 256 (λ v. byte_of (sample_of kind (list_of given) 256 v))
unfolding entry_of
build_lut = Fact.build_lut_builds

-- `build_table`: as many samples as the slice holds
pub build_table : {given : Curve} {kind : CurveInterpolation} {old new : List Float} {r : Answer}
    → BuildTableCall given kind old r new → number_of r ≡ 0
    → new ≡ tabulate (length old) (λ v. sample_of kind (list_of given) (length old) v)
build_table = Fact.build_table_builds

-- each of these samples is finite, under every kind, and so none is NaN: of 256, and of 4,096
pub samples_finite : (kind : CurveInterpolation) → LegalKind kind
    → (l : List Point) → All Proper l
    → ((v : ℕ) → v < 256 → T (finite (sample_of kind l 256 v)))
    × ((v : ℕ) → v < 4096 → T (finite (sample_of kind l 4096 v)))
samples_finite kind legal l proper =
    (byte_sample_finite l proper kind legal, fine_sample_finite l proper kind legal)

-- `lookup`: each value replaced
pub lookup : {table old new : List Float} {r : Answer} → LookupCall table old r new → number_of r ≡ 0
    → new ≡ tabulate (length old) (λ k. looked table old k)
lookup = Fact.lookup_replaces

-- ---- "and pictures"
-- `apply_tone_lut`
pub apply_tone_lut :
    {format : PixelFormat} {width height step : ℕ} {table old new : List ℕ} {r : Answer}
    → OneTableCall format width height step table old r new → number_of r ≡ 0
    → ExactPlane format width height step table old new
apply_tone_lut call zero =
    record {
      plane_is = Fact.plane_is call zero;
      toned = λ y x j below left channel other.
          Fact.byte_toned call zero y x j (omega arith) left channel other;
      alpha = Fact.alpha_stays call zero;
      padding = Fact.beside_stays call zero;
      long = Fact.plane_long call zero;
    }

-- `apply_pixels`
pub apply_pixels : (a : Call) → Accepted a → ExactPicture a
apply_pixels a ok =
    defined_by a ok (output_holds a ok) (tight_entry a ok) (alpha_copied a ok)

-- ---- "The port is also proved equal to definitions of the published curves in single precision"
-- sample v of S of the curve of the list l, kind by kind
module _ (l : List Point) (S v : ℕ) where
  -- the straight line
  pub linear : sample_of Linear l S v ≡ straightly l S v
  unfolding piece_height
  linear = drawn l S v Linear

  -- Catmull and Rom, "A class of local interpolating splines", 1974
  pub catmull_rom : sample_of CatmullRom l S v ≡ hermite_by l S v catmull_rom_at
  unfolding piece_height
  catmull_rom = drawn l S v CatmullRom

  pub cardinal : (q : ℕ) → sample_of (Cardinal q) l S v ≡ hermite_by l S v (cardinal_at q)
  unfolding piece_height
  cardinal q = drawn l S v (Cardinal q)

  -- Fritsch and Carlson, "Monotone Piecewise Cubic Interpolation", 1980: the circle, and the box
  pub monotone_cubic : sample_of MonotoneCubic l S v ≡ hermite_by l S v circle_at
  unfolding piece_height
  monotone_cubic = drawn l S v MonotoneCubic

  pub monotone_cubic_box : sample_of MonotoneCubicBox l S v ≡ hermite_by l S v box_at
  unfolding piece_height
  monotone_cubic_box = drawn l S v MonotoneCubicBox

  -- Barry and Goldman, "A recursive evaluation algorithm for a class of Catmull-Rom splines", 1988:
  -- by the root of the chord, and by the chord
  pub centripetal_catmull_rom : sample_of CentripetalCatmullRom l S v ≡ hermite_by l S v centripetal_at
  unfolding piece_height
  centripetal_catmull_rom = drawn l S v CentripetalCatmullRom

  pub chordal_catmull_rom : sample_of ChordalCatmullRom l S v ≡ hermite_by l S v chordal_at
  unfolding piece_height
  chordal_catmull_rom = drawn l S v ChordalCatmullRom

  -- de Boor, "A Practical Guide to Splines", 1978
  pub natural_cubic : sample_of NaturalCubic l S v ≡ spline_by l S v Natural
  unfolding piece_height
  natural_cubic = drawn l S v NaturalCubic

  pub clamped_cubic : (start end : ℤ)
      → sample_of (ClampedCubic start end) l S v
      ≡ spline_by l S v (Clamped (slope_of start) (slope_of end))
  unfolding piece_height
  clamped_cubic start end = drawn l S v (ClampedCubic start end)

  pub not_a_knot_cubic : sample_of NotAKnotCubic l S v ≡ spline_by l S v NotAKnot
  unfolding piece_height
  not_a_knot_cubic = drawn l S v NotAKnotCubic

-- ---- "and records survive writing then reading."
-- `read_record`: the set of the definition
pub read_record_lem : (s : List ℕ) {r : RecordRead} → ReadRecordCall s r
    → view_of r.set ≡ (read_record s).set
read_record_lem s call = call.set

-- `write_record`: the set's record at the front of the buffer, the rest of it unchanged
pub write_record_lem : {set : Curves} {old new : List ℕ} {r : Result ℕ Refusal}
    → WriteRecordCall set old r new → number_of (answer_of r) ≡ 0
    → (r ≡ Ok (length (encode (view_of set))))
    × (new ≡ encode (view_of set) ++ drop (length (encode (view_of set))) old)
write_record_lem = Fact.write_record_writes

-- what was written, up to its length, is read without a refusal as the same set
pub written_then_read : {set : Curves} {old new : List ℕ} {w : Result ℕ Refusal} {n : ℕ}
    {r : RecordRead}
    → WriteRecordCall set old w new → w ≡ Ok n
    → ReadRecordCall (take n new) r → (r.answer ≡ done) × Same r.set set
written_then_read = RoundTripLaws.written_then_read

-- on the definitions: the record of every set that passes its check, with a tension of a byte or
-- slopes of 16 bits, is read as that set
pub round_trip : (v : View) → Legal Whole v → LegalKind v.kind
    → read_record (encode v) ≡ record { answer = done; set = v }
round_trip = RoundTripLaws.round_trip

-- and a set that was read can be written: its record is not longer than the one it was read from,
-- but for a byte where that one leaves kind 2 out, the writer refuses it for want of room alone ..
pub not_longer : (s : List ℕ) → (read_record s).answer ≡ done
    → length (encode (read_record s).set) ≤ length s + one_if (leaves_two_out s)
not_longer = NotLonger.not_longer

pub accepted_not_refused : (s : List ℕ) {old new : List ℕ} {r : RecordRead} {w : Result ℕ Refusal}
    → ReadRecordCall s r → WriteRecordCall r.set old w new
    → answer_of w ≡ first_refusal (room_check (length (encode (read_record s).set)) (length old) ∷ [])
accepted_not_refused = Writing.accepted_not_refused

-- .. and never in a buffer that is so much longer than that record
pub accepted_fits : (s : List ℕ) {old new : List ℕ} {r : RecordRead} {w : Result ℕ Refusal}
    → ReadRecordCall s r → r.answer ≡ done
    → WriteRecordCall r.set old w new
    → length s + one_if (leaves_two_out s) ≤ length old
    → w ≡ Ok (length (encode (read_record s).set))
accepted_fits = Writing.accepted_fits

-- .. nor any set whose lists pass the check in 522 bytes: they always suffice
pub always_fits : {set : Curves} {old new : List ℕ} {w : Result ℕ Refusal}
    → WriteRecordCall set old w new → 522 ≤ length old
    → (answer_of w ≡ set_answer Whole set) × (w ≡ Err OutputTooSmall → ⊥)
always_fits = RoomLaws.always_fits

-- records are canonical: the same sets are written as the same bytes ..
pub same_bytes : {a b : Curves} {old newA new_b : List ℕ} {w x : Result ℕ Refusal} → Same a b
    → WriteRecordCall a old w newA → WriteRecordCall b old x new_b → (w ≡ x) × (newA ≡ new_b)
same_bytes = Writing.same_runs

-- .. an accepted record has the writer's, but for bit 7 and the naming of its kind ..
pub accepted_in_full : (s : List ℕ) → AllBytes s → (read_record s).answer ≡ done
    → named_in_full s ≡ named_in_full (encode (read_record s).set)
accepted_in_full = Canonical.accepted_in_full

-- .. and comes back byte for byte if it has bit 7 and does not name kind 3
pub returned : (s : List ℕ) {old new : List ℕ} {r : RecordRead} {w : Result ℕ Refusal} {n : ℕ}
    → AllBytes s → ReadRecordCall s r → r.answer ≡ done
    → has_writer_form s ≡ true → WriteRecordCall r.set old w new → w ≡ Ok n
    → (n ≡ length s) × (take n new ≡ s)
returned = WriterFormLaws.returned
