-- What a call that answers 0 gives.
use Rattle.std.specs.Prelude.{ℕ, ◌*◌, ◌<◌, ◌≡◌, false, List, ◌++◌, eqb, length, get_or, drop, Float, Result, Ok}
use Rattle.std.proofs.Common.{arith, sym, ap, ◌∙◌}
use Rattle.lists.specs.Each.{length_each}
use Rattle.lists.specs.Tabulate.{tabulate}
use Rattle.lists.specs.Test.{by_test}
use Rattle.answers.specs.declared.Refusal.{Refusal}
use Rattle.answers.specs.Numbers.{number_of, answer_of, Answer, done}
use Rattle.answers.proofs.NumberLaws.{number_unique}
use Rattle.points.specs.declared.Curve.{Curve}
use Rattle.points.specs.declared.Sorted.{Sorted}
use Rattle.points.specs.Points.{list_of, kept, NewCall}
use Rattle.tables.specs.declared.CurveInterpolation.{CurveInterpolation}
use Rattle.tables.specs.declared.Lut.{Lut}
use Rattle.tables.specs.Tables.{fine_table, byte_table, BuildTableCall, BuildLutCall}
use Rattle.lookup.specs.Lookup.{looked, looked_up, LookupCall}
use Rattle.sets.specs.declared.Curves.{Curves}
use Rattle.sets.specs.Sets.{view_of}
use Rattle.writing.specs.Encode.{encode}
use Rattle.writing.specs.Cases.{write_done, done_case, run_answer}
use Rattle.writing.proofs.RunLaws.{run_writes}
use Rattle.writing.specs.Statements.{WriteRecordCall}
use Rattle.rows.specs.Bytes.{same, row_byte}
use Rattle.rows.specs.Rows.{Rows, in_row, plane_byte}
use Rattle.rows.specs.Laws.{toned_through, toned_kept, plane_pixel, padding_stays}
use Rattle.formats.specs.declared.PixelFormat.{PixelFormat}
use Rattle.formats.specs.Formats.{bytes_a_pixel, alpha_of}
use Rattle.formats.specs.CheckLaws.{lut_done}
use Rattle.pictures.specs.OneTable.{toned_within, OneTableCall}
use Rattle.promises.specs.Results.{byte_index, ExactPlane}

module _ {given : Curve} where
  pub new_sorts : {r : Sorted} → NewCall given r → number_of r.answer ≡ 0
      → list_of r.curve ≡ kept (list_of given)
  new_sorts {r} call zero = rw (number_unique r.answer done zero) at call.list

  pub build_lut_builds : {kind : CurveInterpolation} {r : Lut} → BuildLutCall given kind r
      → number_of r.answer ≡ 0 → r.table ≡ byte_table kind (list_of given)
  build_lut_builds {r = r} call zero = rw (number_unique r.answer done zero) at call.table

  pub build_table_builds : {kind : CurveInterpolation} {old new : List Float} {r : Answer}
      → BuildTableCall given kind old r new → number_of r ≡ 0
      → new ≡ fine_table kind (list_of given) (length old)
  build_table_builds {r = r} call zero = rw (number_unique r done zero) at call.table

pub lookup_replaces : {table old new : List Float} {r : Answer} → LookupCall table old r new
    → number_of r ≡ 0 → new ≡ tabulate (length old) (looked table old)
unfolding looked_up
lookup_replaces {table} call zero =
    by_test (eqb (length table) 4096) (λ t. rw t at call.values)
    (λ t. absurd (omega (arith, zero, ap number_of (rw t at call.answer))))

-- ---- pictures
-- a plane toned by one table, byte by byte
module _ {f : PixelFormat} {w h step : ℕ} {table old new : List ℕ} {r : Answer}
    (call : OneTableCall f w h step table old r new) (zero : number_of r ≡ 0) where
  rows : Rows w h (w * bytes_a_pixel f) step (length old)
  rows = (lut_done f w h step (length old) (sym call.answer ∙ number_unique r done zero)).rows

  pub plane_is : new ≡ toned_within f w h step table old
  plane_is = rw (number_unique r done zero) at call.plane

  pub byte_toned : (y x j : ℕ) → y < h → x < w → j < bytes_a_pixel f → (j ≡ alpha_of f → ⊥)
      → get_or new (byte_index f step y x j) 0
      ≡ get_or table (get_or old (byte_index f step y x j) 0) 0
  byte_toned y x j below left channel other =
      let pixel = plane_pixel w h step (bytes_a_pixel f) (alpha_of f) (same table) old in
      rw plane_is
      (pixel y x j rows below left channel ∙ toned_through (alpha_of f) j (same table) _ other)

  pub alpha_stays : (y x j : ℕ) → y < h → x < w → j < bytes_a_pixel f → j ≡ alpha_of f
      → get_or new (byte_index f step y x j) 0 ≡ get_or old (byte_index f step y x j) 0
  alpha_stays y x j below left channel alpha =
      let pixel = plane_pixel w h step (bytes_a_pixel f) (alpha_of f) (same table) old in
      rw plane_is
      (pixel y x j rows below left channel ∙ toned_kept (alpha_of f) j (same table) _ alpha)

  pub beside_stays : (k : ℕ) → in_row (w * bytes_a_pixel f) h step k ≡ false
      → get_or new k 0 ≡ get_or old k 0
  beside_stays k out =
      let p = bytes_a_pixel f in
      rw plane_is
      (padding_stays (w * p) h step (row_byte p (alpha_of f) (same table)) old k out)

  pub plane_long : length new ≡ length old
  plane_long =
      let p = bytes_a_pixel f in
      rw plane_is
      (length_each (plane_byte (w * p) h step (row_byte p (alpha_of f) (same table))) old)

-- in the words of Results. Demand2 puts its own together: nothing rests on this
pub apply_tone_lut_tones : {f : PixelFormat} {w h step : ℕ} {table old new : List ℕ} {r : Answer}
    → OneTableCall f w h step table old r new → number_of r ≡ 0
    → ExactPlane f w h step table old new
apply_tone_lut_tones call zero =
    record {
      plane_is = plane_is call zero;
      toned = λ y x j below left channel other.
          byte_toned call zero y x j (omega arith) left channel other;
      alpha = alpha_stays call zero;
      padding = beside_stays call zero;
      long = plane_long call zero;
    }

-- ---- records
pub write_record_writes : {set : Curves} {old new : List ℕ} {r : Result ℕ Refusal}
    → WriteRecordCall set old r new → number_of (answer_of r) ≡ 0
    → (r ≡ Ok (length (encode (view_of set))))
    × (new ≡ encode (view_of set) ++ drop (length (encode (view_of set))) old)
write_record_writes {set} {old} {r = r} call zero =
    let d = done_case set old (sym (run_answer call) ∙ number_unique (answer_of r) done zero) in
    (run_writes call d.0 d.1, rw (write_done set old d.0 d.1) at call.buffer)
