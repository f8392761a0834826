-- The three demands at the C boundary, whose calls answer with the number itself: that of the first
-- of the call's checks that fails, 0 where none does. Where it is a refusal, what was lent is as it
-- was; with 0 the call gives what its definition says. These two are here; the third, of two
-- calls of `tone_picture`, is BoundaryDemand3.
use Rattle.std.specs.Prelude.{ℕ, ◌≡◌, cond, List, ◌++◌, eqb, ℤ, length, drop, Float}
use Rattle.std.proofs.Common.{arith, true≢false}
use Rattle.lists.specs.Tabulate.{tabulate}
use Rattle.lists.specs.Test.{by_test}
use Rattle.tables.specs.Kinds.{kind_of}
use Rattle.tables.specs.Tables.{byte_table, fine_table}
use Rattle.lookup.specs.Lookup.{lookup_checks, looked, looked_up}
use Rattle.formats.specs.Checks.{chroma_read}
use Rattle.pictures.specs.OneTable.{toned_within}
use Rattle.pictures.specs.Runs.{Outputs, tables_of, tight_rows}
use Rattle.formats.specs.Formats.{format_of}
use Rattle.tone_c.specs.Boundary.{
  pairs_of,
  set_of,
  copy_of,
  tone_table_checks,
  tone_fine_table_checks,
  tone_plane_checks,
  tone_picture_checks,
  tone_record_table_checks,
  tone_record_copy_checks,
  ToneTableCall,
  ToneFineTableCall,
  ToneLookupCall,
  TonePlaneCall,
  PictureAsked,
  TonePictureCall,
  ToneRecordTableCall,
  ToneRecordCopyCall,
}
use Rattle.tone_c.specs.PictureLaws.{first_is, cb_is, cr_is}
use Rattle.promises.specs.Checks.{Answers, answers}

-- ---- the first demand, call by call
pub tone_table : {points old new : List ℕ} {kind tension r : ℕ} {start end : ℤ}
    → ToneTableCall points kind tension start end old r new
    → Answers (tone_table_checks points kind (length old)) r (new ≡ old)
tone_table call = answers call.number (λ no. rw no at call.table)

pub tone_fine_table : {points : List ℕ} {kind tension r : ℕ} {start end : ℤ} {old new : List Float}
    → ToneFineTableCall points kind tension start end old r new
    → Answers (tone_fine_table_checks points kind (length old)) r (new ≡ old)
tone_fine_table call = answers call.number (λ no. rw no at call.table)

pub tone_lookup : {table old new : List Float} {r : ℕ} → ToneLookupCall table old r new
    → Answers (lookup_checks (length table)) r (new ≡ old)
unfolding looked_up
tone_lookup {table} call =
    answers call.number
    (λ no. by_test (eqb (length table) 4096) (λ t. absurd (true≢false (rw (call.number, t) at no)))
    (λ t. rw t at call.values))

pub tone_plane : {table old new : List ℕ} {format width height step r : ℕ}
    → TonePlaneCall table format width height step old r new
    → Answers (tone_plane_checks format width height step (length old)) r (new ≡ old)
tone_plane call = answers call.number (λ no. rw no at call.plane)

pub tone_picture : {asked : PictureAsked} {r : ℕ} {after : Outputs} → TonePictureCall asked r after
    → Answers (tone_picture_checks asked) r (after ≡ asked.lent.outputs)
tone_picture {r = r} call =
    answers call.number (λ no. call.unchanged (λ zero. true≢false (rw zero at no)))

pub tone_record_table : (stored : List ℕ) {old new : List ℕ} {r : ℕ}
    → ToneRecordTableCall stored old r new
    → Answers (tone_record_table_checks stored (length old)) r (new ≡ old)
tone_record_table stored call = answers call.number (λ no. rw no at call.table)

pub tone_record_copy : (stored : List ℕ) {old new : List ℕ} {oldWritten newWritten r : ℕ}
    → ToneRecordCopyCall stored old oldWritten r new newWritten
    → Answers (tone_record_copy_checks stored (length old)) r ((new ≡ old) × (newWritten ≡ oldWritten))
tone_record_copy stored call =
    answers call.number (λ no. (rw no at call.out, rw no at call.written))

-- ---- the second
pub tone_table_gives : {points old new : List ℕ} {kind tension r : ℕ} {start end : ℤ}
    → ToneTableCall points kind tension start end old r new → r ≡ 0
    → new ≡ byte_table (kind_of kind tension start end) (pairs_of points) ++ drop 256 old
tone_table_gives call zero = rw zero at call.table

pub tone_fine_table_gives :
    {points : List ℕ} {kind tension r : ℕ} {start end : ℤ} {old new : List Float}
    → ToneFineTableCall points kind tension start end old r new → r ≡ 0
    → new ≡ fine_table (kind_of kind tension start end) (pairs_of points) (length old)
tone_fine_table_gives call zero = rw zero at call.table

pub tone_lookup_gives : {table old new : List Float} {r : ℕ} → ToneLookupCall table old r new
    → r ≡ 0 → new ≡ tabulate (length old) (λ k. looked table old k)
unfolding looked_up
tone_lookup_gives {table} call zero =
    by_test (eqb (length table) 4096) (λ t. rw t at call.values)
    (λ t. absurd (omega (arith, zero, rw t at call.number)))

pub tone_plane_gives : {table old new : List ℕ} {format width height step r : ℕ}
    → TonePlaneCall table format width height step old r new → r ≡ 0
    → new ≡ toned_within (format_of format) width height step table old
tone_plane_gives call zero = rw zero at call.plane

pub tone_picture_gives : {asked : PictureAsked} {r : ℕ} {after : Outputs}
    → TonePictureCall asked r after → r ≡ 0
    → let f = format_of asked.format in
    let lent = asked.lent in
    let old = lent.outputs in
    (after.first
    ≡ tight_rows f asked.width asked.height lent.plane.step
    (tables_of f (set_of asked.stored)) lent.plane.bytes old.first)
    × (after.cb
    ≡ cond (chroma_read f) (lent.cb.bytes ++ drop (length lent.cb.bytes) old.cb) old.cb)
    × (after.cr
    ≡ cond (chroma_read f) (lent.cr.bytes ++ drop (length lent.cr.bytes) old.cr) old.cr)
tone_picture_gives call zero =
    (rw zero at (first_is call), rw zero at (cb_is call), rw zero at (cr_is call))

pub tone_record_table_gives : (stored : List ℕ) {old new : List ℕ} {r : ℕ}
    → ToneRecordTableCall stored old r new → r ≡ 0
    → new ≡ byte_table (set_of stored).kind (set_of stored).master ++ drop 256 old
tone_record_table_gives stored call zero = rw zero at call.table

pub tone_record_copy_gives : (stored : List ℕ) {old new : List ℕ} {oldWritten newWritten r : ℕ}
    → ToneRecordCopyCall stored old oldWritten r new newWritten → r ≡ 0
    → (new ≡ copy_of stored ++ drop (length (copy_of stored)) old)
    × (newWritten ≡ length (copy_of stored))
tone_record_copy_gives stored call zero = (rw zero at call.out, rw zero at call.written)
